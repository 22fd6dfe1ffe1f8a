-- What a term passes on to its arguments, all its subterms have.
use Rattle.std.specs.Prelude.{ℕ}
use Rattle.format.specs.Lists.{Every}
use Rattle.format.specs.Theory.Lists.{every_append}
use Rattle.terms.specs.Term.{Term, Terms, var, app, nil, cons}
use Rattle.terms.specs.Position.{subterms, subterms_of}

module _ (P : Term → Type 0) (All : Terms → Type 0) (arguments : (f : ℕ) (ts : Terms) → P (app f ts) → All ts) (each : (t : Term) (ts : Terms) → All (cons t ts) → P t × All ts) where
  mutual
    unfolding subterms

    pub subterms_have : (t : Term) → P t → Every P (subterms t)
    subterms_have (var v) h = (h, tt)
    subterms_have (app f ts) h = (h, subterms_of_have ts (arguments f ts h))

    subterms_of_have : (ts : Terms) → All ts → Every P (subterms_of ts)
    subterms_of_have nil h = tt
    subterms_of_have (cons t ts) h = let (a, b) = each t ts h in every_append P (subterms t) (subterms_of ts) (subterms_have t a) (subterms_of_have ts b)
