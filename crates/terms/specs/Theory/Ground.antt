-- Ground terms: those without a variable, parts of ground terms, and instances whose values are ground.
use Rattle.std.specs.Prelude.{ℕ, suc, ◌<◌, ◌≡◌, refl, List, get_or}
use Rattle.std.proofs.Common.{ap, ◌∙◌, arith}
use Rattle.format.specs.Theory.Lists.{every_at}
use Rattle.terms.specs.Term.{Term, Terms, var, app, nil, cons, size, count, Values, inst, insts, Ground, Grounds}
use Rattle.terms.specs.Position.{subterms}
use Rattle.terms.specs.ForContracts.Fits.{Fits, AllFit}
use Rattle.terms.specs.Theory.Position.{length_subterms}
use Rattle.terms.specs.Theory.Subterms.{subterms_have}
use Rattle.terms.specs.Theory.Variables.{VariablesIn, AllVariablesIn}

mutual
  pub ground_no_variable : (arities : List ℕ) (t : Term) → Ground arities t → VariablesIn (λ v. ⊥) t
  ground_no_variable arities (var v) g = g
  ground_no_variable arities (app f ts) g = grounds_no_variable arities ts g.2

  pub grounds_no_variable : (arities : List ℕ) (ts : Terms) → Grounds arities ts → AllVariablesIn (λ v. ⊥) ts
  grounds_no_variable arities nil g = tt
  grounds_no_variable arities (cons t ts) g = (ground_no_variable arities t g.0, grounds_no_variable arities ts g.1)

mutual
  pub no_variable_ground : (arities : List ℕ) (t : Term) → Fits arities t → VariablesIn (λ v. ⊥) t → Ground arities t
  no_variable_ground arities (var v) f h = absurd h
  no_variable_ground arities (app f ts) k h = (k.0, k.1, no_variable_grounds arities ts k.2 h)

  no_variable_grounds : (arities : List ℕ) (ts : Terms) → AllFit arities ts → AllVariablesIn (λ v. ⊥) ts → Grounds arities ts
  no_variable_grounds arities nil f h = tt
  no_variable_grounds arities (cons t ts) f h = (no_variable_ground arities t f.0 h.0, no_variable_grounds arities ts f.1 h.1)

-- The part at a position.
pub part_ground : (arities : List ℕ) (t : Term) (p : ℕ) (d : Term) → Ground arities t → p < size t → Ground arities (get_or (subterms t) p d)
part_ground arities t p d g l =
    every_at (Ground arities) (subterms t) p d (subterms_have (Ground arities) (Grounds arities) (λ f ts h. h.2) (λ u us h. h) t g) (omega (arith, length_subterms t))

count_insts : (ρ : Values) (ts : Terms) → count (insts ρ ts) ≡ count ts
unfolding inst count
count_insts ρ nil = refl
count_insts ρ (cons t ts) = ap suc (count_insts ρ ts)

-- An instance of a term over the sheet's symbols is ground where the values of its variables are.
module _ (arities : List ℕ) (ρ : Values) (P : ℕ → Type 0) (given : (v : ℕ) → P v → Ground arities (ρ v)) where
  mutual
    unfolding inst

    pub instance_ground : (t : Term) → Fits arities t → VariablesIn P t → Ground arities (inst ρ t)
    instance_ground (var v) f h = given v h
    instance_ground (app f ts) k h = (k.0, count_insts ρ ts ∙ k.1, instances_ground ts k.2 h)

    instances_ground : (ts : Terms) → AllFit arities ts → AllVariablesIn P ts → Grounds arities (insts ρ ts)
    instances_ground nil f h = tt
    instances_ground (cons t ts) f h = (instance_ground t f.0 h.0, instances_ground ts f.1 h.1)
