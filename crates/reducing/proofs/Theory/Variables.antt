-- The variables of a pattern: no other meets a term in a match, so that with a ground filling the target has a ground instance where the source has one.
use Rattle.std.specs.Prelude.{ℕ, Bool, true, false, ◌||◌, List, eqb}
use Rattle.std.proofs.Math.Path.{◌≡◌, refl}
use Rattle.std.proofs.Common.{◌∙◌, inl, inr, get_or-set_other, eqb→eq}
use Rattle.std.proofs.Math.Option.{Option, none, some}
use Rattle.std.proofs.Math.Decide.{ℕ_discrete}
use native.Mathlib.Omega.{arith}
use Rattle.std.proofs.Math.ListN.{get_or, set}
use Rattle.std.proofs.Math.Dec.{T, eqb_refl}
use Rattle.format.specs.Limits.{variable_count}
use Rattle.terms.specs.Term.{Term, Terms, var, app, nil, cons, identical?, Ground, Grounds, Values, inst, insts}
use Rattle.terms.specs.ForContracts.Fits.{Fits}
use Rattle.terms.specs.Theory.Ground.{instance_ground}
use Rattle.terms.specs.Theory.Variables.{VariablesIn, AllVariablesIn}
use Rattle.reducing.specs.Match.{Match, no_match, meet, match, match_each, values_of, has_variable, have_variable}
use Rattle.reducing.proofs.Theory.Match.{nothing_met, either}

is_true : (b : Bool) → T b → b ≡ true
is_true true h = refl
is_true false h = elim h [ ]

pub variable_itself : (v : ℕ) → has_variable v (var v) ≡ true
unfolding has_variable
variable_itself v = is_true (eqb v v) (eqb_refl v)

or_right : (b c : Bool) → c ≡ true → (b || c) ≡ true
or_right true c h = refl
or_right false c h = h

or_left : (b c : Bool) → b ≡ true → (b || c) ≡ true
or_left true c h = refl
or_left false c h = let z : ◌≡◌ {A = ℕ} 0 1 = cc in absurd (omega arith)

-- What holds of each variable that a term has holds of its variables.
module _ (P : ℕ → Type 0) where
  mutual
    unfolding has_variable

    pub variables_are : (s : Term) → ((v : ℕ) → has_variable v s ≡ true → P v) → VariablesIn P s
    variables_are (var v) h = h v (variable_itself v)
    variables_are (app f ts) h = all_variables_are ts h

    all_variables_are : (ts : Terms) → ((v : ℕ) → have_variable v ts ≡ true → P v) → AllVariablesIn P ts
    all_variables_are nil h = tt
    all_variables_are (cons t ts) h =
        (variables_are t (λ v x. h v (or_left (has_variable v t) (have_variable v ts) x)), all_variables_are ts (λ v x. h v (or_right (has_variable v t) (have_variable v ts) x)))

module _ (arities : List ℕ) (ρ : Values) where
  -- A variable of a term whose instance is ground has a ground value.
  mutual
    unfolding has_variable inst

    value_ground : (s : Term) (v : ℕ) → has_variable v s ≡ true → Ground arities (inst ρ s) → Ground arities (ρ v)
    value_ground (var w) v e g = rw (eqb→eq v w (rw e tt)) g
    value_ground (app f ss) v e g = values_ground ss v e g.2

    values_ground : (ss : Terms) (v : ℕ) → have_variable v ss ≡ true → Grounds arities (insts ρ ss) → Ground arities (ρ v)
    values_ground nil v e g = let z : ◌≡◌ {A = ℕ} 0 1 = cc in absurd (omega arith)
    values_ground (cons s ss) v e g = elim (either (has_variable v s) (have_variable v ss) e) [ inl x ↦ value_ground s v x g.0 | inr x ↦ values_ground ss v x g.1 ]

  -- The instance of a term whose variables have ground values where the other term has none of them.
  pub filled_ground : (t s : Term) → Fits arities t → ((v : ℕ) → has_variable v s ≡ false → Ground arities (ρ v)) → Ground arities (inst ρ s) → Ground arities (inst ρ t)
  filled_ground t s f h g = instance_ground arities ρ (λ v. Unit) (λ v z. each v (has_variable v s) refl) t f (variables_are (λ v. Unit) t (λ v x. tt))
    where
      each : (v : ℕ) (b : Bool) → has_variable v s ≡ b → Ground arities (ρ v)
      each v true e = value_ground s v e g
      each v false e = h v e

-- A variable that the pattern has not meets nothing.
no_or : (b c : Bool) → (b || c) ≡ false → (b ≡ false) × (c ≡ false)
no_or false false h = (refl, refl)
no_or false true h = let z : ◌≡◌ {A = ℕ} 0 1 = cc in absurd (omega arith)
no_or true c h = let z : ◌≡◌ {A = ℕ} 0 1 = cc in absurd (omega arith)

module _ (v : ℕ) where
  meet_keeps : (m n : Match) (w : ℕ) (t : Term) (o : Option Term) → eqb v w ≡ false → meet m w t o ≡ some n → get_or n v none ≡ get_or m v none
  unfolding meet
  meet_keeps m n w t none e h =
      let z : n ≡ set m w (some t) = cc in
      rw z (get_or-set_other m w v (some t) none (λ x. differ (rw x (eqb_refl w))))
    where
      differ : T (eqb v w) → ⊥
      differ x = let y = is_true (eqb v w) x in let z : ◌≡◌ {A = ℕ} 0 1 = cc in omega arith
  meet_keeps m n w t (some u) e h = go (identical? u t) h
    where
      go : (d : Dec (u ≡ t)) → elim d as (λ x. Option Match) [ yes e ↦ some m | no n ↦ none ] ≡ some n → get_or n v none ≡ get_or m v none
      go (yes x) k = let z : n ≡ m = cc in rw z refl
      go (no x) k = let z : ◌≡◌ {A = ℕ} 0 1 = cc in absurd (omega arith)

  mutual
    unfolding match has_variable

    match_keeps : (s t : Term) (m n : Match) → has_variable v s ≡ false → match s t m ≡ some n → get_or n v none ≡ get_or m v none
    match_keeps (var w) t m n e h = meet_keeps m n w t (get_or m w none) e h
    match_keeps (app f ss) (var w) m n e h = let z : ◌≡◌ {A = ℕ} 0 1 = cc in absurd (omega arith)
    match_keeps (app f ss) (app g ts) m n e h = go (λ k. match_each_keeps ss ts m n e k) (ℕ_discrete f g) h
      where
        go : (match_each ss ts m ≡ some n → get_or n v none ≡ get_or m v none) → (d : Dec (f ≡ g)) → elim d as (λ x. Option Match) [ yes e ↦ match_each ss ts m | no n ↦ none ] ≡ some n
            → get_or n v none ≡ get_or m v none
        go each (yes x) k = each k
        go each (no x) k = let z : ◌≡◌ {A = ℕ} 0 1 = cc in absurd (omega arith)

    match_each_keeps : (ss ts : Terms) (m n : Match) → have_variable v ss ≡ false → match_each ss ts m ≡ some n → get_or n v none ≡ get_or m v none
    match_each_keeps nil nil m n e h = let z : n ≡ m = cc in rw z refl
    match_each_keeps nil (cons t ts) m n e h = let z : ◌≡◌ {A = ℕ} 0 1 = cc in absurd (omega arith)
    match_each_keeps (cons s ss) nil m n e h = let z : ◌≡◌ {A = ℕ} 0 1 = cc in absurd (omega arith)
    match_each_keeps (cons s ss) (cons t ts) m n e h =
        let (a, b) = no_or (has_variable v s) (have_variable v ss) e in
        go (λ k x. match_keeps s t m k a x) (λ k y. match_each_keeps ss ts k n b y) (match s t m) refl h
      where
        go : ((k : Match) → match s t m ≡ some k → get_or k v none ≡ get_or m v none) → ((k : Match) → match_each ss ts k ≡ some n → get_or n v none ≡ get_or k v none)
            → (o : Option Match) → match s t m ≡ o → elim o as (λ x. Option Match) [ none ↦ none | some k ↦ match_each ss ts k ] ≡ some n
            → get_or n v none ≡ get_or m v none
        go first others none x k = let z : ◌≡◌ {A = ℕ} 0 1 = cc in absurd (omega arith)
        go first others (some k) x y = others k y ∙ first k x

pub unmet_filled : (filling : Term) (s t : Term) (m : Match) (v : ℕ) → match s t no_match ≡ some m → has_variable v s ≡ false → values_of filling m v ≡ filling
unfolding values_of no_match
unmet_filled filling s t m v x h = let e : get_or m v none ≡ none = match_keeps v s t no_match m h x ∙ nothing_met variable_count v in rw e refl
