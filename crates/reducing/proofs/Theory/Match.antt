-- Matching is sound and complete: a match is found exactly if the term is an instance of the pattern, and it gives the instance.
use Rattle.std.specs.Prelude.{ℕ, zero, suc, ◌<◌, ◌≡◌, Bool, true, false, ◌||◌, ◌⊎◌, length, get_or, set, replicate}
use Rattle.std.proofs.Math.Path.{refl}
use Rattle.std.proofs.Common.{sym, ◌∙◌, inl, inr, arith, length-set, get_or-set_same, get_or-set_other, eqb→eq}
use Rattle.std.proofs.Math.Option.{Option, none, some}
use Rattle.std.proofs.Math.Decide.{ℕ_discrete, dec_lt}
use Rattle.std.proofs.lemmas.List.{length-replicate}
use Rattle.std.proofs.Math.Seq.{set_out}
use Rattle.format.specs.Limits.{variable_count}
use Rattle.terms.specs.Term.{Term, Terms, var, app, nil, cons, identical?, Values, inst, insts}
use Rattle.terms.specs.ForContracts.Limits.{VariablesBelow, AllVariablesBelow}
use Rattle.reducing.specs.Match.{Match, no_match, meet, match, match_each, values_of, has_variable, have_variable}

-- Values fit a match: each variable that met a term has it as its value.
abbrev pub Agrees : Values → Match → Type 0
Agrees ρ m = (v : ℕ) (u : Term) → get_or m v none ≡ some u → ρ v ≡ u

-- The values of a match fit it, and all values fit the match in which no variable met a term.
pub values_fit : (filling : Term) (m : Match) → Agrees (values_of filling m) m
unfolding values_of
values_fit filling m v u e = rw e

pub nothing_met : (n v : ℕ) → get_or (replicate {A = Option Term} n none) v none ≡ none
nothing_met zero v = refl
nothing_met (suc n) zero = refl
nothing_met (suc n) (suc v) = nothing_met n v

pub no_match_fits : (ρ : Values) → Agrees ρ no_match
unfolding no_match
no_match_fits ρ v u e = let z : ◌≡◌ {A = ℕ} 0 1 = cc (nothing_met variable_count v) in absurd (omega arith)

-- A variable that had met nothing meets a term.
module _ (m : Match) (v : ℕ) (t : Term) (ρ : Values) where
  set_fits_before : get_or m v none ≡ none → Agrees ρ (set m v (some t)) → Agrees ρ m
  set_fits_before e k w u x =
      elim (ℕ_discrete w v) [
        | yes p ↦ let z : ◌≡◌ {A = ℕ} 0 1 = cc in absurd (omega arith)
        | no n ↦ k w u (get_or-set_other m v w (some t) none n ∙ x)
      ]

  set_fits : Agrees ρ m → ρ v ≡ t → Agrees ρ (set m v (some t))
  set_fits k e w u x =
      elim (ℕ_discrete w v) [
        | yes p ↦ elim (dec_lt v (length m)) [
          | yes l ↦ cc (get_or-set_same m v (some t) none l)
          | no n ↦ k w u (rw (set_out m v (some t) (omega arith)) at x)
        ]
        | no n ↦ k w u (sym (get_or-set_other m v w (some t) none n) ∙ x)
      ]

-- From the match `m` to the match `n`: the values that fit `n` fit `m` and satisfy `P`.
pub record Extended (P : Values → Type 0) (m n : Match) : Type 0 where
  pub same_length : length n ≡ length m
  pub narrowed : (ρ : Values) → Agrees ρ n → Agrees ρ m × P ρ

-- Soundness, for a variable, a term and a list of terms: whatever values fit the match found, they make the pattern's instance the term.
meet_sound : (m n : Match) (v : ℕ) (t : Term) (o : Option Term) → v < length m → get_or m v none ≡ o → meet m v t o ≡ some n → Extended (λ ρ. ρ v ≡ t) m n
unfolding meet
meet_sound m n v t none l e h =
    let s : n ≡ set m v (some t) = cc in
    rw s (record { same_length = length-set m v (some t); narrowed = λ ρ k. (set_fits_before m v t ρ e k, k v t (get_or-set_same m v (some t) none l)) })
meet_sound m n v t (some u) l e h = go (identical? u t) h
  where
    go : (d : Dec (u ≡ t)) → elim d as (λ x. Option Match) [ yes e ↦ some m | no n ↦ none ] ≡ some n → Extended (λ ρ. ρ v ≡ t) m n
    go (yes p) h = let s : n ≡ m = cc in rw s (record { same_length = refl; narrowed = λ ρ k. (k, k v u e ∙ p) })
    go (no p) h = let z : ◌≡◌ {A = ℕ} 0 1 = cc in absurd (omega arith)

abbrev MatchSound : Term → Term → Type 0
MatchSound s t = (m n : Match) → VariablesBelow (length m) s → match s t m ≡ some n → Extended (λ ρ. inst ρ s ≡ t) m n

abbrev SoundEach : Terms → Terms → Type 0
SoundEach ss ts = (m n : Match) → AllVariablesBelow (length m) ss → match_each ss ts m ≡ some n → Extended (λ ρ. insts ρ ss ≡ ts) m n

same_symbol_sound : (f g : ℕ) (ss ts : Terms) → SoundEach ss ts → (m n : Match) → AllVariablesBelow (length m) ss → (d : Dec (f ≡ g))
    → elim d as (λ x. Option Match) [ yes e ↦ match_each ss ts m | no n ↦ none ] ≡ some n → Extended (λ ρ. inst ρ (app f ss) ≡ app g ts) m n
unfolding inst
same_symbol_sound f g ss ts sound m n b (yes p) h =
    let x = sound m n b h in
    record { same_length = x.same_length; narrowed = λ ρ k. let y = x.narrowed ρ k in (y.0, cc (p, y.1)) }
same_symbol_sound f g ss ts sound m n b (no p) h = let z : ◌≡◌ {A = ℕ} 0 1 = cc in absurd (omega arith)

first_then_others : (s t : Term) (ss ts : Terms) → MatchSound s t → SoundEach ss ts → (m n : Match) → VariablesBelow (length m) s → AllVariablesBelow (length m) ss
    → (o : Option Match) → match s t m ≡ o → elim o as (λ x. Option Match) [ none ↦ none | some k ↦ match_each ss ts k ] ≡ some n
    → Extended (λ ρ. insts ρ (cons s ss) ≡ cons t ts) m n
unfolding inst
first_then_others s t ss ts sound sound_each m n a b none e h = let z : ◌≡◌ {A = ℕ} 0 1 = cc in absurd (omega arith)
first_then_others s t ss ts sound sound_each m n a b (some k) e h =
    let x = sound m k a e in
    let y = sound_each k n (rw x.same_length b) h in
    record {
      same_length = y.same_length ∙ x.same_length;
      narrowed = λ ρ f. let g = y.narrowed ρ f in let i = x.narrowed ρ g.0 in (i.0, cc (g.1, i.1));
    }

mutual
  unfolding match inst

  pub match_extends : (s t : Term) → MatchSound s t
  match_extends (var v) t m n b h = meet_sound m n v t (get_or m v none) b refl h
  match_extends (app f ss) (var w) m n b h = let z : ◌≡◌ {A = ℕ} 0 1 = cc in absurd (omega arith)
  match_extends (app f ss) (app g ts) m n b h = same_symbol_sound f g ss ts (λ m n b h. match_each_extends ss ts m n b h) m n b (ℕ_discrete f g) h

  pub match_each_extends : (ss ts : Terms) → SoundEach ss ts
  match_each_extends nil nil m n b h = let s : n ≡ m = cc in rw s (record { same_length = refl; narrowed = λ ρ k. (k, refl) })
  match_each_extends nil (cons t ts) m n b h = let z : ◌≡◌ {A = ℕ} 0 1 = cc in absurd (omega arith)
  match_each_extends (cons s ss) nil m n b h = let z : ◌≡◌ {A = ℕ} 0 1 = cc in absurd (omega arith)
  match_each_extends (cons s ss) (cons t ts) m n b h =
      first_then_others s t ss ts (λ m n b h. match_extends s t m n b h) (λ m n b h. match_each_extends ss ts m n b h) m n b.0 b.1 (match s t m) refl h

-- The instance of the pattern by the values of its match is the term: so "a repeated variable meets identical terms".
pub match_sound : (filling : Term) (s t : Term) (m : Match) → VariablesBelow variable_count s → match s t no_match ≡ some m → inst (values_of filling m) s ≡ t
unfolding no_match
match_sound filling s t m b h = ((match_extends s t no_match m (rw length-replicate b) h).narrowed (values_of filling m) (values_fit filling m)).1

-- f(x, x) does not match f(a, b).
pub repeated_differs : match (app 2 (cons (var 0) (cons (var 0) nil))) (app 2 (cons (app 0 nil) (cons (app 1 nil) nil))) no_match ≡ none
unfolding match no_match
repeated_differs = refl

-- Completeness: values that fit the match before, and make the pattern's instance the term, fit the match that is found.
module _ (ρ : Values) where
  abbrev Found : Option Match → Type 0
  Found o = (n : Match) × (o ≡ some n) × Agrees ρ n

  meet_found : (m : Match) (v : ℕ) (t : Term) (o : Option Term) → get_or m v none ≡ o → Agrees ρ m → ρ v ≡ t → Found (meet m v t o)
  unfolding meet
  meet_found m v t none e k h = (set m v (some t), refl, set_fits m v t ρ k h)
  meet_found m v t (some u) e k h = go (identical? u t)
    where
      go : (d : Dec (u ≡ t)) → Found (elim d as (λ x. Option Match) [ yes e ↦ some m | no n ↦ none ])
      go (yes p) = (m, refl, k)
      go (no p) = absurd (p (sym (k v u e) ∙ h))

  same_symbol_found : {f g : ℕ} {o : Option Match} → f ≡ g → Found o → (d : Dec (f ≡ g)) → Found (elim d as (λ x. Option Match) [ yes e ↦ o | no n ↦ none ])
  same_symbol_found e x (yes p) = x
  same_symbol_found e x (no p) = absurd (p e)

  others_found : (ss ts : Terms) (o : Option Match) → Found o → ((n : Match) → Agrees ρ n → Found (match_each ss ts n))
      → Found (elim o as (λ x. Option Match) [ none ↦ none | some n ↦ match_each ss ts n ])
  others_found ss ts none x found = let z : ◌≡◌ {A = ℕ} 0 1 = cc x.1 in absurd (omega arith)
  others_found ss ts (some n) x found = let e : n ≡ x.0 = cc x.1 in found n (rw e x.2)

  mutual
    unfolding match inst

    pub match_found : (s t : Term) (m : Match) → Agrees ρ m → inst ρ s ≡ t → Found (match s t m)
    match_found (var v) t m k h = meet_found m v t (get_or m v none) refl k h
    match_found (app f ss) (var w) m k h = let z : ◌≡◌ {A = ℕ} 0 1 = cc in absurd (omega arith)
    match_found (app f ss) (app g ts) m k h = same_symbol_found (cc) (match_each_found ss ts m k (cc)) (ℕ_discrete f g)

    pub match_each_found : (ss ts : Terms) (m : Match) → Agrees ρ m → insts ρ ss ≡ ts → Found (match_each ss ts m)
    match_each_found nil nil m k h = (m, refl, k)
    match_each_found nil (cons t ts) m k h = let z : ◌≡◌ {A = ℕ} 0 1 = cc in absurd (omega arith)
    match_each_found (cons s ss) nil m k h = let z : ◌≡◌ {A = ℕ} 0 1 = cc in absurd (omega arith)
    match_each_found (cons s ss) (cons t ts) m k h =
        others_found ss ts (match s t m) (match_found s t m k (cc)) (λ n x. match_each_found ss ts n x (cc))

-- Values that give a term the same instance agree on its variables.
pub either : (b c : Bool) → (b || c) ≡ true → (b ≡ true) ⊎ (c ≡ true)
either true c h = inl refl
either false c h = inr h

module _ (ρ τ : Values) (v : ℕ) where
  mutual
    unfolding inst has_variable

    pub same_instance_agrees : (s : Term) → inst ρ s ≡ inst τ s → has_variable v s ≡ true → ρ v ≡ τ v
    same_instance_agrees (var w) e h = rw (eqb→eq v w (rw h tt)) e
    same_instance_agrees (app f ss) e h = same_instances_agree ss (cc) h

    same_instances_agree : (ss : Terms) → insts ρ ss ≡ insts τ ss → have_variable v ss ≡ true → ρ v ≡ τ v
    same_instances_agree nil e h = let z : ◌≡◌ {A = ℕ} 0 1 = cc in absurd (omega arith)
    same_instances_agree (cons s ss) e h =
        elim (either (has_variable v s) (have_variable v ss) h) [ inl x ↦ same_instance_agrees s (cc) x | inr x ↦ same_instances_agree ss (cc) x ]

-- An instance of a pattern is matched, by its values.
pub match_complete : (filling : Term) (s t : Term) (ρ : Values) → VariablesBelow variable_count s → inst ρ s ≡ t
    → (m : Match) × (match s t no_match ≡ some m) × ((v : ℕ) → has_variable v s ≡ true → values_of filling m v ≡ ρ v)
match_complete filling s t ρ b h =
    let (m, x, k) = match_found ρ s t no_match (no_match_fits ρ) h in
    (m, x, λ v o. same_instance_agrees (values_of filling m) ρ v s (match_sound filling s t m b x ∙ sym h) o)
