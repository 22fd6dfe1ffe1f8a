-- What a step is: an equation of the list matches a part of the subject by values that pass the test, and the part is replaced.
use Rattle.std.specs.Prelude.{ℕ, suc, ◌+◌, ◌<◌, Bool, true, false, ◌⊎◌, length, get_or}
use Rattle.std.proofs.Math.Path.{◌≡◌, refl, subst}
use Rattle.std.proofs.Common.{ap, ◌∙◌}
use Rattle.std.proofs.Math.Logic.{inl, inr}
use Rattle.std.proofs.Math.Option.{Option, none, some}
use mathlib.Core.List.{List, [], ◌∷◌}
use native.Mathlib.Omega.{arith}
use Rattle.format.specs.Lists.{entry}
use Rattle.terms.specs.Term.{Term, var, size, Values, inst}
use Rattle.terms.specs.Position.{subterms, replace}
use Rattle.terms.specs.Equation.{Equation, source, target}
use Rattle.terms.specs.declared.direction.Direction.{Direction}
use Rattle.terms.specs.declared.direction.Direction.TheVariants.{LeftRight as left_right, RightLeft as right_left}
use Rattle.terms.specs.Theory.Position.{length_subterms}
use Rattle.reducing.specs.Match.{Match, no_match, match, values_of}
use Rattle.reducing.specs.Run.{Step, try, try_equations, try_positions, step}
use Rattle.reducing.specs.Test.{line_test}
use Rattle.reducing.specs.ForContracts.Part.{part_at}

-- The first answer of two.
abbrev pub or_else : Option Step → Option Step → Option Step
or_else o rest = elim o [ some s ↦ some s | none ↦ rest ]

first_some : {s : Step} (o rest : Option Step) → or_else o rest ≡ some s → (o ≡ some s) ⊎ (rest ≡ some s)
first_some none rest h = inr h
first_some (some t) rest h = inl h

-- The step of equation `n` at position `p` that a match gives, and whether it passes the test.
abbrev pub stepped : (filling subject : Term) (p n : ℕ) → Equation → Direction → Match → Step
stepped filling subject p n e d m = record { equation = n; direction = d; position = p; result = replace subject p (inst (values_of filling m) (target e d)) }

abbrev pub tested : (filling subject : Term) (p n : ℕ) → Equation → Direction → Match → Bool → Option Step
tested filling subject p n e d m b = elim b [ false ↦ none | true ↦ some (stepped filling subject p n e d m) ]

module _ (filling : Term) (test : Equation → Direction → Values → Bool) where
  -- What a try gives, by the match and then the test.
  abbrev pub outcome : (subject : Term) (p n : ℕ) → Equation → Direction → Option Match → Option Step
  outcome subject p n e d o = elim o [ none ↦ none | some m ↦ tested filling subject p n e d m (test e d (values_of filling m)) ]

  pub try_is : (subject : Term) (p : ℕ) (part : Term) (n : ℕ) (e : Equation) (d : Direction) → try filling test subject p part n e d ≡ outcome subject p n e d (match (source e d) part no_match)
  unfolding try
  try_is subject p part n e d = refl

  -- The step rewrites the subject by the equation, at this part of it.
  pub record Rewrites (e : Equation) (subject part : Term) (s : Step) : Type 0 where
    pub found : Match
    pub matches : match (source e s.direction) part no_match ≡ some found
    pub passes : test e s.direction (values_of filling found) ≡ true
    pub gives : s.result ≡ replace subject s.position (inst (values_of filling found) (target e s.direction))

  -- The step is one of the subject, by an equation of the list.
  pub record Taken (es : List Equation) (subject : Term) (s : Step) : Type 0 where
    pub chosen : Equation
    pub numbered : entry es s.equation ≡ some chosen
    pub inside : s.position < size subject
    pub rewrites : Rewrites chosen subject (get_or (subterms subject) s.position (var 0)) s

  -- One direction at one position.
  module _ (subject : Term) (p : ℕ) (part : Term) where
    module _ (n : ℕ) (e : Equation) (d : Direction) (s : Step) where
      abbrev Tried : Type 0
      Tried = (s.equation ≡ n) × (s.position ≡ p) × Rewrites e subject part s

      abbrev matched : Option Match → Option Step
      matched o = elim o [ none ↦ none | some m ↦ tested filling subject p n e d m (test e d (values_of filling m)) ]

      tested_some : (m : Match) → match (source e d) part no_match ≡ some m → (b : Bool) → test e d (values_of filling m) ≡ b → tested filling subject p n e d m b ≡ some s
          → Tried
      tested_some m x false y h = let z : ◌≡◌ {A = ℕ} 0 1 = cc in absurd (omega arith)
      tested_some m x true y h =
          let z : s ≡ stepped filling subject p n e d m = cc in
          rw z (refl, refl, record { found = m; matches = x; passes = y; gives = refl })

      matched_some : (o : Option Match) → match (source e d) part no_match ≡ o → matched o ≡ some s → Tried
      matched_some none x h = let z : ◌≡◌ {A = ℕ} 0 1 = cc in absurd (omega arith)
      matched_some (some m) x h = tested_some m x (test e d (values_of filling m)) refl h

      pub try_some : try filling test subject p part n e d ≡ some s → Tried
      unfolding try
      try_some h = matched_some (match (source e d) part no_match) refl h

    -- The equations at one position, the first of them number `n`.
    abbrev TriedFrom : ℕ → List Equation → Step → Type 0
    TriedFrom n es s = (i : ℕ) × (e : Equation) × (entry es i ≡ some e) × (s.equation ≡ n + i) × (s.position ≡ p) × Rewrites e subject part s

    tried_first : (n : ℕ) (e : Equation) (es : List Equation) (d : Direction) (s : Step) → Tried n e d s → TriedFrom n (e ∷ es) s
    unfolding entry
    tried_first n e es d s x = (0, e, refl, omega arith, x.1, x.2)

    tried_later : (n : ℕ) (e : Equation) (es : List Equation) (s : Step) → TriedFrom (suc n) es s → TriedFrom n (e ∷ es) s
    unfolding entry
    tried_later n e es s x = let (i, f, a, b, c, r) = x in (suc i, f, a, omega arith, c, r)

    try_equations_some : (n : ℕ) (es : List Equation) (s : Step) → try_equations filling test subject p part n es ≡ some s → TriedFrom n es s
    unfolding try_equations
    try_equations_some n [] s h = let z : ◌≡◌ {A = ℕ} 0 1 = cc in absurd (omega arith)
    try_equations_some n (e ∷ es) s h =
        elim (first_some (try filling test subject p part n e left_right) _ h) [
          | inl x ↦ tried_first n e es left_right s (try_some n e left_right s x)
          | inr y ↦ elim (first_some (try filling test subject p part n e right_left) _ y) [
            | inl x ↦ tried_first n e es right_left s (try_some n e right_left s x)
            | inr z ↦ tried_later n e es s (try_equations_some (suc n) es s z)
          ]
        ]

  -- The positions, the first of these parts at `p`.
  module _ (es : List Equation) (subject : Term) (s : Step) where
    abbrev TriedAt : ℕ → List Term → Type 0
    TriedAt p parts = (i : ℕ) × (i < length parts) × (s.position ≡ p + i) × (e : Equation) × (entry es s.equation ≡ some e) × Rewrites e subject (get_or parts i (var 0)) s

    tried_here : (p : ℕ) (part : Term) (parts : List Term) → TriedFrom subject p part 0 es s → TriedAt p (part ∷ parts)
    tried_here p part parts x =
        let (i, e, a, b, c, r) = x in
        let z : s.equation ≡ i = omega arith in
        (0, omega arith, omega arith, e, rw z a, r)

    tried_there : (p : ℕ) (part : Term) (parts : List Term) → TriedAt (suc p) parts → TriedAt p (part ∷ parts)
    tried_there p part parts x = let (i, l, a, e, b, r) = x in (suc i, omega arith, omega arith, e, b, r)

    try_positions_some : (p : ℕ) (parts : List Term) → try_positions filling test es subject p parts ≡ some s → TriedAt p parts
    unfolding try_positions
    try_positions_some p [] h = let z : ◌≡◌ {A = ℕ} 0 1 = cc in absurd (omega arith)
    try_positions_some p (part ∷ parts) h =
        elim (first_some (try_equations filling test subject p part 0 es) _ h) [
          | inl x ↦ tried_here p part parts (try_equations_some subject p part 0 es s x)
          | inr y ↦ tried_there p part parts (try_positions_some (suc p) parts y)
        ]

    pub step_taken : step filling test es subject ≡ some s → Taken es subject s
    unfolding step
    step_taken h =
        let (i, l, a, e, b, r) = try_positions_some 0 (subterms subject) h in
        let z : i ≡ s.position = omega arith in
        record { chosen = e; numbered = b; inside = omega (arith, length_subterms subject); rewrites = subst (λ q. Rewrites e subject (get_or (subterms subject) q (var 0)) s) z r }

module _ (filling subject : Term) (p i : ℕ) (e : Equation) (d : Direction) where
  pub none_matches : match (source e d) (part_at subject p) no_match ≡ none → try filling line_test subject p (part_at subject p) i e d ≡ none
  none_matches x = try_is filling line_test subject p (part_at subject p) i e d ∙ ap (outcome filling line_test subject p i e d) x
