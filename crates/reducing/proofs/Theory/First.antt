-- The step that is found is the first of all that could be: by position, at one position by equation, and of one equation direction 00 before 01. So it may be
-- sought in any order.
use Prim.Native.Nat.{ℕ, zero, suc, ◌+◌, ◌<◌}
use Rattle.std.proofs.Math.Path.{◌≡◌, refl, subst}
use Rattle.std.proofs.Common.{sym}
use Rattle.std.specs.Prelude.{Bool, length, get_or}
use Rattle.std.proofs.Math.Option.{Option, none, some}
use mathlib.Core.List.{List, [], ◌∷◌}
use native.Mathlib.Omega.{arith}
use Rattle.format.specs.Lists.{entry}
use Rattle.terms.specs.Term.{Term, var, size, Values}
use Rattle.terms.specs.Position.{subterms}
use Rattle.terms.specs.Equation.{Equation, direction_number}
use Rattle.terms.specs.declared.direction.Direction.{Direction}
use Rattle.terms.specs.declared.direction.Direction.TheVariants.{LeftRight as left_right, RightLeft as right_left}
use Rattle.terms.specs.Theory.Position.{length_subterms}
use Rattle.reducing.specs.Run.{Step, try, try_equations, try_positions, step}
use Rattle.reducing.specs.ForContracts.Rules.{rule_number}
use Rattle.reducing.proofs.Theory.Step.{or_else}

none_then : {o rest : Option Step} {x : Option Step} → o ≡ none → rest ≡ x → or_else o rest ≡ x
none_then {o} {rest} {x} e h = subst (λ o. or_else o rest ≡ x) (sym e) h

some_then : {o : Option Step} (rest : Option Step) {s : Step} → o ≡ some s → or_else o rest ≡ some s
some_then {o} rest {s} e = subst (λ o. or_else o rest ≡ some s) (sym e) refl

module _ (filling : Term) (test : Equation → Direction → Values → Bool) (subject : Term) where
  -- The equations from number `n` on, at one position.
  module _ (p : ℕ) (part : Term) where
    abbrev NoneOf : (n : ℕ) → List Equation → (j : ℕ) → Direction → Type 0
    NoneOf n es j c = (e : Equation) → entry es j ≡ some e → try filling test subject p part (n + j) e c ≡ none

    later : (n : ℕ) (e : Equation) (es : List Equation) (j : ℕ) (c : Direction) → NoneOf n (e ∷ es) (suc j) c → NoneOf (suc n) es j c
    unfolding entry
    later n e es j c h f x = let z : n + suc j ≡ suc n + j = omega arith in subst (λ m. try filling test subject p part m f c ≡ none) z (h f x)

    here : (n : ℕ) (e : Equation) (es : List Equation) (c : Direction) → NoneOf n (e ∷ es) 0 c → try filling test subject p part n e c ≡ none
    unfolding entry
    here n e es c h = let z : n + 0 ≡ n = omega arith in subst (λ m. try filling test subject p part m e c ≡ none) z (h e refl)

    equations_none : (n : ℕ) (es : List Equation) → ((j : ℕ) (c : Direction) → NoneOf n es j c) → try_equations filling test subject p part n es ≡ none
    unfolding try_equations
    equations_none n [] h = refl
    equations_none n (e ∷ es) h =
        none_then (here n e es left_right (h 0 left_right)) (none_then (here n e es right_left (h 0 right_left)) (equations_none (suc n) es (λ j c. later n e es j c (h (suc j) c))))

    equations_first : (n : ℕ) (es : List Equation) (i : ℕ) (d : Direction) (e : Equation) (s : Step) → entry es i ≡ some e → try filling test subject p part (n + i) e d ≡ some s
        → ((j : ℕ) (c : Direction) → rule_number j c < rule_number i d → NoneOf n es j c) → try_equations filling test subject p part n es ≡ some s
    unfolding try_equations entry direction_number
    equations_first n [] i d e s x y h = let z : ◌≡◌ {A = ℕ} 0 1 = cc in absurd (omega arith)
    equations_first n (f ∷ es) zero left_right e s x y h =
        let z : n + 0 ≡ n = omega arith in
        let w : f ≡ e = cc in
        some_then _ (subst (λ g. try filling test subject p part n g left_right ≡ some s) (sym w) (subst (λ m. try filling test subject p part m e left_right ≡ some s) z y))
    equations_first n (f ∷ es) zero right_left e s x y h =
        let z : n + 0 ≡ n = omega arith in
        let w : f ≡ e = cc in
        none_then (here n f es left_right (h 0 left_right (omega arith)))
        (some_then _ (subst (λ g. try filling test subject p part n g right_left ≡ some s) (sym w) (subst (λ m. try filling test subject p part m e right_left ≡ some s) z y)))
    equations_first n (f ∷ es) (suc i) d e s x y h =
        let z : n + suc i ≡ suc n + i = omega arith in
        none_then (here n f es left_right (h 0 left_right (omega arith)))
        (none_then (here n f es right_left (h 0 right_left (omega arith)))
        (equations_first (suc n) es i d e s x (subst (λ m. try filling test subject p part m e d ≡ some s) z y)
        (λ j c l. later n f es j c (h (suc j) c (omega arith)))))

  module _ (es : List Equation) where
    -- The parts from position `p` on.
    abbrev NoneIn : (p : ℕ) → List Term → (q j : ℕ) → Direction → Type 0
    NoneIn p parts q j c = (e : Equation) → entry es j ≡ some e → try filling test subject (p + q) (get_or parts q (var 0)) j e c ≡ none

    further : (p : ℕ) (part : Term) (parts : List Term) (q j : ℕ) (c : Direction) → NoneIn p (part ∷ parts) (suc q) j c → NoneIn (suc p) parts q j c
    further p part parts q j c h f x = let z : p + suc q ≡ suc p + q = omega arith in subst (λ m. try filling test subject m (get_or parts q (var 0)) j f c ≡ none) z (h f x)

    first_part : (p : ℕ) (part : Term) (parts : List Term) (j : ℕ) (c : Direction) → NoneIn p (part ∷ parts) 0 j c → NoneOf p part 0 es j c
    first_part p part parts j c h f x =
        let z : p + 0 ≡ p = omega arith in
        let w : 0 + j ≡ j = omega arith in
        subst (λ k. try filling test subject p part k f c ≡ none) (sym w) (subst (λ m. try filling test subject m part j f c ≡ none) z (h f x))

    positions_none : (p : ℕ) (parts : List Term) → ((q j : ℕ) (c : Direction) → q < length parts → NoneIn p parts q j c) → try_positions filling test es subject p parts ≡ none
    unfolding try_positions
    positions_none p [] h = refl
    positions_none p (part ∷ parts) h =
        none_then (equations_none p part 0 es (λ j c. first_part p part parts j c (h 0 j c (omega arith))))
        (positions_none (suc p) parts (λ q j c l. further p part parts q j c (h (suc q) j c (omega arith))))

    positions_first : (p : ℕ) (parts : List Term) (q i : ℕ) (d : Direction) (e : Equation) (s : Step) → q < length parts → entry es i ≡ some e
        → try filling test subject (p + q) (get_or parts q (var 0)) i e d ≡ some s → ((r j : ℕ) (c : Direction) → r < q → NoneIn p parts r j c)
        → ((j : ℕ) (c : Direction) → rule_number j c < rule_number i d → NoneIn p parts q j c) → try_positions filling test es subject p parts ≡ some s
    unfolding try_positions
    positions_first p [] q i d e s l x y g h = absurd (omega arith)
    positions_first p (part ∷ parts) zero i d e s l x y g h =
        let z : p + 0 ≡ p = omega arith in
        let w : 0 + i ≡ i = omega arith in
        some_then _ (equations_first p part 0 es i d e s x (subst (λ k. try filling test subject p part k e d ≡ some s) (sym w) (subst (λ m. try filling test subject m part i e d ≡ some s) z y))
        (λ j c m. first_part p part parts j c (h j c m)))
    positions_first p (part ∷ parts) (suc q) i d e s l x y g h =
        let z : p + suc q ≡ suc p + q = omega arith in
        none_then (equations_none p part 0 es (λ j c. first_part p part parts j c (g 0 j c (omega arith))))
        (positions_first (suc p) parts q i d e s (omega arith) x (subst (λ m. try filling test subject m (get_or parts q (var 0)) i e d ≡ some s) z y)
        (λ r j c m. further p part parts r j c (g (suc r) j c (omega arith)))
        (λ j c m. further p part parts q j c (h j c m)))

    -- No step is possible at position `p` by equation `j` in direction `c`.
    abbrev pub NoneAt : (p j : ℕ) → Direction → Type 0
    NoneAt p j c = (e : Equation) → entry es j ≡ some e → try filling test subject p (get_or (subterms subject) p (var 0)) j e c ≡ none

    from_start : (p j : ℕ) (c : Direction) → NoneAt p j c → NoneIn 0 (subterms subject) p j c
    from_start p j c h e x = let z : p ≡ 0 + p = omega arith in subst (λ m. try filling test subject m (get_or (subterms subject) p (var 0)) j e c ≡ none) z (h e x)

    pub step_none : ((p j : ℕ) (c : Direction) → p < size subject → NoneAt p j c) → step filling test es subject ≡ none
    unfolding step
    step_none h = positions_none 0 (subterms subject) (λ q j c l. from_start q j c (h q j c (omega (arith, length_subterms subject))))

    -- This step is possible at position `p` by equation `i` in direction `d`, none at a position before, and none at this position before that direction.
    pub record FirstAt (p i : ℕ) (d : Direction) (e : Equation) (s : Step) : Type 0 where
      pub inside : p < size subject
      pub numbered : entry es i ≡ some e
      pub possible : try filling test subject p (get_or (subterms subject) p (var 0)) i e d ≡ some s
      pub none_before : (q j : ℕ) (c : Direction) → q < p → NoneAt q j c
      pub none_earlier : (j : ℕ) (c : Direction) → rule_number j c < rule_number i d → NoneAt p j c

    pub step_first : {p i : ℕ} {d : Direction} {e : Equation} {s : Step} → FirstAt p i d e s → step filling test es subject ≡ some s
    unfolding step
    step_first {p} {i} {d} {e} {s} f =
        let z : p ≡ 0 + p = omega arith in
        positions_first 0 (subterms subject) p i d e s (omega (arith, f.inside, length_subterms subject)) f.numbered
        (subst (λ m. try filling test subject m (get_or (subterms subject) p (var 0)) i e d ≡ some s) z f.possible)
        (λ r j c l. from_start r j c (f.none_before r j c l)) (λ j c l. from_start p j c (f.none_earlier j c l))
