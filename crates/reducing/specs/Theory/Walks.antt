-- The walks of all directions in order: the first that is refused, or that all solve.
use Rattle.std.specs.Prelude.{ℕ, zero, suc, ◌+◌, ◌*◌, ◌<◌, ◌≡◌, List, [], ◌∷◌, length}
use Rattle.std.proofs.Math.Path.{refl}
use Rattle.std.proofs.Common.{ap, ◌∙◌, arith}
use Rattle.std.proofs.Math.Option.{Option, none, some}
use Rattle.format.specs.Lists.{entry}
use Rattle.format.specs.declared.refusal.Refusal.{Refusal}
use Rattle.terms.specs.Equation.{Equation, direction_number}
use Rattle.terms.specs.declared.direction.Direction.{Direction}
use Rattle.terms.specs.declared.direction.Direction.TheVariants.{LeftRight as left_right, RightLeft as right_left}
use Rattle.solving.specs.Walk.{Walked, solved, refused, solve, Solves}
use Rattle.reducing.specs.Test.{EverySolves}
use Rattle.reducing.specs.ForContracts.Rules.{rule_number}
use Rattle.reducing.specs.Walks.{equation_line, WalkRefusal, first_refusal}

-- The rules before number `rule` solve.
abbrev pub SolvedBefore : List Equation → ℕ → Type 0
SolvedBefore es rule = (i : ℕ) (e : Equation) (d : Direction) → entry es i ≡ some e → rule_number i d < rule → Solves e d

-- The refusal of a walk of equation `n`, or what the others give.
abbrev walk_then : (n : ℕ) → Walked → Option WalkRefusal → Option WalkRefusal
walk_then n w rest = elim w [ refused why ↦ some (record { refusal = why; line = equation_line n }) | solved ls k ↦ rest ]

first_is : (n : ℕ) (q : Equation) (qs : List Equation) → first_refusal n (q ∷ qs) ≡ walk_then n (solve q left_right) (walk_then n (solve q right_left) (first_refusal (suc n) qs))
unfolding first_refusal
first_is n q qs = refl

first_none : (n : ℕ) → first_refusal n [] ≡ none
unfolding first_refusal
first_none n = refl

solves_then : (n : ℕ) {e : Equation} {d : Direction} {rest x : Option WalkRefusal} → Solves e d → rest ≡ x → walk_then n (solve e d) rest ≡ x
solves_then n {rest = rest} s h = ap (λ w. walk_then n w rest) s.walked ∙ h

refused_then : (n m : ℕ) {w : Walked} (rest : Option WalkRefusal) {why : Refusal} → w ≡ refused why → n ≡ m → walk_then n w rest ≡ some (record { refusal = why; line = equation_line m })
refused_then n m rest {why} x y = ap (λ w. walk_then n w rest) x ∙ ap (λ k. some (record { refusal = why; line = equation_line k })) y

-- 1. A walk that is refused behind others that solve, of the equations from number `n` on.
pub refused_first : (n : ℕ) (es : List Equation) (i : ℕ) (d : Direction) (e : Equation) {why : Refusal} → entry es i ≡ some e → solve e d ≡ refused why → SolvedBefore es (rule_number i d)
    → first_refusal n es ≡ some (record { refusal = why; line = equation_line (n + i) })
unfolding entry direction_number
refused_first n [] i d e x y h = let z : ◌≡◌ {A = ℕ} 0 1 = cc in absurd (omega arith)
refused_first n (q ∷ qs) zero left_right e x y h =
    let w : q ≡ e = cc in
    first_is n q qs ∙ refused_then n (n + 0) _ (ap (λ f. solve f left_right) w ∙ y) (omega arith)
refused_first n (q ∷ qs) zero right_left e x y h =
    let w : q ≡ e = cc in
    first_is n q qs
    ∙ solves_then n (h 0 q left_right refl (omega arith)) (refused_then n (n + 0) _ (ap (λ f. solve f right_left) w ∙ y) (omega arith))
refused_first n (q ∷ qs) (suc i) d e {why} x y h =
    let w : suc n + i ≡ n + suc i = omega arith in
    first_is n q qs
    ∙ solves_then n (h 0 q left_right refl (omega arith))
    (solves_then n (h 0 q right_left refl (omega arith))
    (refused_first (suc n) qs i d e x y (λ j f c x l. h (suc j) f c x (omega arith)) ∙ ap (λ k. some (record { refusal = why; line = equation_line k })) w))

-- 2. None is refused exactly if all solve.
pub solved_all : (es : List Equation) → SolvedBefore es (2 * length es) → EverySolves es
unfolding entry direction_number
solved_all [] h = tt
solved_all (q ∷ qs) h = (each, solved_all qs (λ i e d x l. h (suc i) e d x (omega arith)))
  where
    each : (d : Direction) → Solves q d
    each left_right = h 0 q left_right refl (omega arith)
    each right_left = h 0 q right_left refl (omega arith)

pub none_refused : (n : ℕ) (es : List Equation) → EverySolves es → first_refusal n es ≡ none
none_refused n [] h = first_none n
none_refused n (q ∷ qs) h = first_is n q qs ∙ solves_then n (h.0 left_right) (solves_then n (h.0 right_left) (none_refused (suc n) qs h.1))

module _ (n : ℕ) (e : Equation) (es : List Equation) where
  -- Both walks of the first equation, by what they give.
  each_walk : {A : Type 0} (x : Option WalkRefusal) → ((why : Refusal) → some (record { refusal = why; line = equation_line n }) ≡ x → A) → (Solves e left_right → Solves e right_left → first_refusal (suc n) es ≡ x → A)
      → first_refusal n (e ∷ es) ≡ x → A
  unfolding first_refusal
  each_walk {A} x at on h = left (solve e left_right) refl h
    where
      right : Solves e left_right → (w : Walked) → solve e right_left ≡ w → walk_then n w (first_refusal (suc n) es) ≡ x → A
      right a (refused why) y h = at why h
      right a (solved ls t) y h = on a (record { table = ls; turns = t; walked = y }) h

      left : (w : Walked) → solve e left_right ≡ w → walk_then n w (walk_then n (solve e right_left) (first_refusal (suc n) es)) ≡ x → A
      left (refused why) y h = at why h
      left (solved ls t) y h = right (record { table = ls; turns = t; walked = y }) (solve e right_left) refl h

pub every_solves : (n : ℕ) (es : List Equation) → first_refusal n es ≡ none → EverySolves es
every_solves n [] h = tt
every_solves n (e ∷ es) h = each_walk n e es none (λ why x. let z : ◌≡◌ {A = ℕ} 0 1 = cc in absurd (omega arith)) (λ a b x. (both a b, every_solves (suc n) es x)) h
  where
    both : Solves e left_right → Solves e right_left → (d : Direction) → Solves e d
    both a b left_right = a
    both a b right_left = b

-- 3. The line of a refusal is one of these equations'.
line_here : (n k : ℕ) → equation_line n < equation_line (n + suc k)
unfolding equation_line
line_here n k = omega arith

pub refusal_low : (n : ℕ) (es : List Equation) (r : WalkRefusal) → first_refusal n es ≡ some r → r.line < equation_line (n + length es)
refusal_low n [] r h = let x = first_none n in let z : ◌≡◌ {A = ℕ} 0 1 = cc in absurd (omega arith)
refusal_low n (e ∷ es) r h =
    each_walk n e es (some r)
    (λ why x. let y : record { refusal = why; line = equation_line n } ≡ r = cc in omega (arith, ap (λ r. r.line) y, line_here n (length es)))
    (λ a b x. let m : suc n + length es ≡ n + suc (length es) = omega arith in omega (arith, refusal_low (suc n) es r x, ap equation_line m)) h
