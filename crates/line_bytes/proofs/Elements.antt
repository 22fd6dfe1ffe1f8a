-- An element is put into the bytes of a line.
use Prim.Native.Nat.{ℕ, suc, ◌+◌, ◌≤◌, ◌<◌}
use mathlib.Core.Path.{◌≡◌, sym, ap, ◌∙◌}
use mathlib.Core.List.{List, [], ◌∷◌, ◌++◌}
use native.Mathlib.Omega.{arith}
use lib.ListN.{length, get_or, set, take, drop, take-append-drop}
use lib.Seq.{length-take-le, drop-cons}
use Rattle.solving.specs.Line.{equal}
use Rattle.line_bytes.specs.declared.element.Relation.TheVariants.{Equal, Greater}
use Rattle.line_bytes.specs.declared.element.Element.{Element as Held}
use Rattle.line_bytes.specs.ForContracts.Layout.{placed}
use Rattle.line_bytes.specs.ForContracts.Resting.{meaning, equality_mark, marks, Markable}
use Rattle.line_bytes.specs.Theory.Element.{says_equal, says_greater}
use Rattle.line_bytes.specs.Theory.Placed.{set_pair}

pub set_placed_two : (l : List ℕ) (at a b : ℕ) → at + 2 ≤ length l → set (set l at a) (at + 1) b ≡ placed at (a ∷ b ∷ []) l
unfolding placed
set_placed_two l at a b h =
    let x = get_or l at 0 in
    let y = get_or l (suc at) 0 in
    let e : suc (suc at) ≡ at + 2 = omega arith in
    let d : drop at l ≡ x ∷ y ∷ drop (at + 2) l = drop-cons l at 0 (omega arith) ∙ ap (x ∷◌) (drop-cons l (suc at) 0 (omega arith) ∙ ap (λ n. y ∷ drop n l) e) in
    ap (λ l. set (set l at a) (at + 1) b) (sym (take-append-drop at l) ∙ ap (take at l ++◌) d)
    ∙ set_pair (take at l) x y a b (drop (at + 2) l) at (length-take-le at l (omega arith))

-- An element's two bytes.
module _ (l after : List ℕ) (at : ℕ) (e : Held) (p q : ℕ) (h : at + 2 ≤ length l) where
  pub equality_low : e.relation ≡ Equal p q → Markable (meaning e ∷ []) → p < equality_mark
  equality_low d m = let n : Markable (equal p q ∷ []) = rw (says_equal e p q d) at m in n.0

  pub equality_put : e.relation ≡ Equal p q → after ≡ set (set l at (p + equality_mark)) (at + 1) q → after ≡ placed at (marks (meaning e ∷ [])) l
  unfolding marks
  equality_put d f =
      let c : p + equality_mark ≡ equality_mark + p = omega arith in
      f ∙ (set_placed_two l at (p + equality_mark) q h ∙ (ap (λ x. placed at (x ∷ q ∷ []) l) c ∙ ap (λ x. placed at (marks (x ∷ [])) l) (sym (says_equal e p q d))))

  pub inequality_put : e.relation ≡ Greater p q → after ≡ set (set l at p) (at + 1) q → after ≡ placed at (marks (meaning e ∷ [])) l
  unfolding marks
  inequality_put d f = f ∙ (set_placed_two l at p q h ∙ ap (λ x. placed at (marks (x ∷ [])) l) (sym (says_greater e p q d)))
