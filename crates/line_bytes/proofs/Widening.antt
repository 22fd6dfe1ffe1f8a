-- The laws of room in a line for some elements in the place of one.
use Prim.Native.Nat.{ℕ, suc, ◌+◌, ◌-◌, ◌*◌}
use mathlib.Core.Path.{◌≡◌, sym, ap, ◌∙◌}
use mathlib.Core.List.{List, [], ◌∷◌, ◌++◌, append_assoc}
use lib.ListN.{length, get_or, set, length-append}
use lib.Seq.{get_or_at}
use native.Mathlib.Omega.{arith}
use Rattle.format.specs.Limits.{max_elements}
use Rattle.line_bytes.specs.ForContracts.Layout.{count_place, first_element, reduced_place}
use Rattle.line_bytes.specs.ForContracts.Resting.{marks, padding}
use Rattle.line_bytes.specs.ForContracts.Room.{front_bytes, back_bytes, rest_after, Shifted, WideningFits, Widened}
use Rattle.line_bytes.specs.Theory.Resting.{length_marks}
use Rattle.line_bytes.specs.Theory.InPlace.{counts_set}
use Rattle.line_bytes.specs.Theory.Cut.{length_padding, padding_after, resting_cut}

pub widened : (i n count : ℕ) (before shifted after : List ℕ) → WideningFits i n before → count ≡ get_or before count_place 0
    → Shifted (2 * i + first_element + 2) (2 * count + first_element) n before shifted → after ≡ set (set shifted count_place (count + n - 1)) reduced_place i → Widened i n before after
unfolding front_bytes back_bytes
widened i n count before shifted after w x s y = record {
  opens = λ bindings pre post e r bound place is.
      let c = length (pre ++ e ∷ post) in
      let long : c ≡ length pre + suc (length post) = length-append pre (e ∷ post) in
      let cut = is ∙ resting_cut bindings pre post e r in
      let behind = marks (e ∷ []) ++ (marks post ++ (padding c ++ (r ∷ []))) in
      let front = bindings ++ (c ∷ marks pre) in
      let j : count ≡ c =
      x
      ∙ (ap (λ bs. get_or bs count_place 0) (cut ∙ append_assoc bindings (c ∷ marks pre) behind)
      ∙ get_or_at bindings c (marks pre ++ behind) 0 count_place bound) in
      let a = length-append bindings (c ∷ marks pre) in
      let b = length_marks pre in
      let d = length_marks post in
      let few = w.few in
      let inside = w.inside in
      let room = w.room in
      let g = s.moves front (marks (e ∷ [])) (marks post) (padding c ++ (r ∷ [])) (omega arith) (length_marks (e ∷ [])) (omega arith) cut in
      let total = length pre + n + length post in
      let t : count + n - 1 ≡ total = omega arith in
      let full : marks post ++ rest_after n (padding c ++ (r ∷ [])) ≡ marks post ++ (padding total ++ (r ∷ [])) =
      ap (marks post ++◌) (padding_after n c total (r ∷ []) (omega arith) (omega arith) (omega arith)) in
      let mid = marks pre ++ (g.gap ++ (marks post ++ padding total)) in
      let opened : shifted ≡ bindings ++ (c ∷ (mid ++ (r ∷ []))) = g.is ∙ (ap (λ bs. front ++ (g.gap ++ bs)) full ∙ simp append_assoc) in
      let lm : length mid ≡ 2 * max_elements =
      omega (arith, length-append (marks pre) (g.gap ++ (marks post ++ padding total)), length-append g.gap (marks post ++ padding total), length-append (marks post) (padding total), length_padding total, g.room) in
      let named : after ≡ bindings ++ (total ∷ (mid ++ (length pre ∷ []))) =
      y
      ∙ (ap (λ bs. set (set bs count_place (count + n - 1)) reduced_place i) opened
      ∙ (counts_set bindings c r (count + n - 1) i mid bound lm
      ∙ (ap (λ m. bindings ++ (m ∷ (mid ++ (i ∷ [])))) t ∙ ap (λ m. bindings ++ (total ∷ (mid ++ (m ∷ [])))) (sym place)))) in
      record { gap = g.gap; is = named ∙ simp append_assoc; room = g.room };
}
