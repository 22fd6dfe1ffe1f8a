-- The bytes of a resting line cut at an element.
use Rattle.std.specs.Prelude.{ℕ, zero, suc, ◌+◌, ◌-◌, ◌*◌, ◌≤◌, ◌≡◌, List, [], ◌∷◌, ◌++◌, length, drop, replicate}
use Rattle.std.proofs.Common.{sym, ap, ◌∙◌, append_assoc, zero-add, suc-add, arith}
use Rattle.std.proofs.lemmas.List.{length-replicate, drop-append-le}
use Rattle.format.specs.Limits.{max_elements, no_position}
use Rattle.solving.specs.Line.{Element}
use Rattle.line_bytes.specs.ForContracts.Resting.{marks, padding, resting_bytes}
use Rattle.line_bytes.specs.ForContracts.Room.{rest_after}
use Rattle.line_bytes.specs.Theory.Resting.{marks_append}

drop_replicate : (k j a : ℕ) → drop k (replicate (k + j) a) ≡ replicate j a
drop_replicate zero j a = ap (λ n. replicate n a) (zero-add j)
drop_replicate (suc k) j a = ap (λ n. drop (suc k) (replicate n a)) (suc-add k j) ∙ drop_replicate k j a

-- "ff after the last": a line of other length has as many fewer or more.
pub padding_after : (n count total : ℕ) (last : List ℕ) → count ≤ max_elements → total ≤ max_elements → total + 1 ≡ count + n → rest_after n (padding count ++ last) ≡ padding total ++ last
unfolding rest_after padding
padding_after zero count total last a b e =
    let f : suc (suc (2 * (max_elements - count))) ≡ 2 * (max_elements - total) = omega arith in
    ap (λ m. replicate m no_position ++ last) f
padding_after (suc n) count total last a b e =
    let f : 2 * (max_elements - count) ≡ 2 * n + 2 * (max_elements - total) = omega arith in
    let l = length-replicate {A = ℕ} (2 * (max_elements - count)) no_position in
    drop-append-le (2 * n) (replicate (2 * (max_elements - count)) no_position) last (omega arith)
    ∙ ap (◌++ last) (ap (λ m. drop (2 * n) (replicate m no_position)) f ∙ drop_replicate (2 * n) (2 * (max_elements - total)) no_position)

pub length_padding : (count : ℕ) → length (padding count) ≡ 2 * (max_elements - count)
unfolding padding
length_padding count = length-replicate (2 * (max_elements - count)) no_position

-- A line's bytes, cut around one of its elements.
pub resting_cut : (bindings : List ℕ) (pre post : List Element) (e : Element) (r : ℕ)
    → resting_bytes (record { bindings = bindings; elements = pre ++ e ∷ post; reduced = r })
    ≡ (bindings ++ (length (pre ++ e ∷ post) ∷ marks pre)) ++ (marks (e ∷ []) ++ (marks post ++ (padding (length (pre ++ e ∷ post)) ++ (r ∷ []))))
unfolding resting_bytes
resting_cut bindings pre post e r =
    let count = length (pre ++ e ∷ post) in
    let rest = padding count ++ (r ∷ []) in
    let one : marks (pre ++ e ∷ post) ++ rest ≡ marks pre ++ (marks (e ∷ []) ++ (marks post ++ rest)) =
    ap (◌++ rest) (marks_append pre (e ∷ post) ∙ ap (marks pre ++◌) (marks_append (e ∷ []) post))
    ∙ (append_assoc (marks pre) (marks (e ∷ []) ++ marks post) rest
    ∙ ap (marks pre ++◌) (append_assoc (marks (e ∷ [])) (marks post) rest)) in
    ap (λ bs. bindings ++ (count ∷ bs)) one ∙ sym (append_assoc bindings (count ∷ marks pre) (marks (e ∷ []) ++ (marks post ++ rest)))
