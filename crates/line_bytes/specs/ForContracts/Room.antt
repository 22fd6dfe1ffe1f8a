-- Lines' bytes changed in place: room for some elements in the place of one.
use Rattle.std.specs.Prelude.{ℕ, zero, suc, ◌+◌, ◌*◌, ◌≤◌, ◌<◌, ◌≡◌, List, [], ◌∷◌, ◌++◌, length, get_or, drop}
use Rattle.format.specs.Limits.{variable_count, max_elements, no_position}
use Rattle.solving.specs.Line.{Element}
use Rattle.line_bytes.specs.ForContracts.Layout.{count_place, line_bytes}
use Rattle.line_bytes.specs.ForContracts.Resting.{marks, padding, RestingLine, resting_bytes}

-- The bytes of lines, one behind the other.
unfoldable pub lines_bytes : List RestingLine → List ℕ
unfolding resting_bytes
lines_bytes [] = []
lines_bytes (l ∷ ls) = resting_bytes l ++ lines_bytes ls

-- A line's bytes with room for `n` elements between `front` and `back`.
pub record Gap (line front : List ℕ) (n : ℕ) (back : List ℕ) : Type 0 where
  pub gap : List ℕ
  pub is : line ≡ front ++ (gap ++ back)
  pub room : length gap ≡ 2 * n

-- The front and the back of a line with these bindings, the elements `pre` in front of the room and `post` behind it.
unfoldable pub front_bytes : (bindings : List ℕ) (count : ℕ) (pre : List Element) → List ℕ
unfolding marks
front_bytes bindings count pre = bindings ++ (count ∷ marks pre)

unfoldable pub back_bytes : (count : ℕ) (post : List Element) (reduced : ℕ) → List ℕ
unfolding marks padding
back_bytes count post reduced = marks post ++ (padding count ++ (reduced ∷ []))

-- What follows the elements behind the room: shorter for a wider room, and longer by a pair of ff where the room is none.
unfoldable pub rest_after : (n : ℕ) (rest : List ℕ) → List ℕ
rest_after zero rest = no_position ∷ no_position ∷ rest
rest_after (suc n) rest = drop (2 * n) rest

-- The bytes from `from` to `end` moved, so that in the place of the pair in front of them there is room for `n` pairs.
pub record Shifted (from end n : ℕ) (before after : List ℕ) : Type 0 where
  pub moves : (front pair part rest : List ℕ) → length front + 2 ≡ from → length pair ≡ 2 → from + length part ≡ end → before ≡ front ++ (pair ++ (part ++ rest))
      → Gap after front n (part ++ rest_after n rest)

-- The line has an element `i`, and with `n` in the place of it no more than fit.
pub record WideningFits (i n : ℕ) (line : List ℕ) : Type 0 where
  pub whole : length line ≡ line_bytes
  pub few : get_or line count_place 0 ≤ max_elements
  pub inside : i < get_or line count_place 0
  pub room : get_or line count_place 0 + n ≤ max_elements + 1

-- Room for `n` elements in the place of element `i`.
pub record Widened (i n : ℕ) (before after : List ℕ) : Type 0 where
  pub opens : (bindings : List ℕ) (pre post : List Element) (e : Element) (r : ℕ) → length bindings ≡ variable_count → length pre ≡ i
      → before ≡ resting_bytes (record { bindings = bindings; elements = pre ++ e ∷ post; reduced = r })
      → Gap after (front_bytes bindings (length pre + n + length post) pre) n (back_bytes (length pre + n + length post) post (length pre))
