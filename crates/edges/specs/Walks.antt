-- Walks at the edges of document 01, checked against the definitions by computation.
use Rattle.std.specs.Prelude.{ℕ, ◌≡◌, refl, false, List, [], ◌∷◌, ◌++◌, map, replicate}
use Prim.Native.String.{String}
use Rattle.std.proofs.Math.Option.{some}
use Rattle.format.specs.declared.refusal.Refusal.TheVariants.{TooManyTurns as too_many_turns, TooManyElements as too_many_elements, TooManyLines as too_many_lines}
use Rattle.terms.specs.Equation.{Equation, view}
use Rattle.solving.specs.Line.{Bindings, no_bindings, bind, equal, greater, Line, line}
use Rattle.solving.specs.Walk.{enough, treat, becomes, reach, over_limit, walk_until, Walked, solved, refused}
use Rattle.cases.specs.Checked.{term}

-- The walk, a turn at a time. c and a binary F.
unfoldable pub equation : (l r : String) → Equation
unfolding term
equation l r = record { left = term "0002" l; right = term "0002" r }

-- xy = yx: x stands at 1 and 5, y at 2 and 4.
unfoldable pub swap : Equation
unfolding equation
swap = equation "018081" "018180"

abbrev opening : List Line
opening = line no_bindings (greater 0 3 ∷ []) ∷ []

unfoldable pub swap_from : (left : ℕ) → List Line → Walked
unfolding walk_until over_limit view swap
swap_from left table = walk_until enough (view swap) over_limit (λ table. false) left 0 table

-- "8, a turn beyond 10,000": P1's 8 turns with 8 left, and with 7.
eight_of_eight : swap_from 8 opening ≡ solved (line no_bindings (greater 1 4 ∷ []) ∷ []) 8
unfolding swap_from no_bindings
eight_of_eight = refl

eight_of_seven : swap_from 7 opening ≡ refused too_many_turns
unfolding swap_from no_bindings
eight_of_seven = refl

-- "8 before 9 before 10": `n` elements x > y before xy > yx, which makes of the line 6 lines with up to one element more; 254 finished lines behind it.
abbrev crowd : ℕ → List Line
crowd n = line no_bindings (replicate n (greater 1 4) ++ greater 0 3 ∷ []) ∷ replicate 254 (line no_bindings [])

eight_first : swap_from 0 (crowd 39) ≡ refused too_many_turns
unfolding swap_from no_bindings
eight_first = refl

then_nine : swap_from 1 (crowd 39) ≡ refused too_many_elements
unfolding swap_from no_bindings
then_nine = refl

then_ten : swap_from 1 (crowd 38) ≡ refused too_many_lines
unfolding swap_from no_bindings
then_ten = refl

-- "A kept inequality not looked at again after a binding": x > y, then x = y.
looked_at_again : swap_from 9 (line no_bindings (greater 1 4 ∷ equal 1 4 ∷ []) ∷ []) ≡ solved [] 2
unfolding swap_from no_bindings
looked_at_again = refl

-- "An occurs test that does not look through bindings": xy = (yc)(xc).
occurs_through : treat enough (view (equation "018081" "01018100018000")) no_bindings (equal 0 3) ≡ becomes []
unfolding treat view equation no_bindings
occurs_through = refl

-- "a bound variable stands for its term, repeatedly": twelve variables in a row, each bound to the next and the last to c.
unfoldable pub row : Equation
unfolding equation
row = equation "0180018101820183018401850186018701880189018a018b80" "018101820183018401850186018701880189018a018b010080"

abbrev row_bindings : Bindings
row_bindings = some 26 ∷ some 28 ∷ some 30 ∷ some 32 ∷ some 34 ∷ some 36 ∷ some 38 ∷ some 40 ∷ some 42 ∷ some 44 ∷ some 46 ∷ some 48 ∷ []

row_unified : treat enough (view row) no_bindings (equal 0 25) ≡ becomes (line row_bindings [] ∷ [])
unfolding treat view row no_bindings
row_unified = refl

row_reached : reach enough (view row) row_bindings 1 ≡ 48
unfolding reach view row
row_reached = refl

-- "a binding stores the position reached through the bindings": with x bound to z, x = y binds y, the smaller of y and z, to the position of z.
unfoldable pub three : Equation
unfolding equation
three = equation "0180018182" "00"

reached_stored : treat enough (view three) (bind no_bindings 0 4) (equal 1 3) ≡ becomes (line (bind (bind no_bindings 0 4) 1 4) [] ∷ [])
unfolding treat view three no_bindings
reached_stored = refl

-- "A side taken whole keeps its element's position; arguments are those of the node reached": x at 7 is bound to cy at 4, and at 3 stands (cy)x.
unfoldable pub whole : Equation
unfolding equation
whole = equation "018000" "0101008180"

whole_kept : treat enough (view whole) (bind no_bindings 0 4) (greater 7 3)
    ≡ becomes (map (line (bind no_bindings 0 4)) (
    (greater 5 3 ∷ [])
    ∷ (equal 5 3 ∷ [])
    ∷ (greater 6 3 ∷ [])
    ∷ (equal 6 3 ∷ [])
    ∷ (greater 5 4 ∷ greater 7 7 ∷ [])
    ∷ (equal 5 4 ∷ greater 6 7 ∷ [])
    ∷ []
    ))
unfolding treat view whole no_bindings
whole_kept = refl
