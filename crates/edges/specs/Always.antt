-- `always` (document 02, W6) at the edges, checked against the definitions by computation. Each equation is asked left > right.
use Rattle.std.specs.Prelude.{ℕ, ◌≡◌, refl, true, false}
use Prim.Native.String.{String}
use Rattle.format.specs.declared.refusal.Refusal.TheVariants.{TooManyElements as too_many_elements, TooManyLines as too_many_lines}
use Rattle.terms.specs.declared.direction.Direction.TheVariants.{LeftRight as left_right}
use Rattle.solving.specs.Walk.{Walked, solved, refused, solve}
use Rattle.solving.specs.Always.{Answered, answered, always}
use Rattle.cases.specs.Checked.{term}

-- Arities, left side, right side.
unfoldable ask : (arities left right : String) → Answered
unfolding always term
ask arities l r = always (record { left = term arities l; right = term arities r }) left_right

unfoldable solving : (arities left right : String) → Walked
unfolding solve term
solving arities l r = solve (record { left = term arities l; right = term arities r }) left_right

turns : Walked → ℕ
turns (solved table n) = n
turns (refused r) = 0

-- Symbols p, c, f and g with arities 2, 0, 1 and 2. g(x, y) > c: "as soon as", in the first turn of three.
first_turn : ask "02000102" "038081" "01" ≡ answered true 1
unfolding ask
first_turn = refl

first_of_three : turns (solving "02000102" "038081" "01") ≡ 3
unfolding turns solving
first_of_three = refl

-- p(f(x), y) > c: in the second turn f(x) > c makes the line, with others in front of it and behind it.
in_the_middle : ask "02000102" "00028081" "01" ≡ answered true 2
unfolding ask
in_the_middle = refl

-- p(f(x), y) > f(x): by f(x) = f(x), which binds nothing.
by_equality : ask "02000102" "00028081" "0280" ≡ answered true 6
unfolding ask
by_equality = refl

-- g(x, y) > p(x, y): g(x, y) > x and g(x, y) > y are deleted.
by_deletion : ask "02000102" "038081" "008081" ≡ answered true 7
unfolding ask
by_deletion = refl

-- With d, c, f and g of arities 0, 0, 1 and 2, g(x, c) > f(d): x = f(d) leaves a line with no element but a binding, and the answer is not yet yes.
binding_first : ask "00000102" "038001" "0200" ≡ answered true 5
unfolding ask
binding_first = refl

-- f(x, y) > f(y, g(y)): no element but a binding, and no other line without an element.
binding_left : ask "000201" "018081" "01810281" ≡ answered false 11
unfolding ask
binding_left = refl

-- P10, x > y: no turn is taken, and the first line has an element.
no_turn : ask "00" "80" "81" ≡ answered false 0
unfolding ask
no_turn = refl

-- g(x) > a with a above g: x > a or x = a holds at all ground values, and the answer is no, since no line is always true.
two_lines : ask "0100" "0080" "01" ≡ answered false 2
unfolding ask
two_lines = refl

-- "A yes already reached stands though solve would later have given 8, 9 or 10."
yes_then_nine : ask "0002040300" "0103028282828202808082820281818101818203808104" "030282828282028080828202818181018182" ≡ answered true 108
unfolding ask
yes_then_nine = refl

nine : solving "0002040300" "0103028282828202808082820281818101818203808104" "030282828282028080828202818181018182" ≡ refused too_many_elements
unfolding solving
nine = refl

yes_then_ten : ask "000203" "0101800101818000010102818101810001018181010080018180" "01800101818000" ≡ answered true 70
unfolding ask
yes_then_ten = refl

ten : solving "000203" "0101800101818000010102818101810001018181010080018180" "01800101818000" ≡ refused too_many_lines
unfolding solving
ten = refl
