-- Two turns by computation: a kept inequality is looked at again after a binding, and the occurs test looks through the bindings.
use Rattle.std.specs.Prelude.{◌≡◌, refl, [], ◌∷◌}
use Rattle.std.proofs.Math.Option.{some}
use Rattle.terms.specs.Term.{Term, var, app, nil, cons}
use Rattle.terms.specs.Equation.{Equation, view}
use Rattle.solving.specs.Line.{no_bindings, bind, line, greater}
use Rattle.solving.specs.Walk.{enough, turn}

-- x (yc) = y (xc), with the product above c. Positions: x at 1, yc at 2, y at 3; y at 6, xc at 7, x at 8.
abbrev product : Term → Term → Term
product s t = app 1 (cons s (cons t nil))

crossed : Equation
crossed = record { left = product (var 0) (product (var 1) (app 0 nil)); right = product (var 1) (product (var 0) (app 0 nil)) }

-- x > y was kept; then x was bound to yc, in which y occurs: the element is deleted.
looked_at_again : turn enough (view crossed) (line (bind no_bindings 0 2) (greater 1 6 ∷ []) ∷ []) ≡ some (line (bind no_bindings 0 2) [] ∷ [])
unfolding turn view crossed no_bindings
looked_at_again = refl

-- y > x, where x is bound to yc: y occurs in x, seen through the binding, and the line is deleted.
seen_through : turn enough (view crossed) (line (bind no_bindings 0 2) (greater 6 1 ∷ []) ∷ []) ≡ some []
unfolding turn view crossed no_bindings
seen_through = refl
