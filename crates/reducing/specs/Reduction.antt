-- Ground reduction, whichever steps are chosen (document 02, W10).
use Rattle.std.specs.Prelude.{ℕ, ◌<◌, ◌≡◌, false, List, [], ◌∷◌, get_or}
use Rattle.std.proofs.Math.Option.{some}
use Rattle.format.specs.Lists.{entry}
use Rattle.terms.specs.Term.{Term, var, size, Values, inst}
use Rattle.terms.specs.Position.{subterms, replace}
use Rattle.terms.specs.Equation.{Equation, source, target}
use Rattle.terms.specs.declared.direction.Direction.{Direction}
use Rattle.path_order.specs.Order.{◌≻◌}
use Rattle.reducing.specs.Match.{has_variable}
use Rattle.reducing.specs.Run.{Step}

-- One term reduces to another by a step of document 01 ('Runs'), not only by the first: at any position, by any equation in any direction. The part there
-- is an instance of the source side, and variables that the source lacks have the filling (document 02, W5); this source instance "exceeds its target instance
-- by L1 to L3" (the reference run's test, so no direction has to solve); "The matched part becomes the target's instance."
pub record Reduces (filling : Term) (es : List Equation) (subject result : Term) : Type 0 where
  pub number : ℕ
  pub equation : Equation
  pub equation_there : entry es number ≡ some equation
  pub direction : Direction
  pub position : ℕ
  pub inside : position < size subject
  pub values : Values
  pub matches : get_or (subterms subject) position (var 0) ≡ inst values (source equation direction)
  pub fills : (v : ℕ) → has_variable v (source equation direction) ≡ false → values v ≡ filling
  pub exceeds : inst values (source equation direction) ≻ inst values (target equation direction)
  pub gives : result ≡ replace subject position (inst values (target equation direction))

-- No equation reduces the term in any direction: in the field's words it is a normal form.
abbrev pub Irreducible : (filling : Term) → List Equation → Term → Type 0
Irreducible filling es t = (result : Term) → ¬ Reduces filling es t result

-- The step is a reduction, by its equation in its direction at its position.
pub record StepReduces (filling : Term) (es : List Equation) (subject : Term) (s : Step) : Type 0 where
  pub reduces : Reduces filling es subject s.result
  pub same_equation : reduces.number ≡ s.equation
  pub same_direction : reduces.direction ≡ s.direction
  pub same_position : reduces.position ≡ s.position

-- Each step is one of the term before it.
abbrev pub StepsReduce : (filling : Term) → List Equation → Term → List Step → Type 0
StepsReduce filling es subject [] = Unit {0}
StepsReduce filling es subject (s ∷ steps) = StepReduces filling es subject s × StepsReduce filling es s.result steps
