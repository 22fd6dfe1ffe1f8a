-- An equation as the walk's code is given it: beside each of its bytes the number of nodes of the term that starts there.
use Rattle.std.specs.Prelude.{ℕ, List, ◌++◌, map}
use Rattle.terms.specs.Term.{size}
use Rattle.terms.specs.Position.{subterms}
use Rattle.terms.specs.Equation.{Equation}

unfoldable pub equation_sizes : Equation → List ℕ
unfolding subterms size
equation_sizes e = map size (subterms e.left ++ subterms e.right)
