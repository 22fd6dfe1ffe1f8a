-- `exceeds`, `compare_symbols`, `argument_reaches`, `exceeds_arguments`, `first_difference` and `compare_arguments` meet their contracts. They call each other while
-- the summed size of the terms compared falls.
-- The measures: eight times the summed size of the terms compared, and more the earlier a function stands in the chain of those that hand the same terms on.
use Prim.Native.Nat.{◌-◌, ◌+◌, ◌*◌}
use Rattle.comparing.proofs.Loops.{Reaching, Exceeding}
use Rattle.comparing.proofs.Arguments.{ComparingArguments}
use Rattle.comparing.specs.Theory.Weight.{term_weight, row_weight}
use Rattle.comparing.proofs.comparison.Compared.+comparison.Given as goal

abbrev pub decreases-argument_reaches : goal.decreases-argument_reaches
decreases-argument_reaches l = (row_weight l.self.now.nodes.now l.self.now.sizes.now l.self.now.values.now l.row + term_weight l.self.now.nodes.now l.self.now.sizes.now l.self.now.values.now l.j) * 8 + 4

abbrev pub decreases-compare_arguments : goal.decreases-compare_arguments
decreases-compare_arguments l = (term_weight l.self.now.nodes.now l.self.now.sizes.now l.self.now.values.now l.i + term_weight l.self.now.nodes.now l.self.now.sizes.now l.self.now.values.now l.j) * 8 + 1

abbrev pub decreases-compare_symbols : goal.decreases-compare_symbols
decreases-compare_symbols l = (term_weight l.self.now.nodes.now l.self.now.sizes.now l.self.now.values.now l.i + term_weight l.self.now.nodes.now l.self.now.sizes.now l.self.now.values.now l.j) * 8 + 2

abbrev pub decreases-exceeds : goal.decreases-exceeds
decreases-exceeds l = (term_weight l.self.now.nodes.now l.self.now.sizes.now l.self.now.values.now l.i + term_weight l.self.now.nodes.now l.self.now.sizes.now l.self.now.values.now l.j) * 8 + 3

abbrev pub decreases-exceeds_arguments : goal.decreases-exceeds_arguments
decreases-exceeds_arguments l = (term_weight l.self.now.nodes.now l.self.now.sizes.now l.self.now.values.now l.i + row_weight l.self.now.nodes.now l.self.now.sizes.now l.self.now.values.now l.row) * 8 + 4

abbrev pub decreases-first_difference : goal.decreases-first_difference
decreases-first_difference l = (term_weight l.self.now.nodes.now l.self.now.sizes.now l.self.now.values.now l.i + term_weight l.self.now.nodes.now l.self.now.sizes.now l.self.now.values.now l.j) * 8 + 0

abbrev pub invariant-argument_reaches-loop-at : goal.invariant-argument_reaches-loop-at
invariant-argument_reaches-loop-at l = Reaching l.self.nodes.now l.self.sizes.now l.self.values.now (record { from = l.initial.at; end = l.end }) l.j l.ready l.cells (record { from = l.at; end = l.end })

abbrev pub decreases-argument_reaches-loop-at : goal.decreases-argument_reaches-loop-at
decreases-argument_reaches-loop-at l = l.end - l.at

abbrev pub invariant-exceeds_arguments-loop-at : goal.invariant-exceeds_arguments-loop-at
invariant-exceeds_arguments-loop-at l = Exceeding l.self.nodes.now l.self.sizes.now l.self.values.now l.i (record { from = l.initial.at; end = l.end }) l.ready l.cells (record { from = l.at; end = l.end })

abbrev pub decreases-exceeds_arguments-loop-at : goal.decreases-exceeds_arguments-loop-at
decreases-exceeds_arguments-loop-at l = l.end - l.at

abbrev pub invariant-first_difference-loop-first : goal.invariant-first_difference-loop-first
invariant-first_difference-loop-first l = ComparingArguments l.self.nodes.now l.self.sizes.now l.self.values.now l.i l.j l.ready l.cells l.first l.second

abbrev pub decreases-first_difference-loop-first : goal.decreases-first_difference-loop-first
decreases-first_difference-loop-first l = l.first.end - l.first.from
