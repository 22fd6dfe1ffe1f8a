-- `begin_walk` meets its contract.
use mathlib.Core.Path.{refl, ap, ◌∙◌}
use Rattle.line_bytes.specs.ForContracts.Resting.{resting_bytes}
use Rattle.solve_equation.proofs.Begin.{opening_walks}
use Rattle.solve_equation.proofs.positions.begin_walk.Goals as goal

pub returns : goal.returns
returns c =
    record { walking = opening_walks c.requires.in_prefix_form.0 c.args.source c.args.target c.requires.in_prefix_form.1 c.requires.in_prefix_form.2 c.args.memory.now c.store.new.records c.write.new.line c.requires.memory_len (c.write.ensures ∙ ap resting_bytes c.opening-opening.ensures.result_value) c.store.ensures; source_value = (refl, refl, refl) }
