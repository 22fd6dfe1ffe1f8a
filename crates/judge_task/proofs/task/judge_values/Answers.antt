-- `judge_values` gives the first line that holds at the values that the digits write.
use mathlib.Core.Path.{refl, sym, ◌∙◌}
use Rattle.format.specs.Limits.{node_count}
use Rattle.scanning.specs.ForContracts.Scan.{known_arities}
use Rattle.cells.specs.Theory.Cells.{symbols_zero}
use Rattle.format.specs.Theory.Behind.{cells_there, cells_behind}
use Rattle.judge_task.proofs.JudgeTaskLaws.{values_room, values_symbols, values_taken, values_judged}
use Rattle.judge_task.specs.Theory.Holding.{values_told}
use Rattle.judge_task.proofs.task.judge_values.Goals as goal

pub slice_bounds-arities-end : goal.slice_bounds-arities-end
slice_bounds-arities-end c = values_room c.requires.0.are

pub slice_bounds-load_terms-end : goal.slice_bounds-load_terms-end
slice_bounds-load_terms-end c = values_symbols c.requires.0.are

pub load_terms-n-requires : goal.load_terms-n-requires
load_terms-n-requires c = let has = c.requires.0 in record { has_terms_in = record { terms = has.terms; are = values_taken has.are }; nodes_len = (refl, refl, symbols_zero node_count) }

pub slice_bounds-judge_lines-end-4 : goal.slice_bounds-judge_lines-end-4
slice_bounds-judge_lines-end-4 c = sym (cells_there c.args.scratch.now c.requires.1)

pub judge_lines-requires : goal.judge_lines-requires
judge_lines-requires c =
    let has = c.requires.0 in (
      record {
        arities = known_arities c.args.known;
        number = has.number;
        equation = has.equation;
        direction = has.direction;
        kept = has.are.kept;
        terms = has.terms;
        is = values_judged has.are c.load_terms-n.new.nodes c.load_terms-n.new.sizes c.load_terms-n.result (c.load_terms-n.ensures has.terms (values_taken has.are));
      },
      cells_there c.args.scratch.now c.requires.1,
    )

pub returns : goal.returns
returns c =
    record {
      by_index = λ i e d ts v. values_told v c.judge_lines.result (c.judge_lines.ensures (known_arities c.args.known) i e d v.kept ts
          (values_judged v c.load_terms-n.new.nodes c.load_terms-n.new.sizes c.load_terms-n.result (c.load_terms-n.ensures ts (values_taken v))));
      scratch_unchanged = cells_behind c.args.scratch.now c.judge_lines.new.cells (c.judge_lines.auto.cells ∙ cells_there c.args.scratch.now c.requires.1);
    }
