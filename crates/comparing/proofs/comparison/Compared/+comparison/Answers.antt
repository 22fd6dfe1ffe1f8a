-- Goals of the cycle `comparison`.
use mathlib.Core.Path.{refl}
use mathlib.Core.Bool.{true, false}
use native.Mathlib.Omega.{arith}
use Rattle.cells.specs.Theory.Nodes.{within}
use Rattle.cells.specs.Theory.Passed.{behind_first_too}
use Rattle.comparing.proofs.Rows.{reaching_none, reaching_first, all_none, all_not}
use Rattle.comparing.proofs.Loops.{reaching_again, reaching_passed, row_inside, exceeding_again, exceeding_passed}
use Rattle.comparing.specs.Theory.Rows.{first_argument}
use Rattle.comparing.proofs.Arguments.{arguments_weight, left_arguments, right_arguments, balanced, both_end, first_ends, second_ends, other_lists, difference}
use Rattle.comparing.proofs.Rules.{equal_arguments, smaller_arguments, greater_arguments}
use Rattle.comparing.specs.Theory.Symbols.{smaller_symbols, greater_symbols}
use Rattle.comparing.specs.Theory.Resolves.{symbol_resolves, subject_resolves, resolves}
use Rattle.comparing.proofs.Pair.{told, known, settled, comparing_start}
use Rattle.cells.specs.Theory.Cells.{made_ready_settled}
use Rattle.cells.specs.Theory.Resolved.{byte_low}
use Rattle.comparing.proofs.comparison.Compared.+comparison.Goals as goal

pub argument_reaches-bounds-self-at : goal.argument_reaches-bounds-self-at
argument_reaches-bounds-self-at t c =
    omega (arith, (first_argument c.loop-at.invariant.terms c.loop-at-test.true).below, c.loop-at.invariant.settled.nodes_length)

pub argument_reaches-behind_smaller-at-requires : goal.argument_reaches-behind_smaller-at-requires
argument_reaches-behind_smaller-at-requires t c =
    let more = c.loop-at-test.true in
    (omega (arith, more), row_inside c.loop-at.invariant.settled c.loop-at.invariant.terms more)

pub argument_reaches-loop-at-preserved-then-self-at : goal.argument_reaches-loop-at-preserved-then-self-at
argument_reaches-loop-at-preserved-then-self-at t c =
    reaching_passed (c.requires.settled_cells.symbols c.args.j c.requires.has_term.1) c.loop-at.invariant (behind_first_too c.loop-at-test.true c.if-self-at.true c.behind_smaller-at.ensures.behind)

pub argument_reaches-exceeds-requires : goal.argument_reaches-exceeds-requires
argument_reaches-exceeds-requires t c =
    let h = first_argument c.loop-at.invariant.terms c.loop-at-test.true in
    (omega (arith, c.decreases, h.first_weight, c.loop-at.invariant.light), (c.loop-at.invariant.settled, (h.term, c.requires.has_term)))

pub argument_reaches-returns-in_default : goal.argument_reaches-returns-in_default
argument_reaches-returns-in_default t c =
    let told = reaching_first c.loop-at-test.true c.exceeds.ensures.compares c.in_default.not-Smaller in
    record { finds_reaching = c.loop-at.invariant.back true told; settled_cells_2 = c.exceeds.ensures.settled_cells_2 }

pub argument_reaches-bounds-self-at-in-loop-at : goal.argument_reaches-bounds-self-at-in-loop-at
argument_reaches-bounds-self-at-in-loop-at t c =
    omega (arith, (first_argument c.loop-at.invariant.terms c.loop-at-test.true).below, c.loop-at.invariant.settled.sizes_length)

pub argument_reaches-loop-at-smaller : goal.argument_reaches-loop-at-smaller
argument_reaches-loop-at-smaller t c =
    omega (arith, c.from-at.ensures, c.loop-at-test.true, (first_argument c.loop-at.invariant.terms c.loop-at-test.true).some)

pub argument_reaches-loop-at-preserved : goal.argument_reaches-loop-at-preserved
argument_reaches-loop-at-preserved t c =
    reaching_again c.loop-at.invariant c.loop-at-test.true c.exceeds.ensures.compares c.in-Smaller.is c.exceeds.ensures.settled_cells_2 c.from-at.ensures

pub argument_reaches-returns : goal.argument_reaches-returns
argument_reaches-returns t c = record { finds_reaching = c.loop-at.invariant.back false (reaching_none c.loop-at-test.false); settled_cells_2 = c.loop-at.invariant.settled }

pub compare_arguments-argument_reaches-requires : goal.compare_arguments-argument_reaches-requires
compare_arguments-argument_reaches-requires t c =
    (omega (arith, c.decreases, arguments_weight c.first_difference-difference.ensures.finds_difference.first), (c.first_difference-difference.ensures.settled_cells_2, (c.first_difference-difference.ensures.finds_difference.first.those, (c.requires.has_term_2.0, c.requires.has_term_2.2))))

pub compare_arguments-exceeds_arguments-requires : goal.compare_arguments-exceeds_arguments-requires
compare_arguments-exceeds_arguments-requires t c =
    (omega (arith, c.decreases, arguments_weight c.first_difference-difference.ensures.finds_difference.second), (c.first_difference-difference.ensures.settled_cells_2, (c.requires.has_term, (c.first_difference-difference.ensures.finds_difference.second.those, c.first_difference-difference.ensures.finds_difference.second_low))))

pub compare_arguments-returns-in-Equal : goal.compare_arguments-returns-in-Equal
compare_arguments-returns-in-Equal t c =
    record { compares = equal_arguments c.first_difference-difference.ensures.finds_difference c.in-Equal.is refl; settled_cells_2 = c.first_difference-difference.ensures.settled_cells_2 }

pub compare_arguments-returns-in-Smaller : goal.compare_arguments-returns-in-Smaller
compare_arguments-returns-in-Smaller t c =
    record { compares = smaller_arguments c.first_difference-difference.ensures.finds_difference c.in-Smaller.is c.argument_reaches.ensures.finds_reaching c.greater_if.ensures; settled_cells_2 = c.argument_reaches.ensures.settled_cells_2 }

pub compare_arguments-returns-in-Greater : goal.compare_arguments-returns-in-Greater
compare_arguments-returns-in-Greater t c =
    record { compares = greater_arguments c.first_difference-difference.ensures.finds_difference c.in-Greater.is c.exceeds_arguments.ensures.compares_with_all c.greater_if-in-Greater.ensures; settled_cells_2 = c.exceeds_arguments.ensures.settled_cells_2 }

pub compare_symbols-argument_reaches-requires : goal.compare_symbols-argument_reaches-requires
compare_symbols-argument_reaches-requires t c =
    let x = symbol_resolves c.requires.has_term.0 c.requires.has_term.1 in
    rw c.arguments_of-row.ensures (omega (arith, c.decreases, x.weight), (c.requires.settled_cells, (x.arguments, c.requires.has_term_2)))

pub compare_symbols-returns-then-f-g : goal.compare_symbols-returns-then-f-g
compare_symbols-returns-then-f-g t c =
    let x = symbol_resolves c.requires.has_term.0 c.requires.has_term.1 in
    let y = subject_resolves c.requires.settled_cells c.requires.has_term_2.0 c.requires.has_term_2.1 in
    record { compares = smaller_symbols x.symbol y.symbol c.if-f-g.true (rw c.arguments_of-row.ensures at c.argument_reaches.ensures.finds_reaching) c.greater_if.ensures; settled_cells_2 = c.argument_reaches.ensures.settled_cells_2 }

pub compare_symbols-exceeds_arguments-requires : goal.compare_symbols-exceeds_arguments-requires
compare_symbols-exceeds_arguments-requires t c =
    let y = subject_resolves c.requires.settled_cells c.requires.has_term_2.0 c.requires.has_term_2.1 in
    rw c.arguments_of-row-then-g-f.ensures (omega (arith, c.decreases, y.weight), (c.requires.settled_cells, (c.requires.has_term, (y.arguments, omega (arith, c.requires.has_term_2.1)))))

pub compare_symbols-returns-then-g-f : goal.compare_symbols-returns-then-g-f
compare_symbols-returns-then-g-f t c =
    let x = symbol_resolves c.requires.has_term.0 c.requires.has_term.1 in
    let y = subject_resolves c.requires.settled_cells c.requires.has_term_2.0 c.requires.has_term_2.1 in
    record { compares = greater_symbols x.symbol y.symbol c.if-g-f.true (rw c.arguments_of-row-then-g-f.ensures at c.exceeds_arguments.ensures.compares_with_all) c.greater_if-then-g-f.ensures; settled_cells_2 = c.exceeds_arguments.ensures.settled_cells_2 }

pub exceeds-resolve-s-requires : goal.exceeds-resolve-s-requires
exceeds-resolve-s-requires t c =
    let h = c.requires.has_term.denotes in
    omega (arith, within h, byte_low h, c.requires.settled_cells.nodes_length)

pub exceeds-tell_constants-requires : goal.exceeds-tell_constants-requires
exceeds-tell_constants-requires t c =
    let x = resolves c.requires.has_term c.resolve-s.ensures in
    let y = subject_resolves c.requires.settled_cells c.requires.has_term_2.0 c.requires.has_term_2.1 in
    record { i_in_bounds = (omega (arith, x.below, c.requires.settled_cells.nodes_length), omega (arith, x.below, c.requires.settled_cells.sizes_length), x.symbol); j_in_bounds = (omega (arith, y.below, c.requires.settled_cells.nodes_length), omega (arith, y.below, c.requires.settled_cells.sizes_length), y.symbol) }

pub exceeds-returns-in-Some : goal.exceeds-returns-in-Some
exceeds-returns-in-Some t c =
    let x = resolves c.requires.has_term c.resolve-s.ensures in
    let clauses = told x c.requires.settled_cells (c.in-Some.ensures _) in record { compares = clauses.0; settled_cells_2 = clauses.1 }

pub exceeds-make_ready-requires : goal.exceeds-make_ready-requires
exceeds-make_ready-requires t c =
    let x = resolves c.requires.has_term c.resolve-s.ensures in (x.below, c.requires.settled_cells.ready_length, c.requires.settled_cells.cells_length)

pub exceeds-overflow_add-cell : goal.exceeds-overflow_add-cell
exceeds-overflow_add-cell t c =
    let x = resolves c.requires.has_term c.resolve-s.ensures in
    let y = subject_resolves c.requires.settled_cells c.requires.has_term_2.0 c.requires.has_term_2.1 in
    omega (arith, x.below, y.below)

pub exceeds-bounds-cells-cell : goal.exceeds-bounds-cells-cell
exceeds-bounds-cells-cell t c =
    let x = resolves c.requires.has_term c.resolve-s.ensures in
    let y = subject_resolves c.requires.settled_cells c.requires.has_term_2.0 c.requires.has_term_2.1 in
    let m = made_ready_settled c.requires.settled_cells c.make_ready.ensures in
    omega (arith, x.below, y.below, m.cells_length)

pub exceeds-returns-then-known-gt0 : goal.exceeds-returns-then-known-gt0
exceeds-returns-then-known-gt0 t c =
    let x = resolves c.requires.has_term c.resolve-s.ensures in
    let y = subject_resolves c.requires.settled_cells c.requires.has_term_2.0 c.requires.has_term_2.1 in
    let clauses = known x y (made_ready_settled c.requires.settled_cells c.make_ready.ensures) c.make_ready.ensures.is_ready c.requires.has_term_2.1 c.if-known-gt0.true c.held.ensures in record { compares = clauses.0; settled_cells_2 = clauses.1 }

pub exceeds-compare_symbols-verdict-requires : goal.exceeds-compare_symbols-verdict-requires
exceeds-compare_symbols-verdict-requires t c =
    let x = resolves c.requires.has_term c.resolve-s.ensures in
    (omega (arith, c.decreases, x.same_weight), (made_ready_settled c.requires.settled_cells c.make_ready.ensures, ((x.here, x.symbol), c.requires.has_term_2)))

pub exceeds-settle-requires : goal.exceeds-settle-requires
exceeds-settle-requires t c =
    let x = resolves c.requires.has_term c.resolve-s.ensures in
    let y = subject_resolves c.requires.settled_cells c.requires.has_term_2.0 c.requires.has_term_2.1 in
    omega (arith, x.below, y.below, c.compare_symbols-verdict.ensures.settled_cells_2.cells_length)

pub exceeds-returns : goal.exceeds-returns
exceeds-returns t c =
    let x = resolves c.requires.has_term c.resolve-s.ensures in
    let y = subject_resolves c.requires.settled_cells c.requires.has_term_2.0 c.requires.has_term_2.1 in
    let clauses = settled x y c.compare_symbols-verdict.ensures.settled_cells_2 c.compare_symbols-verdict.ensures.compares c.settle.ensures.value c.settle.ensures.cells_after in record { compares = clauses.0; settled_cells_2 = clauses.1 }

pub exceeds_arguments-bounds-self-at : goal.exceeds_arguments-bounds-self-at
exceeds_arguments-bounds-self-at t c =
    omega (arith, (first_argument c.loop-at.invariant.terms c.loop-at-test.true).below, c.loop-at.invariant.settled.nodes_length)

pub exceeds_arguments-behind_smaller-at-requires : goal.exceeds_arguments-behind_smaller-at-requires
exceeds_arguments-behind_smaller-at-requires t c =
    let more = c.loop-at-test.true in
    (omega (arith, more), row_inside c.loop-at.invariant.settled c.loop-at.invariant.terms more)

pub exceeds_arguments-loop-at-preserved-then-self-at : goal.exceeds_arguments-loop-at-preserved-then-self-at
exceeds_arguments-loop-at-preserved-then-self-at t c =
    exceeding_passed c.requires.has_term.1 c.loop-at.invariant (behind_first_too c.loop-at-test.true c.if-self-at.true c.behind_smaller-at.ensures.behind)

pub exceeds_arguments-exceeds-requires : goal.exceeds_arguments-exceeds-requires
exceeds_arguments-exceeds-requires t c =
    let h = first_argument c.loop-at.invariant.terms c.loop-at-test.true in
    (omega (arith, c.decreases, h.first_weight, c.loop-at.invariant.light), (c.loop-at.invariant.settled, (c.requires.has_term.0, (h.term, c.loop-at.invariant.low))))

pub exceeds_arguments-returns-in_default : goal.exceeds_arguments-returns-in_default
exceeds_arguments-returns-in_default t c =
    let told = all_not c.loop-at-test.true c.exceeds.ensures.compares c.in_default.not-Greater in
    record { compares_with_all = c.loop-at.invariant.back false told; settled_cells_2 = c.exceeds.ensures.settled_cells_2 }

pub exceeds_arguments-bounds-self-at-in-loop-at : goal.exceeds_arguments-bounds-self-at-in-loop-at
exceeds_arguments-bounds-self-at-in-loop-at t c =
    omega (arith, (first_argument c.loop-at.invariant.terms c.loop-at-test.true).below, c.loop-at.invariant.settled.sizes_length)

pub exceeds_arguments-loop-at-smaller : goal.exceeds_arguments-loop-at-smaller
exceeds_arguments-loop-at-smaller t c =
    omega (arith, c.from-at.ensures, c.loop-at-test.true, (first_argument c.loop-at.invariant.terms c.loop-at-test.true).some)

pub exceeds_arguments-loop-at-preserved : goal.exceeds_arguments-loop-at-preserved
exceeds_arguments-loop-at-preserved t c =
    exceeding_again c.loop-at.invariant c.loop-at-test.true c.exceeds.ensures.compares c.in-Greater.is c.exceeds.ensures.settled_cells_2 c.from-at.ensures

pub exceeds_arguments-returns : goal.exceeds_arguments-returns
exceeds_arguments-returns t c = record { compares_with_all = c.loop-at.invariant.back true (all_none c.loop-at-test.false); settled_cells_2 = c.loop-at.invariant.settled }

pub first_difference-loop-first-init : goal.first_difference-loop-first-init
first_difference-loop-first-init t c =
    let x = symbol_resolves c.requires.has_term.0 c.requires.has_term.1 in
    let y = subject_resolves c.requires.settled_cells c.requires.has_term_2.0 c.requires.has_term_2.2 in
    rw (c.arguments_of-first.ensures, c.arguments_of-second.ensures) (comparing_start x y c.requires.settled_cells c.requires.has_term_2.2 c.requires.has_term_2.1)

pub first_difference-returns-then-second : goal.first_difference-returns-then-second
first_difference-returns-then-second t c =
    record { finds_difference = second_ends c.loop-first.invariant.lists c.loop-first.invariant.low c.loop-first-test.true c.if-second.true; settled_cells_2 = c.loop-first.invariant.settled }

pub first_difference-exceeds-verdict-requires : goal.first_difference-exceeds-verdict-requires
first_difference-exceeds-verdict-requires t c =
    let x = first_argument (left_arguments c.loop-first.invariant.lists) c.loop-first-test.true in
    let y = first_argument (right_arguments c.loop-first.invariant.lists) c.if-second.false in
    let b = balanced c.loop-first.invariant.lists in
    (omega (arith, c.decreases, x.first_weight, y.first_weight, b.left, b.right), (c.loop-first.invariant.settled, (x.term, (y.term, c.loop-first.invariant.low))))

pub first_difference-other_arguments-first-requires : goal.first_difference-other_arguments-first-requires
first_difference-other_arguments-first-requires t c =
    omega (arith, (first_argument (left_arguments c.loop-first.invariant.lists) c.loop-first-test.true).below, c.requires.settled_cells.sizes_length)

pub first_difference-other_arguments-second-requires : goal.first_difference-other_arguments-second-requires
first_difference-other_arguments-second-requires t c =
    omega (arith, (first_argument (right_arguments c.loop-first.invariant.lists) c.if-second.false).below, c.requires.settled_cells.sizes_length)

pub first_difference-loop-first-smaller : goal.first_difference-loop-first-smaller
first_difference-loop-first-smaller t c =
    rw c.other_arguments-first.ensures (omega (arith, (first_argument (left_arguments c.loop-first.invariant.lists) c.loop-first-test.true).some, c.loop-first-test.true))

pub first_difference-loop-first-preserved : goal.first_difference-loop-first-preserved
first_difference-loop-first-preserved t c =
    rw (c.other_arguments-first.ensures, c.other_arguments-second.ensures) (record {
      settled = c.exceeds-verdict.ensures.settled_cells_2;
      lists = other_lists c.loop-first.invariant.lists c.loop-first-test.true c.if-second.false c.exceeds-verdict.ensures.compares c.in-Equal.is;
      low = omega (arith, c.loop-first.invariant.low);
    })

pub first_difference-returns-in_default : goal.first_difference-returns-in_default
first_difference-returns-in_default t c =
    record { finds_difference = rw (c.other_arguments-first.ensures, c.other_arguments-second.ensures) (difference c.loop-first.invariant.lists c.loop-first-test.true c.if-second.false c.exceeds-verdict.ensures.compares c.in_default.not-Equal c.loop-first.invariant.low); settled_cells_2 = c.exceeds-verdict.ensures.settled_cells_2 }

pub first_difference-returns-then-second-2 : goal.first_difference-returns-then-second-2
first_difference-returns-then-second-2 t c =
    record { finds_difference = first_ends c.loop-first.invariant.lists c.loop-first.invariant.low c.loop-first-test.false c.if-second-2.true; settled_cells_2 = c.loop-first.invariant.settled }

pub first_difference-returns : goal.first_difference-returns
first_difference-returns t c =
    record { finds_difference = both_end c.loop-first.invariant.lists c.loop-first.invariant.low c.loop-first-test.false c.if-second-2.false; settled_cells_2 = c.loop-first.invariant.settled }
