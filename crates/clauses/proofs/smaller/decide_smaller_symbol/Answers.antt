-- `decide_smaller_symbol` asks L1 of the second term, then that of the first.
use native.Mathlib.Omega.{arith}
use Rattle.comparing.specs.Theory.Resolves.{symbol_resolves, subject_resolves}
use Rattle.clauses.proofs.Clauses.{second_reaches, second_exceeds, second_fails}
use Rattle.clauses.proofs.smaller.decide_smaller_symbol.Goals as goal

pub exceeds_all-requires : goal.exceeds_all-requires
exceeds_all-requires c =
    let y = subject_resolves c.requires.settled_cells c.requires.has_term_2.0 c.requires.has_term_2.1 in
    rw c.arguments_of-others.ensures (record { settled_cells = c.requires.settled_cells; has_term = c.requires.has_term; has_terms = (y.arguments, omega (arith, c.requires.has_term_2.1)) })

pub some_reaches-requires : goal.some_reaches-requires
some_reaches-requires c =
    let x = symbol_resolves c.requires.has_term.0 c.requires.has_term.1 in rw c.arguments_of-row.ensures (record { settled_cells = c.exceeds_all.ensures.settled_cells_2; has_terms = x.arguments; has_term = c.requires.has_term_2 })

pub returns-then-some_reaches-clause-decision_of : goal.returns-then-some_reaches-clause-decision_of
returns-then-some_reaches-clause-decision_of c =
    let reaching = rw (c.arguments_of-row.ensures, c.if-some_reaches.true) at c.some_reaches.ensures.finds_reaching in
    second_fails c.requires.has_term.1 (c.requires.settled_cells.symbols _ c.requires.has_term_2.1) c.requires.i_bound reaching

pub returns-then-exceeds_all-clause-decision_of : goal.returns-then-exceeds_all-clause-decision_of
returns-then-exceeds_all-clause-decision_of c =
    let exceeding = rw (c.arguments_of-others.ensures, c.if-exceeds_all.true) at c.exceeds_all.ensures.compares_with_all in
    let reaching = rw (c.arguments_of-row.ensures, c.if-some_reaches.false) at c.some_reaches.ensures.finds_reaching in
    second_exceeds c.requires.has_term.1 (c.requires.settled_cells.symbols _ c.requires.has_term_2.1) c.requires.i_bound exceeding reaching

pub returns-clause-decision_of : goal.returns-clause-decision_of
returns-clause-decision_of c =
    let exceeding = rw (c.arguments_of-others.ensures, c.if-exceeds_all.false) at c.exceeds_all.ensures.compares_with_all in
    second_reaches c.requires.has_term.1 (c.requires.settled_cells.symbols _ c.requires.has_term_2.1) c.requires.i_bound exceeding
