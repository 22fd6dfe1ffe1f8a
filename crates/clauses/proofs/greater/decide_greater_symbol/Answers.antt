-- `decide_greater_symbol` asks L1 of the first term, then whether that exceeds every argument of the second.
use native.Mathlib.Omega.{arith}
use Rattle.comparing.specs.Theory.Resolves.{symbol_resolves, subject_resolves}
use Rattle.clauses.proofs.Clauses.{first_reaches, first_exceeds, first_fails}
use Rattle.clauses.proofs.greater.decide_greater_symbol.Goals as goal

pub some_reaches-requires : goal.some_reaches-requires
some_reaches-requires c =
    let x = symbol_resolves c.requires.has_term.0 c.requires.has_term.1 in rw c.arguments_of-row.ensures (record { settled_cells = c.requires.settled_cells; has_terms = x.arguments; has_term = c.requires.has_term_2 })

pub returns-then-some_reaches-clause-decision_of : goal.returns-then-some_reaches-clause-decision_of
returns-then-some_reaches-clause-decision_of c =
    let reaching = rw (c.arguments_of-row.ensures, c.if-some_reaches.true) at c.some_reaches.ensures.finds_reaching in
    first_reaches c.requires.has_term.1 (c.requires.settled_cells.symbols _ c.requires.has_term_2.1) c.requires.j_bound reaching

pub exceeds_all-requires : goal.exceeds_all-requires
exceeds_all-requires c =
    let y = subject_resolves c.requires.settled_cells c.requires.has_term_2.0 c.requires.has_term_2.1 in
    rw c.arguments_of-others.ensures (record { settled_cells = c.some_reaches.ensures.settled_cells_2; has_term = c.requires.has_term; has_terms = (y.arguments, omega (arith, c.requires.has_term_2.1)) })

pub returns-then-exceeds_all-clause-decision_of : goal.returns-then-exceeds_all-clause-decision_of
returns-then-exceeds_all-clause-decision_of c =
    let reaching = rw (c.arguments_of-row.ensures, c.if-some_reaches.false) at c.some_reaches.ensures.finds_reaching in
    let exceeding = rw (c.arguments_of-others.ensures, c.if-exceeds_all.true) at c.exceeds_all.ensures.compares_with_all in
    first_exceeds c.requires.has_term.1 (c.requires.settled_cells.symbols _ c.requires.has_term_2.1) c.requires.j_bound reaching exceeding

pub returns-clause-decision_of : goal.returns-clause-decision_of
returns-clause-decision_of c =
    let exceeding = rw (c.arguments_of-others.ensures, c.if-exceeds_all.false) at c.exceeds_all.ensures.compares_with_all in
    first_fails c.requires.has_term.1 (c.requires.settled_cells.symbols _ c.requires.has_term_2.1) c.requires.j_bound exceeding
