-- `decide_same_symbol` gives the verdict of two terms with the same symbol, and L1 where it applies, else L3.
use native.Mathlib.Omega.{arith}
use Rattle.comparing.specs.Theory.Resolves.{symbol_resolves, subject_resolves}
use Rattle.clauses.proofs.Clauses.{same_smaller, same_equal, same_greater}
use Rattle.clauses.proofs.compare.decide_same_symbol.Goals as goal

pub exceeds_all-exceeded-requires : goal.exceeds_all-exceeded-requires
exceeds_all-exceeded-requires c =
    let y = subject_resolves c.requires.settled_cells c.requires.has_term_2.0 c.requires.has_term_2.1 in
    rw c.arguments_of-row.ensures (record { settled_cells = c.exceeds.ensures.settled_cells_2; has_term = c.requires.has_term; has_terms = (y.arguments, omega (arith, c.requires.has_term_2.1)) })

pub some_reaches-reached-requires : goal.some_reaches-reached-requires
some_reaches-reached-requires c =
    let x = symbol_resolves c.requires.has_term.0 c.requires.has_term.1 in rw c.arguments_of-row-in-Greater.ensures (record { settled_cells = c.exceeds.ensures.settled_cells_2; has_terms = x.arguments; has_term = c.requires.has_term_2 })

pub returns-in-Smaller-clause-decision_of : goal.returns-in-Smaller-clause-decision_of
returns-in-Smaller-clause-decision_of c =
    let exceeding = rw c.arguments_of-row.ensures at c.exceeds_all-exceeded.ensures.compares_with_all in
    let decided = same_smaller c.requires.has_term.1 (c.requires.settled_cells.symbols _ c.requires.has_term_2.1) c.requires.i_value c.exceeds.ensures.compares c.in-Smaller.is c.exceeds_all-exceeded.result exceeding in
    rw c.first_of.ensures decided

pub returns-in-Equal-clause-decision_of : goal.returns-in-Equal-clause-decision_of
returns-in-Equal-clause-decision_of c =
    same_equal c.requires.has_term.1 (c.requires.settled_cells.symbols _ c.requires.has_term_2.1) c.requires.i_value c.exceeds.ensures.compares c.in-Equal.is

pub returns-in-Greater-clause-decision_of : goal.returns-in-Greater-clause-decision_of
returns-in-Greater-clause-decision_of c =
    let reaching = rw c.arguments_of-row-in-Greater.ensures at c.some_reaches-reached.ensures.finds_reaching in
    let decided = same_greater c.requires.has_term.1 (c.requires.settled_cells.symbols _ c.requires.has_term_2.1) c.requires.i_value c.exceeds.ensures.compares c.in-Greater.is c.some_reaches-reached.result reaching in
    rw c.first_of-in-Greater.ensures decided
