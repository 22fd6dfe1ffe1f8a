-- Goals of the cycle `unification`.
use mathlib.Core.Path.{refl}
use native.Mathlib.Omega.{arith}
use Rattle.unifying.specs.Theory.Unify.{unification_readable, reached_free_at, terms_bind, terms_symbols, terms_none, symbols_differ, symbols_same, same_reached, told, some_told, none_told, not_unified, not_failed, rows_end, rows_left, rows_right, rows_fail, rows_more, rows_first, rows_rest, rows_first_some}
use Rattle.unifying.specs.Theory.Links.{leads_same, links_meet, linked_later, linked_both}
use Rattle.unifying.proofs.unify.+unification.Goals as goal
use Rattle.unifying.proofs.unify.+unification.Goals.{unify_terms-else-equation-s-lt-FIRST_VARIABLE-via-then-equation-s-lt-FIRST_VARIABLE+else-equation-t-lt-FIRST_VARIABLE, unify_terms-else-equation-s-lt-FIRST_VARIABLE-via-else-equation-s-lt-FIRST_VARIABLE}

pub unify_rows-returns-in_err-unify_terms : goal.unify_rows-returns-in_err-unify_terms
unify_rows-returns-in_err-unify_terms t c =
    rw c.from_residual.ensures (record { unifies_rows = rows_fail _ _ c.unify_terms.result c.if-left.true c.if-right.true c.unify_terms.ensures.unifies_to (none_told c.in_err-unify_terms.was); linked_2 = not_unified })

pub unify_rows-unify_rows-requires : goal.unify_rows-unify_rows-requires
unify_rows-unify_rows-requires t c =
    let w = rows_first c.requires.has_rows c.if-left.true c.if-right.true in
    let read = unification_readable c.unify_terms.new.bindings c.requires.readable.0 c.args.left.from c.args.right.from w.0 w.1 (c.unify_terms.ensures.unifies_to.found (some_told c.in_ok-unify_terms.was)) in
    let some = rows_first_some c.requires.has_rows c.if-left.true c.if-right.true in
    rw (c.other_arguments-others.ensures, c.other_arguments-opposite.ensures)
    (omega (arith, c.decreases, c.if-left.true, some), ((read, c.requires.readable.1), (rows_rest c.requires.has_rows c.if-left.true c.if-right.true, c.unify_terms.ensures.linked_2 (some_told c.in_ok-unify_terms.was))))

pub unify_rows-returns-then-right : goal.unify_rows-returns-then-right
unify_rows-returns-then-right t c =
    let w = rows_first c.requires.has_rows c.if-left.true c.if-right.true in
    record { unifies_rows = rows_more c.requires.readable.0 refl w.0 w.1 _ _ c.unify_terms.result c.unify_rows.result c.if-left.true c.if-right.true c.unify_terms.ensures.unifies_to (some_told c.in_ok-unify_terms.was) c.other_arguments-others.ensures c.other_arguments-opposite.ensures c.unify_rows.ensures.unifies_rows; linked_2 = c.unify_rows.ensures.linked_2 }

pub unify_rows-returns-then-left : goal.unify_rows-returns-then-left
unify_rows-returns-then-left t c = record { unifies_rows = rows_left _ c.if-left.true c.if-right.false; linked_2 = not_unified }

pub unify_rows-returns-then-right-2 : goal.unify_rows-returns-then-right-2
unify_rows-returns-then-right-2 t c = record { unifies_rows = rows_right _ c.if-left.false c.if-right-2.true; linked_2 = not_unified }

pub unify_rows-returns : goal.unify_rows-returns
unify_rows-returns t c =
    record { unifies_rows = rows_end c.if-left.false c.if-right-2.false; linked_2 = λ z. c.requires.linked }

pub unify_symbols-returns-then-equation-s : goal.unify_symbols-returns-then-equation-s
unify_symbols-returns-then-equation-s t c =
    record { unifies_symbols = symbols_differ c.requires.readable.0.laid c.args.s c.args.t c.requires.s_in_bounds.0 c.requires.t_in_bounds.0 c.requires.s_in_bounds.1 c.requires.t_in_bounds.1 _ c.if-equation-s.true; linked_2 = not_unified }

pub unify_symbols-returns : goal.unify_symbols-returns
unify_symbols-returns t c =
    record { unifies_symbols = symbols_same c.requires.readable.0.laid c.args.s c.args.t c.requires.s_in_bounds.0 c.requires.t_in_bounds.0 c.requires.s_in_bounds.1 c.requires.t_in_bounds.1 c.if-equation-s.false (rw (c.arguments_of-left.ensures, c.arguments_of-right.ensures) at c.unify_rows.ensures.unifies_rows); linked_2 = c.unify_rows.ensures.linked_2 }

pub unify_terms-returns-then-depth-eq0 : goal.unify_terms-returns-then-depth-eq0
unify_terms-returns-then-depth-eq0 t c =
    record { unifies_to = told _ c.requires.readable.0 c.args.p c.args.q c.args.depth c.requires.p_in_bounds.0 c.requires.p_in_bounds.1 _ (terms_none c.args.equation.now.nodes.now c.args.equation.now.sizes.now c.args.bindings.now _ c.args.p c.args.q c.args.depth c.if-depth-eq0.true); linked_2 = not_unified }

pub unify_terms-returns-then-s-t : goal.unify_terms-returns-then-s-t
unify_terms-returns-then-s-t t c =
    record { unifies_to = same_reached c.requires.readable.0 c.args.p c.args.q c.reached-s.result c.reached-t.result c.args.depth c.reached-s.ensures.value c.reached-t.ensures.value c.if-s-t.true; linked_2 = λ z. c.requires.linked }

pub unify_terms-returns-then-a-b : goal.unify_terms-returns-then-a-b
unify_terms-returns-then-a-b t c =
    record { unifies_to = links_meet c.requires.readable.0 c.args.depth c.requires.linked c.reached-s.ensures.upper_bound c.reached-t.ensures.upper_bound c.reached-s.ensures.value c.reached-t.ensures.value c.linked-a.ensures c.linked-b.ensures c.if-a-b.true; linked_2 = λ z. c.requires.linked }

pub unify_terms-returns-in_err-unify_symbols : goal.unify_terms-returns-in_err-unify_symbols
unify_terms-returns-in_err-unify_symbols t c =
    let u = terms_symbols c.requires.readable.0 c.args.p c.args.q c.reached-s.result c.reached-t.result c.args.depth c.reached-s.ensures.value c.reached-t.ensures.value c.if-depth-eq0.false _ c.unify_symbols.result c.reached-s.ensures.upper_bound c.reached-t.ensures.upper_bound c.if-equation-s-lt-FIRST_VARIABLE.true c.if-equation-t-lt-FIRST_VARIABLE.true c.unify_symbols.ensures.unifies_symbols in
    rw c.from_residual.ensures (record { unifies_to = record { found = λ z. not_unified z; none_found = λ z. u.none_found (none_told c.in_err-unify_symbols.was) }; linked_2 = not_unified })

pub unify_terms-bounds-links-a : goal.unify_terms-bounds-links-a
unify_terms-bounds-links-a t c =
    omega (arith, (leads_same c.requires.readable.0 c.requires.linked c.reached-s.ensures.upper_bound c.linked-a.ensures).0, c.requires.readable.0.laid.few, (c.unify_symbols.ensures.linked_2 (some_told c.in_ok-unify_symbols.was)).each_position)

pub unify_terms-returns-then-equation-t-lt-FIRST_VARIABLE : goal.unify_terms-returns-then-equation-t-lt-FIRST_VARIABLE
unify_terms-returns-then-equation-t-lt-FIRST_VARIABLE t c =
    let u = terms_symbols c.requires.readable.0 c.args.p c.args.q c.reached-s.result c.reached-t.result c.args.depth c.reached-s.ensures.value c.reached-t.ensures.value c.if-depth-eq0.false _ c.unify_symbols.result c.reached-s.ensures.upper_bound c.reached-t.ensures.upper_bound c.if-equation-s-lt-FIRST_VARIABLE.true c.if-equation-t-lt-FIRST_VARIABLE.true c.unify_symbols.ensures.unifies_symbols in
    let unified = u.found (some_told c.in_ok-unify_symbols.was) in
    let read = unification_readable c.unify_symbols.new.bindings c.requires.readable.0 c.args.p c.args.q c.requires.p_in_bounds.0 c.requires.p_in_bounds.1 unified in record { unifies_to = record { found = λ z. unified; none_found = λ z. not_failed z }; linked_2 = λ z. linked_both c.requires.readable.0 read c.requires.linked (c.unify_symbols.ensures.linked_2 (some_told c.in_ok-unify_symbols.was)) c.reached-s.ensures.upper_bound c.reached-t.ensures.upper_bound c.reached-s.ensures.value c.reached-t.ensures.value c.linked-a.ensures c.linked-b.ensures unified }

pub unify_terms-bind_reached-requires : goal.unify_terms-bind_reached-requires
unify_terms-bind_reached-requires t c =
    record { readable = c.requires.readable; free_at = (reached_free_at c.requires.readable.0 c.args.p c.reached-s.result c.reached-s.ensures.value c.reached-s.ensures.upper_bound, reached_free_at c.requires.readable.0 c.args.q c.reached-t.result c.reached-t.ensures.value c.reached-t.ensures.upper_bound); first_variable_bound = λ h. elim c.else-equation-s-lt-FIRST_VARIABLE.branch [ unify_terms-else-equation-s-lt-FIRST_VARIABLE-via-then-equation-s-lt-FIRST_VARIABLE+else-equation-t-lt-FIRST_VARIABLE w ↦ w.if-equation-t-lt-FIRST_VARIABLE.false | unify_terms-else-equation-s-lt-FIRST_VARIABLE-via-else-equation-s-lt-FIRST_VARIABLE w ↦ absurd (omega (arith, w.if-equation-s-lt-FIRST_VARIABLE.false, h)) ] }

pub unify_terms-returns : goal.unify_terms-returns
unify_terms-returns t c =
    let u = terms_bind c.requires.readable.0 c.args.p c.args.q c.reached-s.result c.reached-t.result c.args.depth c.reached-s.ensures.value c.reached-t.ensures.value c.if-depth-eq0.false _ c.bind_reached.result c.requires.p_in_bounds.0 c.requires.p_in_bounds.1 c.bind_reached.ensures in
    record { unifies_to = u; linked_2 = λ z. linked_later c.requires.readable.0 (unification_readable c.bind_reached.new.bindings c.requires.readable.0 c.args.p c.args.q c.requires.p_in_bounds.0 c.requires.p_in_bounds.1 (u.found z)) c.requires.linked (u.found z) }
