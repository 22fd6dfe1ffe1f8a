-- `run_course` is the run of a term over rules that all solve.
use mathlib.Core.Path.{refl, sym}
use native.Mathlib.Omega.{arith}
use Rattle.format.specs.Limits.{node_count}
use Rattle.cells.specs.Theory.Cells.{symbols_zero}
use Rattle.run_term.proofs.RunTermLaws.{term_symbols_room, terms_have, run_is, course_known, course_small, course_front, course_ran}
use Rattle.run_term.proofs.term.run_course.Goals as goal

pub symbol_arities-arities-requires : goal.symbol_arities-arities-requires
symbol_arities-arities-requires c = term_symbols_room c.requires.has_run_term.0.is refl

pub load_terms-size-requires : goal.load_terms-size-requires
load_terms-size-requires c =
    record { has_terms_in = terms_have c.requires.has_run_term.0.is (sym c.symbol_arities-arities.ensures); nodes_len = (refl, refl, symbols_zero node_count) }

pub run_steps-course-requires : goal.run_steps-course-requires
run_steps-course-requires c =
    let has = c.requires.has_run_term.0 in
    record {
      run_is = (has.those, has.subject, run_is has.is (sym c.symbol_arities-arities.ensures) _ _ _ _ _ _ _ _ has.ready c.prepare_next.ensures c.load_terms-size.ensures c.put_filling.ensures);
      table_bytes_in_bounds = (c.requires.table_bytes_in_bounds.0, c.requires.table_bytes_in_bounds.1, c.requires.table_bytes_in_bounds.3, c.requires.has_run_term.1);
    }

pub copy_front-requires : goal.copy_front-requires
copy_front-requires c =
    let has = c.requires.has_run_term.0 in
    let course = c.run_steps-course.ensures.course_is has.those has.subject (run_is has.is (sym c.symbol_arities-arities.ensures) _ _ _ _ _ _ _ _ has.ready c.prepare_next.ensures c.load_terms-size.ensures c.put_filling.ensures) in
    (course_front course, omega (arith, course_small course, c.requires.table_bytes_in_bounds.2))

pub returns : goal.returns
returns c =
    let told = sym c.symbol_arities-arities.ensures in
    record {
      run_course = λ es subject is ready.
          let course = c.run_steps-course.ensures.course_is es subject (run_is is told _ _ _ _ _ _ _ _ ready c.prepare_next.ensures c.load_terms-size.ensures c.put_filling.ensures) in
          course_known is told (course_ran course c.args.term.now c.copy_front.new.to c.copy_front.ensures);
      table_unchanged = c.run_steps-course.ensures.table_unchanged;
      table_unchanged_2 = c.run_steps-course.ensures.table_unchanged_2;
      scratch_unchanged = c.run_steps-course.ensures.scratch_unchanged;
    }
