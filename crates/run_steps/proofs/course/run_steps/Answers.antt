-- Goals of `run_steps`.
use Prim.Native.Nat.{◌+◌, ◌*◌, ◌≤◌, ◌<◌}
use mathlib.Core.Path.{subst, ◌∙◌}
use native.Mathlib.Omega.{arith}
use lib.ListN.{length}
use Rattle.step_take.specs.ForContracts.Replacing.{ReplacedAs}
use Rattle.step_by_position.specs.ForContracts.Searching.{FoundIs}
use Rattle.run_steps.proofs.CourseLaws.{kept_again, not_started, none_ends, limit_ends, size_ends, step_is, rule_byte, position_byte, one_more}
use Rattle.run_steps.proofs.course.run_steps.Goals as goal

pub loop-rule-init : goal.loop-rule-init
loop-rule-init c = not_started

pub find_step-found-requires : goal.find_step-found-requires
find_step-found-requires c =
    let inv = c.loop-rule.invariant in
    let (es, subject, is) = c.requires.run_is in
    let h = inv.so_far es subject is in
    record { has_run = record { arities = c.args.arities.now; those = es; subject = h.current; is = h.is }; table_bytes_in_bounds = (omega (arith, inv.table_length, c.requires.table_bytes_in_bounds.0), omega (arith, inv.scratch_length, c.requires.table_bytes_in_bounds.1)) }

pub returns-in_default : goal.returns-in_default
returns-in_default c =
    let inv = c.loop-rule.invariant in
    let arities = c.args.arities.now in let kept = kept_again c.args.table.now c.args.scratch.now c.loop-rule.table c.loop-rule.scratch c.find_step-found.new.table c.find_step-found.new.scratch inv.kept (c.find_step-found.ensures.table_unchanged, (c.find_step-found.ensures.table_unchanged_2, c.find_step-found.ensures.scratch_unchanged)) in
    record {
      course_is =
          λ es subject is.
          let h = inv.so_far es subject is in
          let s = c.find_step-found.ensures.by_index_2 arities h.current h.is.subject_is in
          none_ends h s (subst (FoundIs arities es h.current) c.in_default.is (c.find_step-found.ensures.by_index arities es h.current h.is));
      table_unchanged = kept.0;
      table_unchanged_2 = kept.1.0;
      scratch_unchanged = kept.1.1;
    }

pub returns-then-steps-limit : goal.returns-then-steps-limit
returns-then-steps-limit c =
    let inv = c.loop-rule.invariant in
    let arities = c.args.arities.now in let kept = kept_again c.args.table.now c.args.scratch.now c.loop-rule.table c.loop-rule.scratch c.find_step-found.new.table c.find_step-found.new.scratch inv.kept (c.find_step-found.ensures.table_unchanged, (c.find_step-found.ensures.table_unchanged_2, c.find_step-found.ensures.scratch_unchanged)) in
    record {
      course_is =
          λ es subject is.
          let h = inv.so_far es subject is in
          let s = c.find_step-found.ensures.by_index_2 arities h.current h.is.subject_is in
          limit_ends h s (subst (FoundIs arities es h.current) c.in-Some.is (c.find_step-found.ensures.by_index arities es h.current h.is)) c.if-steps-limit.true;
      table_unchanged = kept.0;
      table_unchanged_2 = kept.1.0;
      scratch_unchanged = kept.1.1;
    }

pub take_step-replaced-requires : goal.take_step-replaced-requires
take_step-replaced-requires c =
    let inv = c.loop-rule.invariant in
    let arities = c.args.arities.now in
    let (es, subject, is) = c.requires.run_is in
    let h = inv.so_far es subject is in
    let next = subst (FoundIs arities es h.current) c.in-Some.is (c.find_step-found.ensures.by_index arities es h.current h.is) in
    record {
      number = next.number;
      equation = next.equation;
      direction = next.direction;
      subject = h.current;
      position = next.position;
      this = next.this;
      is = step_is h next (c.find_step-found.ensures.by_index_2 arities h.current h.is.subject_is);
    }

pub returns-in_default-replaced : goal.returns-in_default-replaced
returns-in_default-replaced c =
    let inv = c.loop-rule.invariant in
    let arities = c.args.arities.now in
    let below : c.loop-rule.steps < c.args.start.limit = omega (arith, inv.within, c.if-steps-limit.false) in let kept = kept_again c.args.table.now c.args.scratch.now c.loop-rule.table c.loop-rule.scratch c.find_step-found.new.table c.find_step-found.new.scratch inv.kept (c.find_step-found.ensures.table_unchanged, (c.find_step-found.ensures.table_unchanged_2, c.find_step-found.ensures.scratch_unchanged)) in
    record {
      course_is =
          λ es subject is.
          let h = inv.so_far es subject is in
          let s = c.find_step-found.ensures.by_index_2 arities h.current h.is.subject_is in
          let next = subst (FoundIs arities es h.current) c.in-Some.is (c.find_step-found.ensures.by_index arities es h.current h.is) in
          let result = c.take_step-replaced.ensures next.number next.equation next.direction h.current next.position next.this (step_is h next s) in
          let nodes = c.take_step-replaced.new.nodes in
          let sizes = c.take_step-replaced.new.sizes in
          size_ends h s next nodes sizes below (subst (ReplacedAs arities c.find_step-found.new.nodes c.find_step-found.new.sizes nodes sizes next.this.result) c.in_default-replaced.is result);
      table_unchanged = kept.0;
      table_unchanged_2 = kept.1.0;
      scratch_unchanged = kept.1.1;
    }

pub overflow_sub-node : goal.overflow_sub-node
overflow_sub-node c =
    let inv = c.loop-rule.invariant in
    let arities = c.args.arities.now in
    let (es, subject, is) = c.requires.run_is in
    let h = inv.so_far es subject is in
    (position_byte h (subst (FoundIs arities es h.current) c.in-Some.is (c.find_step-found.ensures.by_index arities es h.current h.is))).0

pub put_step-requires : goal.put_step-requires
put_step-requires c =
    let inv = c.loop-rule.invariant in
    let arities = c.args.arities.now in
    let (es, subject, is) = c.requires.run_is in
    let h = inv.so_far es subject is in
    let next = subst (FoundIs arities es h.current) c.in-Some.is (c.find_step-found.ensures.by_index arities es h.current h.is) in
    let room : 3 * c.loop-rule.steps + 3 ≤ length c.loop-rule.log = omega (arith, inv.within, inv.log_length, c.requires.table_bytes_in_bounds.2, c.requires.table_bytes_in_bounds.3, c.if-steps-limit.false) in
    (omega (arith, room), omega (arith, rule_byte h next), omega (arith, (position_byte h next).1))

pub loop-rule-preserved : goal.loop-rule-preserved
loop-rule-preserved c =
    let inv = c.loop-rule.invariant in
    let arities = c.args.arities.now in
    let below : c.loop-rule.steps < c.args.start.limit = omega (arith, inv.within, c.if-steps-limit.false) in
    record {
      within = omega arith;
      table_length = c.find_step-found.auto.table ∙ inv.table_length;
      nodes_length = c.take_step-replaced.auto.nodes ∙ (c.find_step-found.auto.nodes ∙ inv.nodes_length);
      sizes_length = c.take_step-replaced.auto.sizes ∙ (c.find_step-found.auto.sizes ∙ inv.sizes_length);
      scratch_length = c.find_step-found.auto.scratch ∙ inv.scratch_length;
      log_length = c.put_step.auto.log ∙ inv.log_length;
      kept = kept_again c.args.table.now c.args.scratch.now c.loop-rule.table c.loop-rule.scratch c.find_step-found.new.table c.find_step-found.new.scratch inv.kept (c.find_step-found.ensures.table_unchanged, (c.find_step-found.ensures.table_unchanged_2, c.find_step-found.ensures.scratch_unchanged));
      so_far = λ es subject is.
          let h = inv.so_far es subject is in
          let s = c.find_step-found.ensures.by_index_2 arities h.current h.is.subject_is in
          let next = subst (FoundIs arities es h.current) c.in-Some.is (c.find_step-found.ensures.by_index arities es h.current h.is) in
          let result = c.take_step-replaced.ensures next.number next.equation next.direction h.current next.position next.this (step_is h next s) in
          let nodes = c.take_step-replaced.new.nodes in
          let sizes = c.take_step-replaced.new.sizes in
          let (counted, there) = subst (ReplacedAs arities c.find_step-found.new.nodes c.find_step-found.new.sizes nodes sizes next.this.result) c.in-Some-replaced.is result in
          one_more h next c.put_step.new.log c.in-Some-replaced.now below c.find_step-found.ensures.table_unchanged counted there c.put_step.ensures;
    }
