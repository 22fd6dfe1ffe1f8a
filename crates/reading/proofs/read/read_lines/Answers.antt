-- Goals of `read_lines`.
use mathlib.Core.Path.{ap}
use Rattle.std.proofs.lemmas.Result.{err_from_is_err_and}
use Rattle.reading.proofs.Lines.{passed_start, broken_refused, frame_ready, frame_refused, frame_passed, ended_refused, ended_accepted}
use Rattle.reading.proofs.read.read_lines.Goals as goal

pub loop-line-init : goal.loop-line-init
loop-line-init c =
    rw c.into_iter-line-iterator.ensures.into_iter_gives
    (passed_start _ _ (ap (λ s. s.now) c.new-line-items.ensures.0) c.new-line-items.ensures.1 c.new-line-items.ensures.2 c.requires.0 c.requires.1 c.nothing-known.ensures)

pub returns-in_err-number : goal.returns-in_err-number
returns-in_err-number c =
    let p = err_from_is_err_and c.from_residual.result c.from_residual.ensures.1 in
    rw (p.1, p.2) (broken_refused c.requires.1 c.loop-line.invariant (rw c.in_err-number.was at c.in-Some.ensures.steps))

pub read_frame-requires : goal.read_frame-requires
read_frame-requires c = frame_ready c.requires.1 c.loop-line.invariant (rw c.in_ok-number.was at c.in-Some.ensures.steps)

pub returns-in_err-known : goal.returns-in_err-known
returns-in_err-known c =
    let p = err_from_is_err_and c.from_residual-in_err-known.result c.from_residual-in_err-known.ensures.1 in
    rw (p.1, p.2) (frame_refused c.requires.1 c.loop-line.invariant (rw c.in_ok-number.was at c.in-Some.ensures.steps) c.read_frame.result c.read_frame.ensures _ c.in_err-known.ensures.cases (λ x p. cc))

pub loop-line-preserved : goal.loop-line-preserved
loop-line-preserved c =
    frame_passed c.requires.1 c.loop-line.invariant (rw c.in_ok-number.was at c.in-Some.ensures.steps) c.read_frame.result c.read_frame.ensures c.in_ok-known.ensures.cases

pub returns-then-known-eq0 : goal.returns-then-known-eq0
returns-then-known-eq0 c = ended_refused c.requires.1 c.loop-line.invariant c.in-None.ensures.steps c.if-known-eq0.true

pub returns : goal.returns
returns c = ended_accepted c.requires.1 c.loop-line.invariant c.in-None.ensures.steps c.if-known-eq0.false
