-- Goals of `go_on`.
use Rattle.std.proofs.lemmas.Result.{err_from_is_err_and}
use Rattle.stopping.proofs.Stopping.{underway_refused, underway_ends, underway_on, underway_past, underway_stops}
use Rattle.stopping.proofs.walk.go_on.Goals as goal
use Rattle.stopping.proofs.walk.go_on.Goals.{else-stops-via-then-stops+else-any_empty, else-stops-via-else-stops}

pub returns-in_err-cursor : goal.returns-in_err-cursor
returns-in_err-cursor c =
    let p = err_from_is_err_and c.from_residual.result c.from_residual.ensures.1 in
    rw (p.1, p.2) (underway_refused c.loop-cursor.invariant _ c.in_err-cursor.ensures)

pub returns-then-any_empty : goal.returns-then-any_empty
returns-then-any_empty c =
    (underway_stops c.loop-cursor.invariant c.in_ok-cursor.cursor c.in_ok-cursor.ensures c.if-stops.true c.any_empty.ensures c.if-any_empty.true)

pub loop-cursor-preserved : goal.loop-cursor-preserved
loop-cursor-preserved c = elim c.else-stops.branch [
  | else-stops-via-then-stops+else-any_empty w ↦ underway_past c.loop-cursor.invariant c.in_ok-cursor.cursor c.in_ok-cursor.ensures w.if-stops.true w.any_empty.ensures w.if-any_empty.false
  | else-stops-via-else-stops w ↦ underway_on c.loop-cursor.invariant c.in_ok-cursor.cursor c.in_ok-cursor.ensures w.if-stops.false
]

pub returns : goal.returns
returns c = underway_ends c.loop-cursor.invariant c.loop-cursor-test.false
