-- Goals of `match_side`.
use Prim.Native.Nat.{ℕ, ◌+◌}
use mathlib.Core.Path.{◌≡◌, refl}
use native.Mathlib.Omega.{arith}
use Rattle.std.proofs.Common.{rules, length-take, length-drop}
use Rattle.step_match.proofs.Ground.{standing}
use Rattle.terms.specs.Theory.Spelled.{variable_low}
use Rattle.step_match.proofs.MatchProgress.{start, of_some, side_room, byte_read, part_there, match_there, symbol_differs, symbol_same, variable_found, variable_refused, all_met}
use Rattle.step_match.proofs.side.match_side.Goals as goal
use Rattle.step_match.proofs.side.match_side.Goals.{then-byte-lt-FIRST_VARIABLE+else-byte-nodes, else-byte-lt-FIRST_VARIABLE+else-not-meet}

pub slice_bounds-byte-items-end : goal.slice_bounds-byte-items-end
slice_bounds-byte-items-end c = side_room c.requires.0.is

pub loop-byte-init : goal.loop-byte-init
loop-byte-init c = λ arities s t p. let e : c.args.side.from + 0 ≡ c.args.side.from = omega arith in rw (c.forget.ensures, e) (start p)

pub bounds-nodes-at : goal.bounds-nodes-at
bounds-nodes-at c =
    let (b, h) = byte_read c.args.bytes.now c.args.side.from c.args.side.end c.loop-byte.byte-index c.loop-byte-test.true in
    let g = standing (part_there (of_some c.requires.0 c.loop-byte.invariant) h) in
    omega (arith, g.some, g.in_nodes)

pub returns-then-byte-nodes : goal.returns-then-byte-nodes
returns-then-byte-nodes c = λ arities s t p.
    let (b, h) = byte_read c.args.bytes.now c.args.side.from c.args.side.end c.loop-byte.byte-index c.loop-byte-test.true in
    rw (symbol_differs (c.loop-byte.invariant arities s t p) h (rw b at c.if-byte-lt-FIRST_VARIABLE.true) (rw b at c.if-byte-nodes.true)) refl

pub overflow_add-at : goal.overflow_add-at
overflow_add-at c =
    let (b, h) = byte_read c.args.bytes.now c.args.side.from c.args.side.end c.loop-byte.byte-index c.loop-byte-test.true in
    let g = standing (part_there (of_some c.requires.0 c.loop-byte.invariant) h) in
    omega (arith, g.some, g.within)

pub meet-requires : goal.meet-requires
meet-requires c =
    let (b, h) = byte_read c.args.bytes.now c.args.side.from c.args.side.end c.loop-byte.byte-index c.loop-byte-test.true in
    let p = of_some c.requires.0 c.loop-byte.invariant in
    (part_there p h, match_there p, omega (arith, c.from-v.ensures, variable_low p.spelled h (rw b at c.if-byte-lt-FIRST_VARIABLE.false), b))

pub returns-then-not-meet : goal.returns-then-not-meet
returns-then-not-meet c =
    λ arities s t p.
    let (b, h) = byte_read c.args.bytes.now c.args.side.from c.args.side.end c.loop-byte.byte-index c.loop-byte-test.true in
    let q = c.loop-byte.invariant arities s t p in
    rw (variable_refused q c.meet.new.values c.from-v.result c.meet.result h (rw b at c.if-byte-lt-FIRST_VARIABLE.false) (rw b at c.from-v.ensures)
    (λ u g. c.meet.ensures arities u q.found g q.is) (search rules)) refl

pub bounds-sizes-at : goal.bounds-sizes-at
bounds-sizes-at c =
    let (b, h) = byte_read c.args.bytes.now c.args.side.from c.args.side.end c.loop-byte.byte-index c.loop-byte-test.true in
    (standing (part_there (of_some c.requires.0 c.loop-byte.invariant) h)).in_lengths

pub loop-byte-preserved : goal.loop-byte-preserved
loop-byte-preserved c =
    λ arities s t p.
    let (b, h) = byte_read c.args.bytes.now c.args.side.from c.args.side.end c.loop-byte.byte-index c.loop-byte-test.true in
    let q = c.loop-byte.invariant arities s t p in
    let e : c.args.side.from + (c.loop-byte.byte-index + 1) ≡ c.args.side.from + c.loop-byte.byte-index + 1 = omega arith in
    elim c.if-byte-lt-FIRST_VARIABLE.branch [
      | then-byte-lt-FIRST_VARIABLE+else-byte-nodes w ↦ rw (w.values-is, w.at-is, e) (symbol_same q h (rw b at w.if-byte-lt-FIRST_VARIABLE.true) (rw b at w.if-byte-nodes.false))
      | else-byte-lt-FIRST_VARIABLE+else-not-meet w ↦
          rw (w.values-is, w.at-is, w.from-at.ensures, e)
          (variable_found q w.meet.new.values w.from-v.result w.meet.result h (rw b at w.if-byte-lt-FIRST_VARIABLE.false) (rw b at w.from-v.ensures) (λ u g. w.meet.ensures arities u q.found g q.is) w.if-not-meet.false)
    ]

pub returns : goal.returns
returns c = λ arities s t p. let q = c.loop-byte.invariant arities s t p in rw (all_met q (omega (arith, side_room p, c.loop-byte-test.false, length-take {A = ℕ}, length-drop {A = ℕ}))) (refl, q.is)
