-- Goals of `decode`.
use Prim.Native.Nat.{◌+◌}
use mathlib.Core.Path.{subst}
use lib.ListN.{set}
use native.Mathlib.Omega.{arith}
use Rattle.reading.proofs.Decode.{Decoding, decoding_done, decoding_byte, decoding_place, decoding_next}
use Rattle.reading.proofs.seek.decode.Goals as goal

pub overflow_cast-out : goal.overflow_cast-out
overflow_cast-out c = omega (arith, c.byte_at.ensures, decoding_byte _ _ _ _ _ _ _ c.loop-n.invariant (omega (arith, c.loop-n.invariant.ready.even)))

pub bounds-out-n : goal.bounds-out-n
bounds-out-n c = decoding_place _ _ _ _ _ _ _ c.loop-n.invariant (omega (arith, c.loop-n.invariant.ready.even))

pub loop-n-preserved : goal.loop-n-preserved
loop-n-preserved c = subst (λ at. Decoding c.args.part.sheet.now c.args.part.span.from c.args.part.span.end c.args.out.now (set c.loop-n.out c.loop-n.n c.byte_at.result) at (c.loop-n.n + 1)) (omega arith) (decoding_next _ _ _ _ _ _ _ c.loop-n.invariant (omega (arith, c.loop-n.invariant.ready.even)) c.byte_at.ensures)

pub returns : goal.returns
returns c = λ bs spans.
    let (counted, written) = decoding_done _ _ _ _ _ _ _ c.loop-n.invariant (omega (arith, c.loop-n.invariant.ready.even)) bs spans in
    (omega (arith, counted), written)
