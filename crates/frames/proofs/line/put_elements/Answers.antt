-- Goals of `put_elements`.
use native.Mathlib.Omega.{arith}
use Rattle.frames.proofs.ElementLaws.{no_element_passed, element_passed, elements_passed, few_elements, all_bytes, left_there, right_there}
use Rattle.frames.proofs.line.put_elements.Goals as goal

pub bounds-bytes-12 : goal.bounds-bytes-12
bounds-bytes-12 c = omega (arith, all_bytes c.requires.0)

pub loop-i-init : goal.loop-i-init
loop-i-init c = no_element_passed _ _ _ _ _

pub bounds-bytes-pair : goal.bounds-bytes-pair
bounds-bytes-pair c = let r = c.requires.0 in omega (arith, all_bytes r, few_elements r, c.from-count.ensures, c.loop-i-test.true)

pub put_term-behind-requires : goal.put_term-behind-requires
put_term-behind-requires c =
    let r = c.requires.0 in
    let n = c.from-count.ensures in
    (left_there r (omega (arith, n, c.loop-i-test.true)) c.from.ensures, omega (arith, few_elements r, n, c.loop-i-test.true, c.loop-i.invariant.reached, c.loop-i.invariant.same_length, c.requires.1))

pub bounds-bytes-pair-in-loop-i : goal.bounds-bytes-pair-in-loop-i
bounds-bytes-pair-in-loop-i c =
    let r = c.requires.0 in omega (arith, all_bytes r, few_elements r, c.from-count.ensures, c.loop-i-test.true)

pub put_term-to-requires : goal.put_term-to-requires
put_term-to-requires c =
    let r = c.requires.0 in
    let n = c.from-count.ensures in
    (right_there r (omega (arith, n, c.loop-i-test.true)) c.from-in-loop-i.ensures, omega (arith, few_elements r, n, c.loop-i-test.true, c.loop-i.invariant.reached, c.loop-i.invariant.same_length, c.put_term-behind.ensures.upper_bound, c.put_term-behind.auto.out, c.requires.1))

pub loop-i-preserved : goal.loop-i-preserved
loop-i-preserved c =
    element_passed c.loop-i.invariant (omega (arith, c.from-count.ensures, c.loop-i-test.true)) c.from.ensures c.put_term-behind.ensures.appended c.put_term-behind.ensures.upper_bound c.put_term-behind.auto.out c.from-in-loop-i.ensures c.put_term-to.ensures.appended c.put_term-to.ensures.upper_bound c.put_term-to.auto.out

pub returns : goal.returns
returns c = let n = c.from-count.ensures in
    record { appended = elements_passed c.loop-i.invariant (omega (arith, n, c.loop-i-test.false)); upper_bound = omega (arith, c.loop-i.invariant.reached, c.loop-i.invariant.within, few_elements c.requires.0) }
