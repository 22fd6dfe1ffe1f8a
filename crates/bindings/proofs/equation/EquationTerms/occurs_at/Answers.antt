-- Goals of `occurs_at`.
use native.Mathlib.Omega.{arith}
use Rattle.std.proofs.Common.{rules}
use Rattle.bindings.proofs.Occurrence.{Sought, slots, search_start, bound_within, search_free, search_bound, search_false}
use Rattle.bindings.proofs.equation.EquationTerms.occurs_at.Goals as goal
use Rattle.bindings.proofs.equation.EquationTerms.occurs_at.Goals.{Start}

sought : (c : Start) → Sought c.args.self.now.nodes.now c.args.self.now.sizes.now c.args.self.now.variables.now c.args.bindings.now c.args.v
sought c = record { readable = c.requires.readable.0; sets = c.requires.readable.1; free = c.requires.p_in_bounds.2 }

pub loop-seen-init : goal.loop-seen-init
loop-seen-init c =
    (search_start (sought (goal.at.loop-seen-init c).Start) c.requires.p_in_bounds.0, omega arith)

pub bounds-bindings-w : goal.bounds-bindings-w
bounds-bindings-w c =
    omega (arith, (c.loop-seen.invariant.0.each _ c.lowest_beside-w.ensures.0).low, slots (sought (goal.at.bounds-bindings-w c).Start))

pub bounds-self-from : goal.bounds-self-from
bounds-self-from c =
    omega (arith, bound_within (sought (goal.at.bounds-self-from c).Start) c.requires.p_in_bounds.0 c.loop-seen.invariant.0 c.lowest_beside-w.ensures.0 (search rules), c.from.ensures, c.requires.readable.1.same_length)

pub loop-seen-preserved-then-next-lt-NO_POSITION : goal.loop-seen-preserved-then-next-lt-NO_POSITION
loop-seen-preserved-then-next-lt-NO_POSITION c =
    (search_bound (sought (goal.at.loop-seen-preserved-then-next-lt-NO_POSITION c).Start) c.requires.p_in_bounds.0 c.loop-seen.invariant.0 c.lowest_beside-w.ensures.0 (search rules) c.singleton.ensures c.joined-through.ensures (search rules) (rw c.from.ensures at c.joined-seen.ensures), c.joined-through.type_inv)

pub loop-seen-preserved : goal.loop-seen-preserved
loop-seen-preserved c =
    (search_free (sought (goal.at.loop-seen-preserved c).Start) c.requires.p_in_bounds.0 c.loop-seen.invariant.0 c.lowest_beside-w.ensures.0 (search rules) c.singleton.ensures c.joined-through.ensures (search rules), c.joined-through.type_inv)

pub returns : goal.returns
returns c =
    search_false (sought (goal.at.returns c).Start) c.requires.p_in_bounds.0 c.loop-seen.invariant.0 c.loop-seen-test.false
