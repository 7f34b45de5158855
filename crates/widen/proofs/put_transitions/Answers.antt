-- `widen::put_transitions` meets its contract: a piece of three bytes for each transition.
-- Assumes nothing.
use mathlib.Core.Path.{refl}
use Prim.Native.Nat.{◌+◌, ◌*◌}
use native.Mathlib.Omega.{arith}
use lib.ListN.{length-set}
use Rattle.buffer.proofs.Buffer.{store}
use Rattle.widen.specs.Parts.{wide_transitions}
use Rattle.widen.proofs.Pieces.{placed, storing_start, storing_next, storing_on, storing_end, transitions-length}
use Rattle.widen.proofs.put_transitions.Goals as goal

pub loop-i-init : goal.loop-i-init
unfolding wide_transitions
loop-i-init c = storing_start (omega (arith, transitions-length c.args.s.now c.args.from c.args.n))

pub bounds-out-i-in-loop-i : goal.bounds-out-i-in-loop-i
bounds-out-i-in-loop-i c = rw length-set (omega arith)

pub bounds-out-i-in-loop-i-2 : goal.bounds-out-i-in-loop-i-2
bounds-out-i-in-loop-i-2 c = simp length-set (omega arith)

pub loop-i-preserved : goal.loop-i-preserved
loop-i-preserved c =
    let lt = c.loop-i-test.true in
    let third = placed {to = 3 * c.loop-i.i + 2} (omega arith) (store (store (storing_next c.loop-i.invariant lt))) in
    storing_on lt (omega arith) (store third)

pub returns : goal.returns
unfolding wide_transitions
returns c = storing_end c.loop-i.invariant c.loop-i-test.false (omega arith) refl
