-- `widen::put_codes` meets its contract: a piece of two bytes for each code.
-- Assumes nothing.
use mathlib.Core.Path.{refl}
use native.Mathlib.Omega.{arith}
use lib.ListN.{length-set}
use Rattle.buffer.proofs.Buffer.{store}
use Rattle.widen.specs.Parts.{wide_codes}
use Rattle.widen.proofs.Pieces.{storing_start, storing_next, storing_on, storing_end, codes-length}
use Rattle.widen.proofs.put_codes.Goals as goal

pub loop-i-init : goal.loop-i-init
unfolding wide_codes
loop-i-init c = storing_start (omega (arith, codes-length c.args.s.now c.args.n))

pub bounds-out-i-in-loop-i : goal.bounds-out-i-in-loop-i
bounds-out-i-in-loop-i c = rw length-set (omega arith)

pub loop-i-preserved : goal.loop-i-preserved
loop-i-preserved c =
    let lt = c.loop-i-test.true in
    storing_on lt (omega arith) (store (store (storing_next c.loop-i.invariant lt)))

pub returns : goal.returns
unfolding wide_codes
returns c = storing_end c.loop-i.invariant c.loop-i-test.false (omega arith) refl
