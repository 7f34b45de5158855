-- `excess::join` meets its contract. The loop's invariant: the sets passed are joined, the others are as they were. Assumes nothing.
use native.Mathlib.Omega.{arith}
use lib.ListN.{length-set}
use Rattle.excess.proofs.Subsets.{joined-here, joined-next}
use Rattle.excess.proofs.join.Goals as goal

pub overflow_add-sums : goal.overflow_add-sums
overflow_add-sums c =
    let h = joined-here c.loop-k.invariant.2 c.without.ensures in
    omega (arith, h, c.requires.2 c.loop-k.k (omega arith))

pub loop-k-preserved : goal.loop-k-preserved
loop-k-preserved c =
    let l = c.loop-k in
    (omega arith, simp length-set l.invariant.1, joined-next l.invariant.2 c.without.ensures (omega arith))
