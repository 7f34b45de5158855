-- `measure::node_length` meets its contract: the lengths of the members passed are added up. Assumes nothing.
use native.Mathlib.Omega.{arith}
use Rattle.measure.proofs.Sums.{sum_inside, sum_fits, sum-next, sum-end}
use Rattle.measure.proofs.node_length.Goals as goal

pub pair_length-len-requires : goal.pair_length-len-requires
pair_length-len-requires c =
    let g = c.requires in
    let s = c.in-Some.ensures.steps in
    (g.loaded, g.low, s.state, omega (arith, sum_inside g c.loop-t.invariant s.lowest, g.room))

pub overflow_add-len : goal.overflow_add-len
overflow_add-len c =
    record { fits = omega (arith, sum_fits c.requires c.loop-t.invariant c.in-Some.ensures.steps.lowest _ c.pair_length-len.ensures, c.requires.small) }

pub loop-t-preserved : goal.loop-t-preserved
loop-t-preserved c =
    let s = c.in-Some.ensures.steps in sum-next c.requires c.loop-t.invariant s.lowest _ c.pair_length-len.ensures s.left

pub returns : goal.returns
returns c = sum-end c.loop-t.invariant c.in-None.ensures.steps.0
