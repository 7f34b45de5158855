-- `fill` meets its contract: the flow and the set of the free columns go on row by row. Assumes nothing.
use mathlib.Core.Path.{refl}
use native.Mathlib.Omega.{arith}
use Rattle.matrix.proofs.FlowLaws.{same_lists_refl, same_lists_trans}
use Rattle.greedy.proofs.GreedyLaws.{rows_none, rows_next, greedy-is}
use Rattle.greedy.proofs.fill.Goals as goal

pub loop-i-init : goal.loop-i-init
loop-i-init c = let h = c.requires in (rows_none h.0 c.free-free.ensures h.1, same_lists_refl)

pub loop-i-preserved : goal.loop-i-preserved
loop-i-preserved c =
    let v = c.loop-i.invariant.0 in
    let e = c.fill_row-free.ensures in
    (rows_next v (omega (arith, v.improves.same_a)) c.requires.1 e.filled, same_lists_trans c.loop-i.invariant.1 e.same_lists)

pub returns-clause-filled : goal.returns-clause-filled
returns-clause-filled c = let v = c.loop-i.invariant.0 in (v.improves, v.columns, greedy-is (omega (arith, v.improves.same_a)) (λ i h. refl) (λ j h. refl) v.greedy)
