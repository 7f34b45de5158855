-- `fill_row` meets its contract: the flow, the set of the free columns and what is filled go on column by column. Assumes nothing.
use mathlib.Core.Path.{refl}
use Rattle.word.specs.Mask.{member}
use Rattle.set.specs.Words.{mask}
use Rattle.set.proofs.Sets.{both_of}
use Rattle.set.proofs.Walks.{begun}
use Rattle.matrix.specs.Held.{held}
use Rattle.matrix.proofs.FlowLaws.{same_lists_refl, same_lists_trans}
use Rattle.greedy.proofs.GreedyLaws.{stopped, going, UnderWay, under_way_none, under_way_next, under_way_end}
use Rattle.greedy.proofs.fill_row.Goals as goal

pub loop-j-init : goal.loop-j-init
loop-j-init c =
    let a = c.args in
    let F = held a.flow.now in
    let h = c.requires in (
      begun (UnderWay a.i a.rel.now F F (mask a.free)) c.into_iter-j-iterator.ensures.into_iter_gives
          (under_way_none h.0 h.2 h.3 (both_of c.get.ensures (member (mask a.free)) c.intersection-near.ensures)),
      same_lists_refl,
    )

pub returns-then-flow-i-eq0-clause-filled : goal.returns-then-flow-i-eq0-clause-filled
returns-then-flow-i-eq0-clause-filled c =
    let w = c.in-Some.ensures.steps in
    let s = c.fill_cell.ensures.same_lists in
    under_way_end
    (under_way_next c.loop-j.invariant.0 c.requires.1 w.lowest s.amounts.same_length s.supply.same_length s.demand.same_length s.senders.same_length
    c.fill_cell.ensures.filled (mask c.marked-still.result) c.marked-still.ensures (stopped _ c.if-flow-i-eq0.true))
    refl

pub loop-j-preserved : goal.loop-j-preserved
loop-j-preserved c =
    let w = c.in-Some.ensures.steps in
    let s = c.fill_cell.ensures.same_lists in (
      under_way_next c.loop-j.invariant.0 c.requires.1 w.lowest s.amounts.same_length s.supply.same_length s.demand.same_length s.senders.same_length
          c.fill_cell.ensures.filled (mask c.marked-still.result) c.marked-still.ensures (going _ c.if-flow-i-eq0.false w.left),
      same_lists_trans c.loop-j.invariant.1 s,
    )

pub returns-clause-filled : goal.returns-clause-filled
returns-clause-filled c = under_way_end c.loop-j.invariant.0 c.in-None.ensures.steps.0
