-- `order::pass_rank` meets its contract. Assumes nothing.
use Rattle.set.proofs.Walks.{begun}
use Rattle.order.proofs.Walks.{RankAt, rank-start, rank_walking, rank-next, rank-end}
use Rattle.order.proofs.pass_rank.Goals as goal

pub loop-s-init : goal.loop-s-init
loop-s-init c =
    let a = c.args in
    begun (RankAt a.tables.now a.ranks.now a.rank a.trail.now a.trail.now) c.into_iter-s-iterator.ensures.into_iter_gives (rank-start c.requires)

pub pass_row-requires : goal.pass_row-requires
pass_row-requires c = (rank_walking c.loop-s.invariant, c.in-Some.ensures.steps.state)

pub loop-s-preserved : goal.loop-s-preserved
loop-s-preserved c = rank-next c.loop-s.invariant _ _ c.in-Some.ensures.steps.left c.pass_row.ensures

pub returns : goal.returns
returns c = rank-end c.loop-s.invariant c.in-None.ensures.steps.0
