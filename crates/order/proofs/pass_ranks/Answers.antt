-- `order::pass_ranks` meets its contract. Assumes nothing.
use native.Mathlib.Omega.{arith}
use Rattle.order.proofs.Walks.{ranks-start, ranks-next, ranks_stop, ranks-end}
use Rattle.order.proofs.pass_ranks.Goals as goal

pub loop-rank-init : goal.loop-rank-init
loop-rank-init c = ranks-start c.requires

pub pass_rank-requires : goal.pass_rank-requires
pass_rank-requires c = c.loop-rank.invariant.walking

pub returns-then-trail-gt-LONGEST : goal.returns-then-trail-gt-LONGEST
returns-then-trail-gt-LONGEST c = ranks_stop c.loop-rank.invariant c.pass_rank.ensures c.if-trail-gt-LONGEST.true

pub loop-rank-preserved : goal.loop-rank-preserved
loop-rank-preserved c = ranks-next c.loop-rank.invariant c.pass_rank.ensures

pub returns : goal.returns
returns c = ranks-end c.loop-rank.invariant (omega (arith, c.loop-rank-test.false))
