-- `search::follow` meets its contract: the senders of the columns passed are reached. Assumes nothing.
use Rattle.word.specs.Mask.{member}
use Rattle.set.specs.Words.{mask}
use Rattle.set.proofs.Sets.{except_of}
use Rattle.set.proofs.Walks.{begun}
use Rattle.search.specs.Links.{from, via}
use Rattle.search.proofs.SearchLaws.{Following, following_none, following_next, following_end}
use Rattle.search.proofs.follow.Goals as goal

pub loop-j-init : goal.loop-j-init
loop-j-init c =
    let a = c.args in
    let l = a.links.now in
    begun (λ n. Following a.senders.now (mask a.columns) n a.r (mask a.reached) (mask a.reached) (from l) (via l) (from l) (via l))
    c.into_iter-j-iterator.ensures.into_iter_gives following_none

pub loop-j-preserved : goal.loop-j-preserved
loop-j-preserved c =
    let w = c.in-Some.ensures.steps in
    following_next (mask c.difference-new.result) c.loop-j.invariant w.lowest w.left
    (except_of c.get.ensures (member (mask c.loop-j.all)) c.difference-new.ensures) c.link_rows.ensures c.union-all.ensures

pub returns : goal.returns
returns c = following_end c.in-None.ensures.steps.0 c.loop-j.invariant
