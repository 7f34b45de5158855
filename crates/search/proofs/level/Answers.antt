-- `search::level` meets its contract: the rows passed have gone to all their columns. Assumes nothing.
use Rattle.word.specs.Mask.{member}
use Rattle.set.specs.Words.{mask}
use Rattle.set.proofs.Sets.{except_of}
use Rattle.set.proofs.Walks.{begun}
use Rattle.search.specs.Links.{from, via}
use Rattle.search.proofs.SearchLaws.{Levelling, levelling_none, levelling_next, levelling_end}
use Rattle.search.proofs.level.Goals as goal

pub loop-r-init : goal.loop-r-init
loop-r-init c =
    let a = c.args in
    let b = a.covered in
    let l = a.links.now in
    begun (λ n. Levelling a.rel.now a.senders.now (mask a.rows) n (mask b.seen) (mask b.seen) (mask b.reached) (mask b.reached) (from l) (via l) (from l) (via l))
    c.into_iter-r-iterator.ensures.into_iter_gives (levelling_none c.requires.2)

pub get-requires : goal.get-requires
get-requires c = c.requires.1 _ (c.loop-r.invariant.part _ c.in-Some.ensures.steps.lowest.here)

pub loop-r-preserved : goal.loop-r-preserved
loop-r-preserved c =
    let w = c.in-Some.ensures.steps in
    levelling_next (mask c.difference-columns.result) c.loop-r.invariant w.lowest w.left
    (except_of c.get.ensures (member (mask c.loop-r.gone)) c.difference-columns.ensures) c.follow-all.ensures c.union-gone.ensures

pub returns : goal.returns
returns c = levelling_end c.in-None.ensures.steps.0 c.loop-r.invariant
