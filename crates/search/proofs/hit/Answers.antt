-- `search::hit` meets its contract: the rows passed have no free column. Assumes nothing.
use Rattle.word.specs.Mask.{member}
use Rattle.set.specs.Words.{mask}
use Rattle.set.proofs.Sets.{mask_lt, both_of, is_none, is_some}
use Rattle.set.proofs.Walks.{begun}
use Rattle.search.proofs.SearchLaws.{Hitting, hitting_none, hitting_next, hitting_found, hitting_end}
use Rattle.search.proofs.hit.Goals as goal

pub loop-r-init : goal.loop-r-init
loop-r-init c =
    let a = c.args in
    begun (Hitting a.rel.now (mask a.free) (mask a.rows)) c.into_iter-r-iterator.ensures.into_iter_gives hitting_none

pub get-requires : goal.get-requires
get-requires c = c.requires _ (c.loop-r.invariant.part _ c.in-Some.ensures.steps.lowest.here)

pub returns-then-not-is_empty : goal.returns-then-not-is_empty
returns-then-not-is_empty c =
    let m = c.intersection.result in
    let e = both_of c.get.ensures (member (mask c.args.free)) c.intersection.ensures in
    hitting_found (mask m) (mask_lt m) c.loop-r.invariant c.in-Some.ensures.steps.lowest e (is_some c.is_empty.ensures c.if-not-is_empty.true)

pub loop-r-preserved : goal.loop-r-preserved
loop-r-preserved c =
    let w = c.in-Some.ensures.steps in
    let e = both_of c.get.ensures (member (mask c.args.free)) c.intersection.ensures in
    hitting_next (mask c.intersection.result) c.loop-r.invariant w.lowest w.left e (is_none c.is_empty.ensures c.if-not-is_empty.false)

pub returns : goal.returns
returns c = hitting_end c.in-None.ensures.steps.0 c.loop-r.invariant
