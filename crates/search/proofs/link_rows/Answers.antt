-- `search::link_rows` meets its contract: the rows passed are linked. Assumes nothing.
use native.Mathlib.Omega.{arith}
use Rattle.set.specs.Words.{mask}
use Rattle.set.proofs.Walks.{begun}
use Rattle.search.specs.Links.{from, via}
use Rattle.search.proofs.SearchLaws.{Linking, linking_none, linking_next, linking_end}
use Rattle.search.proofs.link_rows.Goals as goal

pub loop-i-init : goal.loop-i-init
loop-i-init c =
    let a = c.args in
    let l = a.links.now in
    begun (λ n. Linking (mask a.rows) n a.r a.j (from l) (via l) (from l) (via l)) c.into_iter-i-iterator.ensures.into_iter_gives linking_none

pub loop-i-preserved : goal.loop-i-preserved
loop-i-preserved c =
    let w = c.in-Some.ensures.steps in
    linking_next c.loop-i.links _ c.loop-i.invariant (omega (arith, w.state)) w.lowest w.left

pub returns : goal.returns
returns c = linking_end c.in-None.ensures.steps.0 c.loop-i.invariant
