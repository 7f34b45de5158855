-- `links::add_doubts` meets its contract: the rows passed have the doubts. Assumes nothing.
use native.Mathlib.Omega.{arith}
use Rattle.set.specs.Words.{mask}
use Rattle.links.proofs.Walks.{passed_none, passed-all}
use Rattle.links.proofs.Growing.{grown-none}
use Rattle.links.proofs.Doubting.{InDoubt, more-next}
use Rattle.links.proofs.add_doubts.Goals as goal

pub loop-s-init : goal.loop-s-init
loop-s-init c =
    let a = c.args in
    (grown-none, passed_none a.set (InDoubt (mask a.more) a.doubt.now) _ c.into_iter-s-iterator.ensures.into_iter_gives)

pub loop-s-preserved : goal.loop-s-preserved
loop-s-preserved c =
    let i = c.loop-s in
    let s = c.in-Some.ensures.steps in
    more-next i.doubt (mask c.args.more) c.get.result c.union.result (omega (arith, c.requires)) s.state c.get.ensures c.union.ensures
    c.put.ensures c.args.set (mask i.s-iterator.left) _ s.left i.invariant

pub returns : goal.returns
returns c =
    let a = c.args in
    let o = c.loop-s in
    record {
      grown = o.invariant.0;
      added = λ s t x y. passed-all a.set (InDoubt (mask a.more) o.doubt) _ c.in-None.ensures.steps.0 o.invariant.1 s x t y;
    }
