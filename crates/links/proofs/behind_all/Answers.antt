-- `links::behind_all` meets its contract: the members passed have their rows in r. Assumes nothing.
use mathlib.Core.Path.{ap, ◌∙◌}
use Prim.Native.Nat.{ℕ}
use Rattle.word.specs.Mask.{member, either}
use Rattle.set.specs.Words.{mask}
use Rattle.relation.specs.Rows.{row_of}
use Rattle.links.proofs.Walks.{passed_none, passed-next, passed-all}
use Rattle.links.proofs.Growing.{union_left, union_right}
use Rattle.links.proofs.behind_all.Invariants.{Taken}
use Rattle.links.proofs.behind_all.Goals as goal

pub loop-u-init : goal.loop-u-init
loop-u-init c =
    passed_none c.args.set (Taken c.args.sets.now.behind.now (mask c.empty-r.result)) _ c.into_iter-u-iterator.ensures.into_iter_gives

pub loop-u-preserved : goal.loop-u-preserved
loop-u-preserved c =
    let behind = c.args.sets.now.behind.now in
    let i = c.loop-u in
    let s = c.in-Some.ensures.steps in
    let u = c.in-Some.u in
    let r' = c.union-r in
    let e = r'.ensures ∙ ap (λ (n : ℕ). either (member (mask i.r)) (member n)) c.get.ensures in
    passed-next c.args.set (Taken behind (mask r'.result)) (mask i.u-iterator.left) _ u s.left
    (λ t h. union_right (mask i.r) (row_of behind u) (mask r'.result) t e h)
    (λ v m f t h. union_left (mask i.r) (row_of behind u) (mask r'.result) t e (i.invariant v m f t h))

pub returns : goal.returns
returns c =
    let a = c.args in
    let o = c.loop-u in
    λ u t x y. passed-all a.set (Taken a.sets.now.behind.now (mask o.r)) _ c.in-None.ensures.steps.0 o.invariant u x t y
