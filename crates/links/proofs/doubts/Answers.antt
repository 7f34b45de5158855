-- `links::doubts` meets its contract: the rows that are not left have raised their doubts. Assumes nothing.
use mathlib.Core.Path.{refl}
use native.Mathlib.Omega.{arith}
use Rattle.set.specs.Words.{mask}
use Rattle.set.proofs.Walks.{begun}
use Rattle.links.proofs.Doubting.{Raised, raised-none, raised-next, raised_all, same_marks_refl, same_marks_more}
use Rattle.links.proofs.doubts.Goals as goal

pub loop-u-init : goal.loop-u-init
loop-u-init c =
    let a = c.args in
    let marks = a.marks.now in (
      begun (λ n. Raised a.sets.now marks n (mask c.empty-doubtful.result) marks) c.into_iter-u-iterator.ensures.into_iter_gives
          (raised-none c.requires c.empty-doubtful.ensures),
      same_marks_refl,
    )

pub loop-u-preserved : goal.loop-u-preserved
loop-u-preserved c =
    let s = c.in-Some.ensures.steps in (
      raised-next _ _ (mask c.union-doubtful.result) c.get-sources.result c.get-pairs.result c.behind_all.result c.empty.result (omega arith) s.state
          s.lowest.here s.left c.get-sources.ensures c.get-pairs.ensures c.behind_all.ensures
          c.add_doubts.ensures c.empty.ensures c.put.ensures c.union-doubtful.ensures c.loop-u.invariant.0,
      same_marks_more c.loop-u.invariant.1
          (record { doubt = record { name = refl; size = omega arith }; lost = record { name = refl; size = omega arith } }),
    )

pub returns : goal.returns
returns c = (raised_all c.in-None.ensures.steps.0 c.loop-u.invariant.0, c.loop-u.invariant.1)
