-- `cut::weight_of` meets its contract: the members passed are weighed. Assumes nothing.
use mathlib.Core.Path.{refl}
use native.Mathlib.Omega.{arith}
use Rattle.set.specs.Words.{mask}
use Rattle.set.proofs.Walks.{begun}
use Rattle.cut.proofs.Weighing.{Weighed, weighed_none, weighed_place, weighed_small, weighed_next, weighed_all}
use Rattle.cut.proofs.weight_of.Goals as goal

pub loop-i-init : goal.loop-i-init
loop-i-init c =
    begun (Weighed c.args.weights.now (mask c.args.named) 0) c.into_iter-i-iterator.ensures.into_iter_gives (weighed_none c.requires.1)

pub bounds-weights-i : goal.bounds-weights-i
bounds-weights-i c = weighed_place c.loop-i.invariant c.in-Some.ensures.steps.lowest

pub overflow_add-sum : goal.overflow_add-sum
overflow_add-sum c =
    record { fits = weighed_small c.loop-i.invariant c.in-Some.ensures.steps.lowest c.requires.0 (λ i. omega (arith, c.type_inv.weights i)) refl }

pub loop-i-preserved : goal.loop-i-preserved
loop-i-preserved c =
    let s = c.in-Some.ensures.steps in weighed_next c.loop-i.invariant s.lowest s.left refl

pub returns : goal.returns
returns c = weighed_all c.in-None.ensures.steps.0 c.loop-i.invariant
