-- `links::link_targets` meets its contract: the targets passed are linked. Assumes nothing.
use native.Mathlib.Omega.{arith}
use Rattle.links.proofs.Growing.{joins-none, joins-more, each_next}
use Rattle.links.proofs.link_targets.Goals as goal

pub loop-target-init : goal.loop-target-init
loop-target-init c = (joins-none, λ k a. absurd (omega arith))

pub join-requires : goal.join-requires
join-requires c = (omega (arith, c.requires.0.below c.loop-target.target-index (omega arith)), c.requires.1)

pub loop-target-preserved : goal.loop-target-preserved
loop-target-preserved c =
    let o = c.loop-target in
    let e = c.join.ensures in
    (joins-more o.invariant.0 e.0, each_next _ o.target-index (λ k b. e.0.grown.still _ _ (o.invariant.1 k b)) e.1)

pub returns : goal.returns
returns c = (c.loop-target.invariant.0, λ i a. c.loop-target.invariant.1 i (omega arith))
