-- `links::link_loops` meets its contract. The loop's invariant: the rows passed have their own numbers.
-- Assumes nothing.
use native.Mathlib.Omega.{arith}
use Rattle.links.proofs.Growing.{each_next, grown-none, grown-more}
use Rattle.links.proofs.link_loops.Goals as goal

pub loop-s-init : goal.loop-s-init
loop-s-init c = (grown-none, λ t a. absurd (omega arith), λ h. h)

pub join-requires : goal.join-requires
join-requires c = (omega (arith, c.requires.0, c.requires.1), omega (arith, c.requires.0))

pub loop-s-preserved : goal.loop-s-preserved
loop-s-preserved c =
    let o = c.loop-s in
    let e = c.join.ensures in (
      grown-more o.invariant.0 e.0.grown,
      each_next _ o.s (λ t b. e.0.grown.still _ _ (o.invariant.1 t b)) e.1,
      λ h. e.0.within c.args.n (omega arith) (o.invariant.2 h),
    )

pub returns : goal.returns
returns c =
    let o = c.loop-s in
    record { grown = o.invariant.0; own = λ t a. o.invariant.1 t (omega arith); within = o.invariant.2 }
