-- `dropping::Pairs::drop_listed` meets its contract: of the members passed, those that list no fitting transition are gathered. Assumes nothing.
use mathlib.Core.Path.{subst}
use native.Mathlib.Omega.{arith}
use Rattle.simulation.proofs.Finite.Tests.{true_T}
use Rattle.set.specs.Words.{mask}
use Rattle.set.proofs.Walks.{begun}
use Rattle.form.proofs.Contract.{contract-states}
use Rattle.bounds.specs.Quick.{Bounding}
use Rattle.fit.proofs.Trying.{lent_again}
use Rattle.fit.specs.Held.{fits_listed}
use Rattle.dropping.proofs.Dropping.{Picked, picked_start, picked_next, picked_end, judged_is}
use Rattle.dropping.proofs.Answers.{target_places}
use Rattle.dropping.proofs.Pairs.drop_listed.Goals as goal

pub targets-requires : goal.targets-requires
targets-requires c = c.requires.2

pub bounds_of-known-requires : goal.bounds_of-known-requires
bounds_of-known-requires c = target_places c.args.j c.requires.0 c.requires.2 c.targets.ensures

pub loop-t-init : goal.loop-t-init
loop-t-init c =
    let a = c.args in (
      begun (λ n. Picked (mask a.near) (fits_listed a.self.now.tables.now a.self.now.rows.now a.j) n (mask c.empty-fallen.result)) c.into_iter-t-iterator.ensures.into_iter_gives
          (picked_start (mask a.near) _ c.empty-fallen.ensures),
      c.requires.1,
    )

pub fits_some-fits-requires : goal.fits_some-fits-requires
fits_some-fits-requires c =
    let t = c.in-Some.t in
    let u = c.loop-t.invariant in (
      lent_again c.requires.0 (omega arith),
      u.1,
      c.requires.2,
      omega (arith, contract-states c.args.self.now.tables.now, c.requires.3 t (true_T (u.0.within t c.in-Some.ensures.steps.lowest.here))),
      subst (λ ts. Bounding c.args.self.now.rows.now ts (mask c.bounds_of-known.result.some) (mask c.bounds_of-known.result.every)) c.targets.ensures c.bounds_of-known.ensures,
    )

pub join_unless-fallen-requires : goal.join_unless-fallen-requires
join_unless-fallen-requires c = c.in-Some.ensures.steps.state

pub loop-t-preserved : goal.loop-t-preserved
loop-t-preserved c =
    let s = c.in-Some.ensures.steps in
    (picked_next s.lowest s.left (judged_is c.fits_some-fits.ensures.answer c.join_unless-fallen.ensures) c.loop-t.invariant.0, c.fits_some-fits.ensures.known)

pub returns : goal.returns
returns c = (picked_end c.in-None.ensures.steps.0 c.loop-t.invariant.0, c.loop-t.invariant.1)
