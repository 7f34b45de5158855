-- `rounds::mark_row` meets its contract: the members passed have their rank. Assumes nothing.
use mathlib.Core.Path.{◌≡◌, refl}
use mathlib.Core.Bool.{true}
use Prim.Native.Nat.{ℕ, ◌+◌, ◌<◌}
use native.Mathlib.Omega.{arith}
use lib.ListN.{length, get_or}
use Rattle.word.specs.Mask.{member, except}
use Rattle.set.specs.Words.{mask}
use Rattle.set.proofs.Walks.{begun}
use Rattle.links.proofs.Walks.{left-member}
use Rattle.rounds.specs.Rounds.{marked}
use Rattle.rounds.proofs.Marking.{mark_start, mark_next, mark_end}
use Rattle.rounds.proofs.mark_row.Goals as goal
use Rattle.rounds.proofs.mark_row.Goals.{In-Some}

pub loop-t-init : goal.loop-t-init
loop-t-init c =
    let a = c.args in
    let X = member (mask a.set) in
    let ranks = a.ranks.now in
    begun (λ n. ((t : ℕ) → member n t ≡ true → X t ≡ true) × ((i : ℕ) → get_or ranks i 0 ≡ marked (except X (member n)) a.base a.k ranks i))
    c.into_iter-t-iterator.ensures.into_iter_gives (λ t e. e, mark_start X a.base a.k ranks (mask a.set) refl)

-- the lowest member that is left is one of the set, so its rank has a place
rank_room : (c : In-Some) → c.args.base + c.in-Some.t < length c.loop-t.ranks
rank_room c =
    let t = c.in-Some.t in
    omega (arith, c.requires t (c.loop-t.invariant.0 t c.in-Some.ensures.steps.lowest.here))

pub bounds-ranks-base : goal.bounds-ranks-base
bounds-ranks-base c = rank_room (goal.at.bounds-ranks-base c).In-Some

pub overflow_add-ranks : goal.overflow_add-ranks
overflow_add-ranks c = omega (arith, rank_room c)

pub offset_bounds-ranks-base : goal.offset_bounds-ranks-base
offset_bounds-ranks-base c = omega (arith, rank_room (goal.at.offset_bounds-ranks-base c).In-Some)

pub loop-t-preserved : goal.loop-t-preserved
loop-t-preserved c =
    let i = c.loop-t in
    let a = c.args in
    let t = c.in-Some.t in
    let s = c.in-Some.ensures.steps in
    let left = mask i.t-iterator.left in (
      λ u m. i.invariant.0 u (left-member left _ t s.left u m),
      mark_next (member (mask a.set)) a.base a.k a.ranks.now i.ranks left _ t (i.invariant.0 t s.lowest.here) s.left
          (rank_room (goal.at.loop-t-preserved c).In-Some) i.invariant.1,
    )

pub returns : goal.returns
returns c =
    let a = c.args in
    mark_end (member (mask a.set)) a.base a.k a.ranks.now c.loop-t.ranks _ c.in-None.ensures.steps.0 c.loop-t.invariant.1
