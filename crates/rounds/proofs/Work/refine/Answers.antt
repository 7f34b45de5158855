-- `rounds::Work::refine` meets its contract: between two rounds, with the pairs that fall next. Assumes nothing.
use mathlib.Core.Path.{refl, ◌∙◌}
use native.Mathlib.Omega.{arith}
use Rattle.set.specs.Words.{mask}
use Rattle.set.proofs.Sets.{is_none, is_some}
use Rattle.rounds.proofs.Turning.{stands_first, bounded, kept_more, same_pairs, ended}
use Rattle.rounds.proofs.Work.refine.Goals as goal

pub first_round-fell-requires : goal.first_round-fell-requires
first_round-fell-requires c = (c.requires.prepared.loaded, c.requires.none_lost)

pub loop-self-init : goal.loop-self-init
loop-self-init c =
    let p = c.requires.prepared in (
      record { tables = refl; sets = refl; ranks = refl; rows = refl; marks = refl; same_marks = c.first_round-fell.ensures.1 },
      record {
        prepared = record {
          loaded = p.loaded;
          ranks_room = p.ranks_room;
          sets_known = p.sets_known;
          rows_room = p.rows_room;
          amounts_room = p.amounts_room;
          known = p.known;
        };
        standing = stands_first c.requires.after c.first_round-fell.ensures.0;
      },
      λ i a. refl,
    )

pub turn-last-requires : goal.turn-last-requires
turn-last-requires c = (c.loop-self.invariant.1, is_some c.is_empty.ensures c.loop-self-test.true)

pub loop-self-smaller : goal.loop-self-smaller
loop-self-smaller c =
    let l = c.loop-self in
    let some = is_some {m = mask l.last.fell} c.is_empty.ensures c.loop-self-test.true in
    omega (arith, bounded l.invariant.1.standing some, same_pairs l.invariant.0, c.turn-last.ensures.0)

pub loop-self-preserved : goal.loop-self-preserved
loop-self-preserved c =
    let e = c.turn-last.ensures.1 in
    let i = c.loop-self.invariant in
    (kept_more i.0 e.kept, e.turning, λ j b. e.beyond j (omega (arith, same_pairs i.0)) ∙ i.2 j b)

pub returns : goal.returns
returns c =
    let i = c.loop-self.invariant in
    (ended _ i.0 i.1 (is_none c.is_empty.ensures c.loop-self-test.false) i.2, i.0)
