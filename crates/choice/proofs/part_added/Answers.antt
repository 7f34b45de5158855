-- `choice::part_added` meets its contract: the targets passed are tested.
-- Assumes nothing.
use mathlib.Core.Path.{◌≡◌}
use Prim.Native.Nat.{◌<◌, ◌≤◌}
use native.Mathlib.Omega.{arith}
use lib.ListN.{length}
use Rattle.simulation.specs.Limits.{most_states}
use Rattle.form.specs.Tables.{first_form, first_step}
use Rattle.form.proofs.FormLaws.{limits}
use Rattle.form.proofs.Contract.{contract-few}
use Rattle.relate.proofs.Places.{few_places, targets-count, target-state}
use Rattle.choice.proofs.Choices.{pair_place}
use Rattle.choice.proofs.Added.{parting_start, parting_few, parting_next, parting_end, lost-is}
use Rattle.choice.proofs.part_added.Goals as goal
use Rattle.choice.proofs.part_added.Goals.{After-lasts-lost, After-targets-targets, In-loop-i, Start}

narrow : (c : Start) → c.args.t < most_states
narrow c = omega (arith, contract-few c.args.tables.now c.requires.0.loaded, c.requires.3)

-- as many targets as entries, and few
count : (c : After-targets-targets) → let a = c.args in length c.targets-targets.result.now ≡ length (first_step a.tables.now a.j).entries
count c = targets-count (first_form c.args.tables.now) c.args.j c.requires.0.loaded.first c.requires.2 _ c.targets-targets.ensures

few : (c : After-targets-targets) → let a = c.args in length (first_step a.tables.now a.j).entries ≤ most_states
few c = few_places (first_form c.args.tables.now) c.args.j c.requires.0.loaded.first c.requires.2

-- the place is that of an entry
place : (c : In-loop-i) → let a = c.args in c.loop-i.i < length (first_step a.tables.now a.j).entries
place c =
    omega (arith, targets-count (first_form c.args.tables.now) c.args.j c.requires.0.loaded.first c.requires.2 _ c.targets-targets.ensures, c.loop-i-test.true)

pub loop-i-init : goal.loop-i-init
loop-i-init c = parting_start _ _ _ _

pub rank_at-requires : goal.rank_at-requires
rank_at-requires c =
    let a = c.args in
    let p = c.requires in
    let f = first_form a.tables.now in
    let own = target-state f a.j p.0.loaded.first p.2 _ c.targets-targets.ensures c.loop-i.i c.loop-i-test.true in
    (p.0.loaded, omega (arith, own, (limits f p.0.loaded.first).states-few), omega (arith, narrow (goal.at.rank_at-requires c).Start), omega (arith, pair_place p.0 own p.3))

pub with_bit-requires : goal.with_bit-requires
with_bit-requires c =
    (omega (arith, narrow (goal.at.with_bit-requires c).Start), omega arith)

pub put-requires : goal.put-requires
put-requires c =
    omega (arith, place (goal.at.put-requires c).In-loop-i, few (goal.at.put-requires c).After-targets-targets, c.loop-i.invariant.size, c.requires.4)

pub overflow_add-apart : goal.overflow_add-apart
overflow_add-apart c =
    record { fits = omega (arith, parting_few _ _ _ c.loop-i.invariant, place (goal.at.overflow_add-apart c).In-loop-i, few (goal.at.overflow_add-apart c).After-targets-targets) }

pub loop-i-preserved : goal.loop-i-preserved
loop-i-preserved c =
    let a = c.args in
    let p = c.requires in
    let l = c.loop-i in
    parting_next _ _ _ l.invariant c.with_bit.result (omega (arith, few (goal.at.loop-i-preserved c).After-targets-targets, p.4)) (place (goal.at.loop-i-preserved c).In-loop-i) c.empty.ensures
    (lost-is p.0 a.j a.t a.r p.2 p.3 p.1 c.targets-targets.ensures l.i c.loop-i-test.true c.rank_at.ensures c.lasts-lost.ensures)
    c.with_bit.ensures c.put.ensures

pub returns : goal.returns
returns c = parting_end _ _ _ c.loop-i.invariant (omega (arith, count (goal.at.returns c).After-targets-targets, c.loop-i-test.false))
