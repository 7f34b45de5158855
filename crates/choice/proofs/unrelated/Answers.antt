-- `choice::unrelated` meets its contract: the targets passed are tested.
-- Assumes nothing.
use mathlib.Core.Path.{◌≡◌, ap, ◌∙◌}
use mathlib.Core.Bool.{not}
use mathlib.Core.List.{List}
use Prim.Native.Nat.{ℕ, ◌<◌, pred}
use native.Mathlib.Omega.{arith}
use lib.ListN.{length, get_or}
use Rattle.simulation.specs.Table.{target_at, states_of}
use Rattle.simulation.specs.Sum.{any, when}
use Rattle.simulation.specs.Round.{related, round}
use Rattle.form.specs.Tables.{first_form, second_form, first_table, second_table, contract_table, second_step}
use Rattle.form.proofs.FormLaws.{limits}
use Rattle.form.proofs.Contract.{contract-states}
use Rattle.relate.proofs.Places.{targets-count, target-state}
use Rattle.choice.proofs.Choices.{pair_place, pair_lost}
use Rattle.choice.proofs.Parts.{apart-at, unrelating_start, unrelating_next}
use Rattle.choice.proofs.unrelated.Goals as goal
use Rattle.choice.proofs.unrelated.Goals.{In-loop-t}

-- the target is a state of the second table, and of the contract
state : (c : In-loop-t) → get_or c.targets-targets.result.now c.loop-t.t-index 0 < states_of (second_table c.args.tables.now)
state c =
    target-state (second_form c.args.tables.now) c.args.k c.requires.0.loaded.second c.requires.3 _ c.targets-targets.ensures c.loop-t.t-index c.loop-t-test.true

pub loop-t-init : goal.loop-t-init
loop-t-init c = unrelating_start _ _ _ c.empty-apart.ensures

pub rank_at-requires : goal.rank_at-requires
rank_at-requires c =
    let tables = c.args.tables.now in
    let p = c.requires in (
      p.0.loaded,
      omega (arith, p.2, (limits (first_form tables) p.0.loaded.first).states-few),
      omega (arith, state (goal.at.rank_at-requires c).In-loop-t, (limits (second_form tables) p.0.loaded.second).states-few),
      pair_place p.0 p.2 (omega (arith, state (goal.at.rank_at-requires c).In-loop-t, contract-states tables)),
    )

pub with_bit-apart-requires : goal.with_bit-apart-requires
with_bit-apart-requires c =
    (omega (arith, state (goal.at.with_bit-apart-requires c).In-loop-t, (limits (second_form c.args.tables.now) c.requires.0.loaded.second).states-few), omega arith)

pub loop-t-preserved : goal.loop-t-preserved
loop-t-preserved c =
    let l = c.loop-t in
    let a = c.args in
    let p = c.requires in
    let tables = a.tables.now in
    let R = round (first_table tables) (contract_table tables) (pred a.r) in
    let n = second_step tables a.k in
    let t = get_or c.targets-targets.result.now l.t-index 0 in
    let is : t ≡ target_at n l.t-index = ap (λ (ts : List ℕ). get_or ts l.t-index 0) c.targets-targets.ensures in
    let lost = pair_lost p.0 a.r a.s t p.1 p.2 (omega (arith, state (goal.at.loop-t-preserved c).In-loop-t, contract-states tables)) c.rank_at.ensures c.lasts-lost.ensures in
    let count = targets-count (second_form tables) a.k p.0.loaded.second p.3 _ c.targets-targets.ensures in
    unrelating_next R a.s n l.invariant c.with_bit-apart.result (omega (arith, count, c.loop-t-test.true)) is (lost ∙ ap (λ (v : ℕ). when (not (related R a.s v)) 1) is) c.with_bit-apart.ensures

pub returns : goal.returns
returns c u =
    let l = c.loop-t in
    let a = c.args in
    let R = round (first_table a.tables.now) (contract_table a.tables.now) (pred a.r) in
    let count = targets-count (second_form a.tables.now) a.k c.requires.0.loaded.second c.requires.3 _ c.targets-targets.ensures in
    let last : l.t-index ≡ length (second_step a.tables.now a.k).entries = omega (arith, count, c.loop-t-test.false, l.invariant.within) in
    l.invariant.tested u ∙ ap (λ (i : ℕ). any i (apart-at R a.s (second_step a.tables.now a.k) u)) last
