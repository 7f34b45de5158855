-- `choice::part_lone` meets its contract.
-- Assumes nothing.
use mathlib.Core.Path.{◌≡◌, ap, ◌∙◌}
use mathlib.Core.List.{List}
use Prim.Native.Nat.{ℕ, ◌<◌, pred}
use native.Mathlib.Omega.{arith}
use lib.ListN.{length, get_or}
use Rattle.simulation.specs.Sum.{any}
use Rattle.simulation.specs.Table.{target_at}
use Rattle.simulation.specs.Round.{round}
use Rattle.form.specs.Tables.{first_form, second_form, first_table, contract_table, first_step, second_step}
use Rattle.form.proofs.FormLaws.{positive-at}
use Rattle.word.specs.Mask.{member}
use Rattle.set.specs.Words.{mask}
use Rattle.relate.proofs.Places.{targets-count, target-state}
use Rattle.choice.proofs.Parts.{apart-at, lone_parted_fit, lone_parted}
use Rattle.choice.proofs.part_lone.Goals as goal
use Rattle.choice.proofs.part_lone.Goals.{After-targets, After-unrelated-more}

-- the one target, a state
lone : (c : After-targets) → 0 < length c.targets.result.now
lone c =
    omega (arith, c.requires.4, targets-count (first_form c.args.tables.now) c.args.j c.requires.0.loaded.first c.requires.2 _ c.targets.ensures)

-- what `unrelated` found is told of the target of j
found : (c : After-unrelated-more) → let a = c.args in let tables = a.tables.now in (u : ℕ)
    → member (mask c.unrelated-more.result) u ≡ any (length (second_step tables a.k).entries)
    (apart-at (round (first_table tables) (contract_table tables) (pred a.r)) (target_at (first_step tables a.j) 0) (second_step tables a.k) u)
found c u =
    let a = c.args in
    let tables = a.tables.now in
    let R = round (first_table tables) (contract_table tables) (pred a.r) in
    let n = second_step tables a.k in
    c.unrelated-more.ensures u ∙ ap (λ (ts : List ℕ). any (length n.entries) (apart-at R (get_or ts 0 0) n u)) c.targets.ensures

pub unrelated-more-requires : goal.unrelated-more-requires
unrelated-more-requires c =
    let a = c.args in
    let p = c.requires in
    (p.0, p.1, target-state (first_form a.tables.now) a.j p.0.loaded.first p.2 _ c.targets.ensures 0 (lone (goal.at.unrelated-more-requires c).After-targets), p.3)

pub returns-then-is_empty : goal.returns-then-is_empty
returns-then-is_empty c =
    let a = c.args in
    let p = c.requires in
    lone_parted_fit _ _ _ p.4 (positive-at (first_form a.tables.now) p.0.loaded.first a.j p.2)
    (positive-at (second_form a.tables.now) p.0.loaded.second a.k p.3) p.6 c.unrelated-more.result (found (goal.at.returns-then-is_empty c).After-unrelated-more) _ c.is_empty.ensures c.if-is_empty.true

pub returns : goal.returns
returns c =
    let a = c.args in
    let p = c.requires in
    lone_parted _ _ _ p.4 (positive-at (first_form a.tables.now) p.0.loaded.first a.j p.2)
    (positive-at (second_form a.tables.now) p.0.loaded.second a.k p.3) p.6 c.unrelated-more.result (found (goal.at.returns c).After-unrelated-more)
    c.union.result c.is_empty.ensures c.if-is_empty.false p.5 c.get.ensures c.union.ensures c.put.ensures
