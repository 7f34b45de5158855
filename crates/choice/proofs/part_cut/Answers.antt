-- `choice::part_cut` meets its contract.
-- Assumes nothing.
use mathlib.Core.Path.{sym, subst}
use mathlib.Core.List.{List}
use Prim.Native.Nat.{ℕ, ◌*◌, ◌≤◌, pred}
use native.Mathlib.Omega.{arith}
use lib.ListN.{length}
use Rattle.simulation.specs.Limits.{most_states}
use Rattle.simulation.specs.Round.{round}
use Rattle.form.specs.Tables.{first_form, first_table, contract_table, first_step, second_step}
use Rattle.set.specs.Words.{mask}
use Rattle.relation.specs.Rows.{height}
use Rattle.relation.proofs.Parts.{part-height}
use Rattle.relate.proofs.Places.{few_places}
use Rattle.buffer.specs.Buffer.{with_part}
use Rattle.fit.specs.Ranked.{Cut}
use Rattle.choice.proofs.Choosing.{parted_fit, parted_unfit, cut_names, half-words, lent-height, lent_rows, lent-sets}
use Rattle.choice.proofs.part_cut.Goals as goal
use Rattle.choice.proofs.part_cut.Goals.{After-round_cut-named, Start}

-- the transition j has few targets
few : (c : Start) → length (first_step c.args.tables.now c.args.j).entries ≤ most_states
few c = let g = c.requires.0 in few_places (first_form c.args.tables.now) c.args.j g.ranked.loaded.first g.from_first

-- the rows that were lent, and the sets with them: as many rows as at the entry
abbrev rel_of : After-round_cut-named → List ℕ
rel_of c = c.round_cut-named.new.rel

abbrev sets_of : After-round_cut-named → List ℕ
sets_of c = with_part half-words half-words (rel_of c) c.args.sets.now

room : (c : After-round_cut-named) → 2 * most_states ≤ height (sets_of c)
room c =
    omega (arith, c.requires.1, lent-height (rel_of c) c.args.sets.now c.requires.1 c.round_cut-named.auto.rel)

pub round_cut-named-requires : goal.round_cut-named-requires
round_cut-named-requires c =
    (c.requires.0, omega (arith, few (goal.at.round_cut-named-requires c).Start, part-height most_states most_states c.args.sets.now (omega (arith, c.requires.1))))

pub returns-then-is_empty : goal.returns-then-is_empty
returns-then-is_empty c =
    parted_fit _ _ _ c.requires.2 c.round_cut-named.ensures c.is_empty.ensures c.if-is_empty.true

pub reached-near-requires : goal.reached-near-requires
reached-near-requires c =
    cut_names _ _ _ c.round_cut-named.ensures _ (omega (arith, few (goal.at.reached-near-requires c).Start, part-height most_states most_states (sets_of (goal.at.reached-near-requires c).After-round_cut-named) (omega (arith, room (goal.at.reached-near-requires c).After-round_cut-named))))

pub join_sets-requires : goal.join_sets-requires
join_sets-requires c =
    cut_names _ _ _ c.round_cut-named.ensures _ (omega (arith, few (goal.at.join_sets-requires c).Start, room (goal.at.join_sets-requires c).After-round_cut-named))

pub returns : goal.returns
returns c =
    let a = c.args in
    let tables = a.tables.now in
    let R = round (first_table tables) (contract_table tables) (pred a.r) in
    let m = first_step tables a.j in
    let n = second_step tables a.k in
    let rel = rel_of (goal.at.returns c).After-round_cut-named in
    let rows = lent_rows rel a.sets.now c.requires.1 c.round_cut-named.auto.rel in
    let cut = subst (λ (z : List ℕ). Cut R m n z (mask c.round_cut-named.result)) (sym rows) c.round_cut-named.ensures in
    parted_unfit R m n _ _ c.requires.2 cut
    (omega (arith, few (goal.at.returns c).Start, part-height most_states most_states (sets_of (goal.at.returns c).After-round_cut-named) (omega (arith, room (goal.at.returns c).After-round_cut-named))))
    c.reached-near.ensures c.other_targets-more.ensures c.is_empty.ensures c.if-is_empty.false
    (λ i b. lent-sets rel a.sets.now c.requires.1 c.round_cut-named.auto.rel i (omega (arith, few (goal.at.returns c).Start))) c.join_sets.ensures
