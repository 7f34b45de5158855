-- `choice::find_listed` meets its contract: the listed transitions of t passed are gathered into the sets.
-- Assumes nothing.
use Rattle.form.specs.declared.tables.Tables.{Tables}
use mathlib.Core.List.{List}
use mathlib.Core.Path.{◌≡◌, refl, sym, ◌∙◌, subst}
use mathlib.Core.Bool.{Bool, true, false}
use Rattle.std.specs.Prelude.{Some, None}
use Prim.Native.Nat.{ℕ, ◌+◌, ◌<◌, ◌≤◌, pred}
use native.Mathlib.Omega.{arith}
use borrow.Author.Tests.{eqb-true}
use lib.Dec.{T, eqb}
use lib.ListN.{length}
use Rattle.simulation.specs.Limits.{most_pairs, most_states, most_transitions}
use Rattle.simulation.specs.Round.{Relation, fits_step, round}
use Rattle.simulation.specs.Table.{Transition, states_of}
use Rattle.simulation.specs.Complete.{lists}
use Rattle.form.specs.Form.{Loaded, start_of, transitions_of}
use Rattle.form.specs.Tables.{first_form, second_form, first_table, second_table, contract_table, first_step, second_step}
use Rattle.form.proofs.FormLaws.{counts, limits, start-bound}
use Rattle.form.proofs.Contract.{answered-listed, apart_by-listed}
use Rattle.relate.proofs.Places.{few_places, targets-count}
use Rattle.fit.specs.Partner.{Coded}
use Rattle.fit.specs.Ranked.{InRound}
use Rattle.fit.proofs.Partner.{search_asked}
use Rattle.choice.specs.Choice.{Parted, Tested}
use Rattle.choice.proofs.Choosing.{LostPair, lost_compared, SetsGathering, number_of, second-state, listed_answers, scan_end, tested_one, tested_none, gathering_start, gathering_next, gathering_coded, gathering_end}
use Rattle.choice.proofs.find_listed.Invariants.{Walk}
use Rattle.choice.proofs.find_listed.Goals as goal
use Rattle.choice.proofs.find_listed.Goals.{At-loop-next, Start}

-- the pair, and a transition of its first state
record Asked (tables : Tables) (ranks : List ℕ) (s t r j : ℕ) : Type 0 where
  pair : LostPair tables ranks s t r
  low : start_of (first_form tables) s ≤ j
  high : j < start_of (first_form tables) (s + 1)
  listed : T (lists (second_table tables).codes (first_step tables j).code)

module _ {tables : Tables} {ranks : List ℕ} {s t r j : ℕ} (p : Asked tables ranks s t r j) where
  abbrev f : List ℕ
  f = first_form tables

  abbrev g : List ℕ
  g = second_form tables

  first : Loaded f
  first = p.pair.ranked.loaded.first

  second : Loaded g
  second = p.pair.ranked.loaded.second

  number : j < transitions_of f
  number = number_of f first s p.pair.lost.left j p.low p.high

  state : t < states_of (second_table tables)
  state = second-state tables p.pair.lost.right

  few : length (first_step tables j).entries ≤ most_states
  few = few_places f j first number

  module _ {sets₀ amounts₀ sets amounts : List ℕ} {code end k : ℕ} (l : Walk tables t r j sets₀ amounts₀ code end sets amounts k) where
    abbrev R : Relation
    R = round (first_table tables) (contract_table tables) (pred r)

    abbrev m : Transition
    m = first_step tables j

    -- all of t are passed
    passed : ((q : ℕ) → k ≤ q → q < end → eqb code (second_step tables q).code ≡ false) → Tested tables s t r j None sets
    passed others =
        let all = gathering_coded R m tables second t state l.own l.within (omega arith) others l.ends l.gathering in
        let h : start_of g (t + 1) ≤ end = omega (arith, l.ends) in
        tested_none tables s t first p.pair.lost p.pair.its_rank
        (answered-listed tables m t p.listed R ∙ scan_end g second t state (fits_step R m) all.scan h)
        (λ i b u. gathering_end R m tables second t state all h i b u ∙ sym (apart_by-listed tables m t p.listed R i u))

    -- the next with the code
    module _ {next : ℕ} (n : Coded tables code k end next) where
      reached : SetsGathering R m tables t next sets
      reached = gathering_coded R m tables second t state l.own n.from (omega (arith, n.to)) n.passed l.ends l.gathering

      compared : most_pairs ≤ length amounts₀ → InRound tables ranks r j next amounts
      compared room = lost_compared p.pair j next amounts number reached.scan.low (omega (arith, n.to, l.ends)) (omega (arith, l.same-amounts))

      same_code : (first_step tables j).code ≡ (second_step tables next).code
      same_code = sym l.own ∙ eqb-true code (second_step tables next).code n.found

      -- j fits it
      stopped : {b : Bool} {sets' : List ℕ} → Parted R m (second_step tables next) b sets sets' → b ≡ true → Tested tables s t r j (Some next) sets'
      stopped a e =
          tested_one tables s t first p.pair.lost p.pair.its_rank reached.scan.low
          (listed_answers tables second R m t next p.pair.lost.right reached.scan.low (omega (arith, n.to, l.ends)) a.fit e)

      -- it adds to the sets
      added : {b : Bool} {sets' amounts' : List ℕ} → Parted R m (second_step tables next) b sets sets' → b ≡ false
          → length sets' ≡ length sets → length amounts' ≡ length amounts → Walk tables t r j sets₀ amounts₀ code end sets' amounts' (next + 1)
      added a e es ea =
          record {
            gathering = gathering_next R m tables second t state reached (omega (arith, n.to, l.ends)) a e;
            own = l.own;
            ends = l.ends;
            within = omega (arith, n.to);
            same-sets = es ∙ l.same-sets;
            same-amounts = ea ∙ l.same-amounts;
          }

      small : next < most_transitions
      small = omega (arith, n.to, l.ends, start-bound g second (t + 1) (omega (arith, state)), (limits g second).transitions-few)

asked : (c : Start) → let a = c.args in Asked a.tables.now a.ranks.now a.s a.t a.r a.j
asked c = let p = c.requires in record { pair = record { ranked = p.0; lost = p.1; its_rank = p.2 }; low = p.3; high = p.4; listed = p.7 }

pub targets-requires : goal.targets-requires
targets-requires c = let p = asked (goal.at.targets-requires c).Start in number p

pub clear-requires : goal.clear-requires
clear-requires c =
    let p = asked (goal.at.clear-requires c).Start in
    let count = targets-count (first_form c.args.tables.now) c.args.j (first p) (number p) _ c.targets.ensures in
    (omega (arith, few p), omega (arith, few p, c.requires.5))

pub code-code-requires : goal.code-code-requires
code-code-requires c = let p = asked (goal.at.code-code-requires c).Start in number p

pub start_of-start-requires : goal.start_of-start-requires
start_of-start-requires c = let p = asked (goal.at.start_of-start-requires c).Start in omega (arith, state p)

pub overflow_add-t : goal.overflow_add-t
overflow_add-t c =
    record { fits = omega (arith, state (asked (goal.at.overflow_add-t c).Start), (limits (second_form c.args.tables.now) (second (asked (goal.at.overflow_add-t c).Start))).states-few) }

pub start_of-end-requires : goal.start_of-end-requires
start_of-end-requires c = let p = asked (goal.at.start_of-end-requires c).Start in omega (arith, state p)

pub loop-next-init : goal.loop-next-init
loop-next-init c =
    let a = c.args in
    let p = asked (goal.at.loop-next-init c).Start in
    let tables = a.tables.now in
    let R = round (first_table tables) (contract_table tables) (pred a.r) in
    let m = first_step tables a.j in
    let count = targets-count (first_form tables) a.j (first p) (number p) _ c.targets.ensures in
    record {
      gathering =
          subst (λ (n : ℕ). SetsGathering R m tables a.t n c.clear.new.rows) (sym c.start_of-start.ensures)
          (gathering_start R m tables (second p) a.t (state p) c.clear.new.rows (λ i b. c.clear.ensures i (omega (arith, count))));
      own = c.code-code.ensures;
      ends = c.start_of-end.ensures;
      within = omega (arith, c.start_of-start.ensures, c.start_of-end.ensures, counts (second_form tables) (second p) a.t (state p));
      same-sets = refl;
      same-amounts = refl;
    }

pub next_coded-requires : goal.next_coded-requires
next_coded-requires c =
    let p = asked (goal.at.next_coded-requires c).Start in
    search_asked p.pair.ranked.loaded (state p) c.start_of-start.ensures c.start_of-end.ensures

-- what was lent for the sets is as long at the loop
lent : (l : At-loop-next) → length l.loop-next.sets ≡ length l.args.sets.now
lent l = l.loop-next.invariant.same-sets ∙ l.clear.auto.rows

pub part_sets-requires : goal.part_sets-requires
part_sets-requires c =
    let p = asked (goal.at.part_sets-requires c).Start in
    let l = c.loop-next.invariant in (
      compared p l c.in-Some.ensures c.requires.6,
      omega (arith, c.requires.5, lent (goal.at.part_sets-requires c).At-loop-next),
      same_code p l c.in-Some.ensures,
    )

pub shape_of-sets-then-part_sets : goal.shape_of-sets-then-part_sets
shape_of-sets-then-part_sets c = c.part_sets.auto.sets ∙ lent (goal.at.shape_of-sets-then-part_sets c).At-loop-next

pub shape_of-amounts-then-part_sets : goal.shape_of-amounts-then-part_sets
shape_of-amounts-then-part_sets c =
    c.part_sets.auto.amounts ∙ c.loop-next.invariant.same-amounts

pub returns-then-part_sets : goal.returns-then-part_sets
returns-then-part_sets c =
    stopped (asked (goal.at.returns-then-part_sets c).Start) c.loop-next.invariant c.in-Some.ensures c.part_sets.ensures c.if-part_sets.true

pub overflow_add-l : goal.overflow_add-l
overflow_add-l c =
    record { fits = omega (arith, small (asked (goal.at.overflow_add-l c).Start) c.loop-next.invariant c.in-Some.ensures) }

pub loop-next-preserved : goal.loop-next-preserved
loop-next-preserved c =
    added (asked (goal.at.loop-next-preserved c).Start) c.loop-next.invariant c.in-Some.ensures c.part_sets.ensures c.if-part_sets.false
    c.part_sets.auto.sets c.part_sets.auto.amounts

pub shape_of-sets : goal.shape_of-sets
shape_of-sets c = lent (goal.at.shape_of-sets c).At-loop-next

pub shape_of-amounts : goal.shape_of-amounts
shape_of-amounts c = c.loop-next.invariant.same-amounts

pub returns : goal.returns
returns c = passed (asked (goal.at.returns c).Start) c.loop-next.invariant c.in_default.ensures
