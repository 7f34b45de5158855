-- `choice::choose` meets its contract: the transitions of s passed fit one of t.
-- Assumes nothing.
use Rattle.form.specs.declared.tables.Tables.{Tables}
use mathlib.Core.List.{List}
use mathlib.Core.Path.{◌≡◌, refl, sym, ap, ◌∙◌, subst}
use mathlib.Core.Bool.{Bool, true, false}
use Rattle.std.specs.Prelude.{Option, Some, is_some, IfSome}
use Prim.Native.Nat.{ℕ, ◌+◌, ◌≤◌, ◌<◌}
use native.Mathlib.Omega.{arith}
use lib.ListN.{length}
use Rattle.simulation.specs.Limits.{most_transitions}
use Rattle.simulation.specs.Table.{states_of}
use Rattle.form.specs.Form.{Loaded, start_of, transitions_of}
use Rattle.form.specs.Tables.{first_form, second_form, second_table, first_step}
use Rattle.form.proofs.FormLaws.{limits}
use Rattle.choice.specs.Choice.{Choice, SetsChosen, round_fits_some, Tested}
use Rattle.choice.proofs.Choosing.{LostPair, second-state, matches, Trying, number_of, trying_start, trying_next, trying_end, tested_one}
use Rattle.choice.proofs.choose.Invariants.{Walk}
use Rattle.choice.proofs.choose.Goals as goal
use Rattle.choice.proofs.choose.Goals.{After-start_of-j, At-loop-fitted, Start}

module _ {tables : Tables} {ranks : List ℕ} {s t r : ℕ} (p : LostPair tables ranks s t r) where
  first : Loaded (first_form tables)
  first = p.ranked.loaded.first

  second : Loaded (second_form tables)
  second = p.ranked.loaded.second

  state : t < states_of (second_table tables)
  state = second-state tables p.lost.right

  -- what the test of j says, in the round before the pair's rank
  matched : (j : ℕ) {v : Bool} → round_fits_some tables t r j ≡ v → matches tables s t (first_step tables j) ≡ v
  matched j h = sym (ap (λ (q : ℕ). round_fits_some tables t q j) p.its_rank) ∙ h

  number : {j : ℕ} → Trying tables s t j → j < transitions_of (first_form tables)
  number {j} y = number_of (first_form tables) first s p.lost.left j y.low y.high

  module _ {sets₀ amounts₀ sets amounts : List ℕ} {j : ℕ} {f : Option ℕ} (w : Walk tables s t r sets₀ amounts₀ sets amounts j f) where
    module _ {l : ℕ} (e : f ≡ Some l) where
      -- number j fits one, so that it is not the last
      next : Trying tables s t (j + 1)
      next = trying_next tables s t first p.lost w.trying (matched j (sym w.tested.fits ∙ ap is_some e))

      low : start_of (second_form tables) t ≤ l
      low = subst (λ (f : Option ℕ). IfSome f (λ k. start_of (second_form tables) t ≤ k)) e w.tested.low

      -- the guess was right
      guess : {sets' : List ℕ} → round_fits_some tables t r (j + 1) ≡ true → Tested tables s t r (j + 1) (Some l) sets'
      guess h = tested_one tables s t first p.lost p.its_rank low h

    -- number j fits none
    ended : is_some f ≡ false → Choice tables s t j × SetsChosen tables s t sets
    ended e =
        let c = trying_end tables s t first p.lost w.trying (matched j (sym w.tested.fits ∙ e)) in
        (c, w.tested.found c)

    small : j < most_transitions
    small = omega (arith, number w.trying, (limits (first_form tables) first).transitions-few)

asked : (c : Start) → let a = c.args in LostPair a.tables.now a.ranks.now a.s a.t a.r
asked c = let p = c.requires in record { ranked = p.0; lost = p.1; its_rank = p.2 }

-- the lists are as long as at the entry
sets-length : (l : At-loop-fitted) → length l.loop-fitted.sets ≡ length l.args.sets.now
sets-length l = l.loop-fitted.invariant.same-sets ∙ l.find_sets-fitted.auto.sets

amounts-length : (l : At-loop-fitted) → length l.loop-fitted.amounts ≡ length l.args.amounts.now
amounts-length l = l.loop-fitted.invariant.same-amounts ∙ l.find_sets-fitted.auto.amounts

-- the walk begins at the first transition of s
begun : (c : After-start_of-j) → let a = c.args in Trying a.tables.now a.s a.t c.start_of-j.result
begun c =
    let a = c.args in
    let p = c.requires in
    subst (Trying a.tables.now a.s a.t) (sym c.start_of-j.ensures) (trying_start a.tables.now a.s a.t p.0.loaded.first p.1)

pub find_sets-fitted-requires : goal.find_sets-fitted-requires
find_sets-fitted-requires c =
    let p = c.requires in
    let y = begun (goal.at.find_sets-fitted-requires c).After-start_of-j in
    (p.0, p.1, p.2, y.low, y.high, p.3, p.4)

pub loop-fitted-init : goal.loop-fitted-init
loop-fitted-init c =
    record {
      trying = begun (goal.at.loop-fitted-init c).After-start_of-j;
      tested = c.find_sets-fitted.ensures;
      same-sets = refl;
      same-amounts = refl;
    }

pub overflow_add-j : goal.overflow_add-j
overflow_add-j c = record { fits = omega (arith, small (asked (goal.at.overflow_add-j c).Start) c.loop-fitted.invariant) }

pub guessed-requires : goal.guessed-requires
guessed-requires c =
    let p = c.requires in
    let w = c.loop-fitted.invariant in (
      p.0,
      omega (arith, p.1.fell, p.2),
      number (asked (goal.at.guessed-requires c).Start) (next (asked (goal.at.guessed-requires c).Start) w c.in-Some.is),
      omega (arith, p.4, amounts-length (goal.at.guessed-requires c).At-loop-fitted),
      omega (arith, p.3, sets-length (goal.at.guessed-requires c).At-loop-fitted),
      p.1.right,
      low (asked (goal.at.guessed-requires c).Start) w c.in-Some.is,
    )

pub find_sets-fitted-requires-then-not-guessed : goal.find_sets-fitted-requires-then-not-guessed
find_sets-fitted-requires-then-not-guessed c =
    let p = c.requires in
    let y = next (asked (goal.at.find_sets-fitted-requires-then-not-guessed c).Start) c.loop-fitted.invariant c.in-Some.is in (
      p.0,
      p.1,
      p.2,
      y.low,
      y.high,
      omega (arith, p.3, c.guessed.auto.rel, sets-length (goal.at.find_sets-fitted-requires-then-not-guessed c).At-loop-fitted),
      omega (arith, p.4, c.guessed.auto.amounts, amounts-length (goal.at.find_sets-fitted-requires-then-not-guessed c).At-loop-fitted),
    )

pub loop-fitted-preserved-then-not-guessed : goal.loop-fitted-preserved-then-not-guessed
loop-fitted-preserved-then-not-guessed c =
    let w = c.loop-fitted.invariant in
    record {
      trying = next (asked (goal.at.loop-fitted-preserved-then-not-guessed c).Start) w c.in-Some.is;
      tested = c.find_sets-fitted-then-not-guessed.ensures;
      same-sets = c.find_sets-fitted-then-not-guessed.auto.sets ∙ c.guessed.auto.rel ∙ w.same-sets;
      same-amounts = c.find_sets-fitted-then-not-guessed.auto.amounts ∙ c.guessed.auto.amounts ∙ w.same-amounts;
    }

pub loop-fitted-preserved : goal.loop-fitted-preserved
loop-fitted-preserved c =
    let p = asked (goal.at.loop-fitted-preserved c).Start in
    let w = c.loop-fitted.invariant in
    let e = c.in-Some.is in
    record {
      trying = next p w e;
      tested = guess p w e (c.guessed.ensures c.if-not-guessed.false);
      same-sets = c.guessed.auto.rel ∙ w.same-sets;
      same-amounts = c.guessed.auto.amounts ∙ w.same-amounts;
    }

pub returns : goal.returns
returns c = ended (asked (goal.at.returns c).Start) c.loop-fitted.invariant (ap is_some c.in_default.is)
