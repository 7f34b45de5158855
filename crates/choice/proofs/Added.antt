-- The targets of a transition tested one by one against a state whose transition to itself it is to fit, and what that tells of the contract.
-- Assumes nothing.
use Rattle.form.specs.declared.tables.Tables.{Tables}
use mathlib.Core.Path.{◌≡◌, refl, sym, ap, ap₂, ◌∙◌, subst}
use mathlib.Core.Bool.{Bool, true, false, not, ◌&&◌, ◌||◌, and_comm, or-false}
use mathlib.Core.List.{List}
use mathlib.Core.Logic.{⊎_elim}
use Prim.Native.Nat.{ℕ, ◌+◌, ◌-◌, ◌*◌, ◌≤◌, ◌<◌, pred}
use native.Mathlib.Nat.{not-suc-le-zero}
use native.Mathlib.Omega.{arith}
use borrow.Author.Tests.{not-false}
use lib.Dec.{T, eqb, eqb→eq}
use lib.ListN.{length, get_or}
use Rattle.std.specs.Prelude.{Option}
use Rattle.std.specs.Bool.{then_some}
use Rattle.simulation.specs.Sum.{when}
use Rattle.simulation.specs.Table.{Transition, targets, target_at, states_of}
use Rattle.simulation.specs.Round.{Relation, related, round}
use Rattle.simulation.specs.Complete.{lists, all_related}
use Rattle.simulation.proofs.Finite.Tests.{is_true, true_T, same_test, same_eqb, last_or_below}
use Rattle.simulation.proofs.Finite.Sums.{sum_term, sum_ext, sum-zero, sum-none, sum_more, one_same, members, members_most}
use Rattle.simulation.proofs.Complete.Loops.{all_related-at, all_related_by}
use Rattle.form.specs.Form.{start_of, transitions_of}
use Rattle.form.specs.Tables.{first_form, second_form, first_table, second_table, contract_table, first_step, BothLoaded}
use Rattle.form.proofs.FormLaws.{starts_ascend, weights-length}
use Rattle.form.proofs.Contract.{answered-added, apart_by-loop}
use Rattle.word.specs.Mask.{member, with_bit}
use Rattle.word.proofs.Mask.{member-none, one-is}
use Rattle.set.specs.Words.{mask}
use Rattle.set.specs.declared.Set.{Set}
use Rattle.relation.specs.Ranks.{lasts}
use Rattle.relation.specs.Rows.{row_of, height, put_row}
use Rattle.relation.proofs.RowLaws.{length_put, row_put, row_put_other}
use Rattle.relate.specs.Ranked.{RanksRight}
use Rattle.relate.proofs.Places.{target-state}
use Rattle.choice.specs.Choice.{PartedAdded, round_fits_some, Tested}
use Rattle.choice.proofs.Choices.{pair_lost}
use Rattle.choice.proofs.Choosing.{eqb_flip, number_of, second-state, LostPair, tested_one, tested_none}

-- the target at place i of the transition j: 1 if the round before round r does not relate it to t, by its rank
module _ {tables : Tables} {ranks : List ℕ} (g : RanksRight tables ranks) (j t r : ℕ) (own : j < transitions_of (first_form tables)) (state : t < states_of (contract_table tables)) (later : 0 < r)
    {ts : List ℕ} (e : ts ≡ targets (first_step tables j)) (i : ℕ) (lt : i < length ts) where
  pub lost-is : {k b : ℕ} → k ≡ get_or ranks (get_or ts i 0 * states_of (contract_table tables) + t) 0 → b ≡ when (lasts r k) 1
      → 1 - b ≡ when (not (related (round (first_table tables) (contract_table tables) (pred r)) (target_at (first_step tables j) i) t)) 1
  lost-is h w =
      pair_lost g r (get_or ts i 0) t later (target-state (first_form tables) j g.loaded.first own ts e i lt) state h w
      ∙ ap (λ (l : List ℕ). when (not (related (round (first_table tables) (contract_table tables) (pred r)) (get_or l i 0) t)) 1) e

-- the state t alone, if v
alone : (x : Set) (v : Bool) (t b z : ℕ) → z ≡ 0 → b ≡ when v 1 → member (mask x) ≡ with_bit t b (member z) → (u : ℕ) → member (mask x) u ≡ (v && eqb t u)
alone x v t b z e h w u =
    ap (λ X. X u) w
    ∙ ap₂ (λ (p q : Bool). (eqb u t && p) || q) (ap (λ (b : ℕ). eqb b 1) h ∙ one-is v) (ap (λ (z : ℕ). member z u) e ∙ member-none u)
    ∙ or-false (eqb u t && v) ∙ and_comm (eqb u t) v ∙ ap (λ (p : Bool). v && p) (eqb_flip u t)

module _ (R : Relation) (m : Transition) (t : ℕ) where
  -- the target at place i is not related to t
  abbrev unrelated : ℕ → Bool
  unrelated i = not (related R (target_at m i) t)

  -- the targets before place i are tested, and so many of them are not related to t
  pub record Parting (sets₀ sets : List ℕ) (apart i : ℕ) : Type 0 where
    pub size : length sets ≡ length sets₀
    pub within : i ≤ length m.entries
    pub count : apart ≡ members i unrelated
    pub rows : (k : ℕ) → k < i → (u : ℕ) → member (row_of sets k) u ≡ (unrelated k && eqb t u)

  pub parting_start : (sets : List ℕ) → Parting sets sets 0 0
  parting_start sets = record { size = refl; within = omega arith; count = sum-none (λ i. when (unrelated i) 1); rows = λ k b. absurd (not-suc-le-zero b) }

  module _ {sets₀ sets : List ℕ} {apart i : ℕ} (w : Parting sets₀ sets apart i) where
    pub parting_few : apart ≤ i
    parting_few = omega (arith, w.count, members_most i unrelated)

    pub parting_next : (x : Set) {sets' : List ℕ} {b z : ℕ} → length m.entries ≤ height sets₀ → i < length m.entries → z ≡ 0 → b ≡ when (unrelated i) 1
        → member (mask x) ≡ with_bit t b (member z) → sets' ≡ put_row sets i x → Parting sets₀ sets' (apart + b) (i + 1)
    parting_next x {b = b} {z} room lt e h v put =
        record {
          size = ap length put ∙ length_put sets i x ∙ w.size;
          within = omega arith;
          count = ap (λ (b : ℕ). apart + b) h ∙ sum_more i (λ i. when (unrelated i) 1) w.count;
          rows = λ k c u.
              ap (λ (l : List ℕ). member (row_of l k) u) put
              ∙ ⊎_elim (λ q. here k q u) (λ l. ap (λ (y : ℕ). member y u) (row_put_other sets i k x (λ q. omega arith)) ∙ w.rows k l u) (last_or_below k i (omega arith));
        }
      where
        here : (k : ℕ) → k ≡ i → (u : ℕ) → member (row_of (put_row sets i x) k) u ≡ (unrelated k && eqb t u)
        here k q u =
            subst (λ (k : ℕ). member (row_of (put_row sets i x) k) u ≡ (unrelated k && eqb t u)) (sym q)
            (ap (λ (y : ℕ). member y u) (row_put sets i x (omega (arith, w.size))) ∙ alone x (unrelated i) t b z e h v u)

    -- all targets are tested
    pub parting_end : length m.entries ≤ i → PartedAdded R m t (eqb apart 0) sets
    parting_end le =
        record {
          fit = same_test (eqb apart 0) (all_related R m t) none some;
          apart = λ k b u. w.rows k (omega arith) u;
        }
      where
        none : T (eqb apart 0) → T (all_related R m t)
        none h =
            all_related_by R m t 0 (λ k b.
            true_T (not-false (related R (target_at m k) t)
            (one_same (unrelated k) false
            (omega (arith, eqb→eq apart 0 h, w.count, sum_term i (λ i. when (unrelated i) 1) k (omega (arith, weights-length m)))))))

        some : T (all_related R m t) → T (eqb apart 0)
        some h =
            same_eqb (w.count
            ∙ sum_ext i (λ i. when (unrelated i) 1) (λ i. 0) (λ k b.
            ap (λ (v : Bool). when (not v) 1) (is_true (related R (target_at m k) t) (all_related-at R m t 0 h k (omega (arith, w.within, weights-length m)))))
            ∙ sum-zero i)

-- what was found for a code that the second table does not list
module _ {tables : Tables} {ranks : List ℕ} {s t r j : ℕ} (p : LostPair tables ranks s t r) (low : start_of (first_form tables) s ≤ j) (high : j < start_of (first_form tables) (s + 1))
    (missing : ¬ T (lists (second_table tables).codes (first_step tables j).code)) where
  abbrev before-rank : Relation
  before-rank = round (first_table tables) (contract_table tables) (pred r)

  abbrev loaded : BothLoaded tables
  loaded = p.ranked.loaded

  own : j < transitions_of (first_form tables)
  own = number_of (first_form tables) loaded.first s p.lost.left j low high

  state : t < states_of (second_table tables)
  state = second-state tables p.lost.right

  after : start_of (second_form tables) t ≤ start_of (second_form tables) (t + 1)
  after = starts_ascend (second_form tables) loaded.second t (t + 1) (omega arith) (omega (arith, state))

  answered : {b : Bool} {sets : List ℕ} → PartedAdded before-rank (first_step tables j) t b sets → round_fits_some tables t r j ≡ b
  answered a = answered-added tables loaded j t own state missing before-rank ∙ sym a.fit

  pub tested_added : (b : Bool) {l : Option ℕ} {end : ℕ} {sets : List ℕ} → PartedAdded before-rank (first_step tables j) t b sets → end ≡ start_of (second_form tables) (t + 1)
      → l ≡ then_some b end → Tested tables s t r j l sets
  tested_added true {end = end} {sets} a e h =
      subst (λ (l : Option ℕ). Tested tables s t r j l sets) (sym h) (tested_one tables s t loaded.first p.lost p.its_rank (omega (arith, after, e)) (answered a))
  tested_added false {sets = sets} a e h =
      subst (λ (l : Option ℕ). Tested tables s t r j l sets) (sym h)
      (tested_none tables s t loaded.first p.lost p.its_rank (answered a)
      (λ i b u. a.apart i b u ∙ sym (apart_by-loop tables loaded j t own state missing before-rank i u (omega (arith, weights-length (first_step tables j))))))
