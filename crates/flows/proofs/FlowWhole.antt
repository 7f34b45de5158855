-- The flows of a pair, transition by transition.
-- Assumes nothing.
use Rattle.form.specs.declared.tables.Tables.{Tables}
use mathlib.Core.Path.{◌≡◌, refl, sym, ◌∙◌, ap, subst, subst₂}
use mathlib.Core.Bool.{cond}
use mathlib.Core.List.{List, [], ◌∷◌}
use Prim.Native.Nat.{ℕ, ◌+◌, ◌-◌, ◌≤◌, ◌<◌}
use native.Mathlib.Nat.{not-suc-le-zero}
use native.Mathlib.Decide.{ℕ_discrete}
use native.Mathlib.Omega.{arith}
use lib.Dec.{T, eqb}
use lib.ListN.{length, set, length-set}
use borrow.Author.Tests.{eq-eqb, ne_eqb}
use Rattle.simulation.specs.Limits.{most_transitions, most_of_state}
use Rattle.simulation.specs.Sum.{any_of}
use Rattle.simulation.specs.Fit.{Amounts}
use Rattle.simulation.specs.Table.{Transition, Table, targets, states_of, steps, no_transition, transition}
use Rattle.simulation.specs.Round.{Relation, fits_step}
use Rattle.simulation.proofs.Finite.Tests.{is_true}
use Rattle.simulation.proofs.Finite.Lists.{any_of_by}
use Rattle.form.specs.Form.{start_of, transitions_of, transition_at}
use Rattle.form.specs.Tables.{first_form, first_table, second_table, contract_table, listed_steps, first_step}
use Rattle.form.proofs.FormLaws.{limits, counts, transition-number, transition_of}
use Rattle.form.proofs.Contract.{contract-states}
use Rattle.decision.specs.Fitting.{SharesIn}
use Rattle.matrix.specs.Matrix.{cell}
use Rattle.buffer.specs.Buffer.{Filled}
use Rattle.flows.specs.Flow.{kept_relation, named_place, one_flow, place_of, partner, step_room, room_for, Right, flow_bytes, flow_room}
use Rattle.flows.specs.FlowSteps.{KeptPair, Answered, Shown, Flowed}
use Rattle.buffer.proofs.Buffer.{part-from, back}
use Rattle.flows.proofs.Pieces.{Plan, Going, going_start, going_within, going_room, going_fits, going_next, going_end, going_ext, stored, stored_past}
use Rattle.flows.proofs.FlowBytes.{flow-length}
use Rattle.flows.proofs.FlowPlace.{partner-fits}
use Rattle.flows.proofs.FlowStep.{few-contract, room-enough}

-- the flow of the transition k of s
abbrev pub flow-at : (M N : Table) (listed s t : ℕ) (xs : ℕ → Amounts) → ℕ → List ℕ
flow-at M N listed s t xs k = one_flow (named_place listed (place_of M N s t k)) (transition M s k) (partner M N s t k) (xs k)

abbrev pub head_at : Table → ℕ → List ℕ
head_at M s = length (steps M s) ∷ []

-- the flows of the first k transitions are written, with amounts that are right
pub record Flowing (M N : Table) (listed s t : ℕ) (old : List ℕ) (k at : ℕ) (now : List ℕ) : Type 0 where
  pub amounts : ℕ → Amounts
  pub right : (l : ℕ) → l < k → SharesIn (kept_relation M N) (transition M s l) (partner M N s t l) (amounts l)
  pub going : Going (head_at M s) (flow-at M N listed s t amounts) (length (steps M s)) old k at now

-- amounts for one transition more
with_amounts : (ℕ → Amounts) → ℕ → Amounts → ℕ → Amounts
with_amounts xs k x l = cond (eqb l k) x (xs l)

with_same : (xs : ℕ → Amounts) (k : ℕ) (x : Amounts) → with_amounts xs k x k ≡ x
unfolding with_amounts
with_same xs k x = ap (λ b. cond b x (xs k)) (eq-eqb k k refl)

with_other : (xs : ℕ → Amounts) (k : ℕ) (x : Amounts) (l : ℕ) → (l ≡ k → ⊥) → with_amounts xs k x l ≡ xs l
unfolding with_amounts
with_other xs k x l d = ap (λ b. cond b x (xs l)) (ne_eqb l k d)

-- a kept pair of two tables, and where the transitions of s start
pub record Pair (tables : Tables) (rows x : List ℕ) (s t start : ℕ) : Type 0 where
  pub chosen : KeptPair tables rows x s t
  pub from : start ≡ start_of (first_form tables) s

module _ {tables : Tables} {rows x : List ℕ} {s t start : ℕ} (p : Pair tables rows x s t start) where
  abbrev q : KeptPair tables rows x s t
  q = p.chosen

  abbrev f : List ℕ
  f = first_form tables

  abbrev M : Table
  M = first_table tables

  abbrev N : Table
  N = contract_table tables

  -- how many states the second table has, and with it the contract
  abbrev width : ℕ
  width = states_of (second_table tables)

  abbrev listed : ℕ
  listed = listed_steps tables t

  abbrev n : ℕ
  n = length (steps M s)

  -- the count of the transitions of s, and their numbers
  pub count-is : {end : ℕ} → end ≡ start_of f (s + 1) → end - start ≡ n
  count-is e = omega (arith, counts f q.loaded.first s q.first, p.from)

  pub count-ordered : {end : ℕ} → end ≡ start_of f (s + 1) → start ≤ end
  count-ordered e = omega (arith, counts f q.loaded.first s q.first, p.from)

  pub count-few : n ≤ most_of_state
  count-few = omega (arith, q.loaded.first.valid.few_each s q.first)

  number-below : (k : ℕ) → k < n → start + k < transitions_of f
  number-below k lt = omega (arith, transition-number f q.loaded.first s k q.first lt, p.from)

  pub number_fits : (k : ℕ) → k < n → start + k < most_transitions
  number_fits k lt = omega (arith, number-below k lt, (limits f q.loaded.first).transitions-few)

  step_is : (k : ℕ) → k < n → transition_at f (start + k) ≡ transition M s k
  step_is k lt = ap (λ (i : ℕ). transition_at f (i + k)) p.from ∙ transition_of f q.loaded.first s k q.first lt

  state : t < states_of N
  state = omega (arith, contract-states tables, q.second)

  -- each transition fits some transition of t
  pub step-answered : (y : List ℕ) (k : ℕ) → k < n → length y ≡ length x → Answered tables rows y (start + k) t
  step-answered y k lt e =
      let r = partner-fits M N s t q.first state q.kept k lt in
      let some = any_of_by (fits_step (kept_relation M N) (transition M s k)) no_transition (steps N t) (place_of M N s t k) r.0 r.1 in
      record {
        loaded = q.loaded;
        rows_room = q.rows_room;
        amounts_room = omega (arith, q.amounts_room);
        from_first = number-below k lt;
        state = q.second;
        some = is_true _ (subst₂ (λ (R : Relation) (m : Transition). T (any_of (fits_step R m) (steps N t))) (sym q.rows_kept) (sym (step_is k lt)) some);
      }

  -- the flow of a transition has room
  pub most : (xs : ℕ → Amounts) (k : ℕ) → k < n → length (flow-at M N listed s t xs k) ≤ step_room width (length (transition M s k).entries)
  most xs k lt =
      let r = partner-fits M N s t q.first state q.kept k lt in
      omega (
        arith,
        flow-length (named_place listed (place_of M N s t k)) (targets (transition M s k)) (targets (partner M N s t k)) (xs k),
        room-enough (transition M s k) (partner M N s t k) (few-contract q.loaded t (place_of M N s t k) r.0),
      )

  pub flow_plan : (xs : ℕ → Amounts) (old : List ℕ) → flow_room M (second_table tables) s ≤ length old
      → Plan (head_at M s) (flow-at M N listed s t xs) (λ k. step_room width (length (transition M s k).entries)) n old
  unfolding room_for
  flow_plan xs old room = record { room = room; most = most xs }

  module _ (old : List ℕ) (room : flow_room M (second_table tables) s ≤ length old) where
    flowing_start : Filled (head_at M s) 1 old old → Flowing M N listed s t old 0 1 old
    flowing_start w = record { amounts = λ k i j. 0; right = λ l lt. absurd (not-suc-le-zero lt); going = going_start (flow_plan (λ k i j. 0) old room) w }

    module _ {k at : ℕ} {now : List ℕ} (w : Flowing M N listed s t old k at now) where
      pub flowing_within : at ≤ length now
      flowing_within = going_within (flow_plan w.amounts old room) w.going

      module _ (lt : k < n) where
        pub flowing_room : step_room width (length (transition_at f (start + k)).entries) ≤ length (part-from at now)
        flowing_room = subst (λ (m : Transition). step_room width (length m.entries) ≤ length (part-from at now)) (sym (step_is k lt)) (going_room (flow_plan w.amounts old room) w.going lt)

        module _ {r : ℕ} {y ys : List ℕ} (d : Shown M N listed (first_step tables (start + k)) t r y (part-from at now) ys) where
          shown : Shown M N listed (transition M s k) t r y (part-from at now) ys
          shown = subst (λ m. Shown M N listed m t r y (part-from at now) ys) (step_is k lt) d

          abbrev more : ℕ → Amounts
          more = with_amounts w.amounts k (cell y)

          pub flowing_fits : at + r ≤ length old
          flowing_fits =
              omega (arith, going_fits (flow_plan w.amounts old room) w.going lt, shown.filled.count, most (λ _. cell y) k lt)

          pub flowing_next : Flowing M N listed s t old (k + 1) (at + r) (back at now ys)
          flowing_next = record {
            amounts = more;
            right = λ l lt. at_place l lt (ℕ_discrete l k);
            going =
                going_next (flow_plan more old room)
                (going_ext (flow-at M N listed s t more) (λ l lt. ap (λ z. one_flow (named_place listed (place_of M N s t l)) (transition M s l) (partner M N s t l) z)
                (sym (with_other w.amounts k (cell y) l (λ e. omega arith)))) w.going)
                lt
                (subst (λ z. Filled (one_flow (named_place listed (place_of M N s t k)) (transition M s k) (partner M N s t k) z) r (part-from at now) ys)
                (sym (with_same w.amounts k (cell y))) shown.filled);
          }
            where
              at_place : (l : ℕ) → l < k + 1 → Dec (l ≡ k) → SharesIn (kept_relation M N) (transition M s l) (partner M N s t l) (more l)
              at_place l lt (yes e) =
                  subst (λ (i : ℕ). SharesIn (kept_relation M N) (transition M s i) (partner M N s t i) (more i)) (sym e)
                  (subst (λ z. SharesIn (kept_relation M N) (transition M s k) (partner M N s t k) z) (sym (with_same w.amounts k (cell y))) shown.shares)
              at_place l lt (no e) =
                  subst (λ z. SharesIn (kept_relation M N) (transition M s l) (partner M N s t l) z) (sym (with_other w.amounts k (cell y) l e)) (w.right l (omega arith))

  -- the first byte is the count
  module _ (old : List ℕ) (room : flow_room M (second_table tables) s ≤ length old) {v : ℕ} (e : v ≡ n) where
    pub room-kept : flow_room M (second_table tables) s ≤ length (set old 0 v)
    room-kept = subst (λ (z : ℕ). flow_room M (second_table tables) s ≤ z) (sym (length-set old 0 v)) room

    pub room-some : 0 < length old
    unfolding room_for
    room-some = omega (arith, room)

    pub flowing_begin : Flowing M N listed s t (set old 0 v) 0 1 (set old 0 v)
    flowing_begin = flowing_start (set old 0 v) room-kept (subst (λ (z : ℕ). Filled (z ∷ []) 1 (set old 0 v) (set old 0 v)) e (stored v old room-some))

    pub flowing_end : {k at : ℕ} {now : List ℕ} → Flowing M N listed s t (set old 0 v) k at now → n ≤ k → Flowed M N listed s t at old now
    unfolding Right flow_bytes
    flowing_end {k} {at} {now} w le = record {
      amounts = w.amounts;
      right = λ l lt. w.right l (omega arith);
      filled =
          stored_past n at _ old now
          (subst (λ (z : ℕ). Filled (flow_bytes M N listed s t w.amounts) at (set old 0 z) now) e (going_end (flow_plan w.amounts (set old 0 v) room-kept) w.going le));
    }
