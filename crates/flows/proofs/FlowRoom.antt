-- The room asked for a flow: how it is summed up, that it is within the limit, and that the flow is within it.
-- Assumes nothing.
use Rattle.form.specs.declared.tables.Tables.{Tables}
use mathlib.Core.Path.{◌≡◌, refl, ap}
use mathlib.Core.List.{List}
use Prim.Native.Nat.{ℕ, zero, suc, ◌+◌, ◌*◌, ◌≤◌, ◌<◌}
use native.Mathlib.Nat.{mul-le-mul, mul-le-mul_left, mul-le-mul_right}
use native.Mathlib.Omega.{arith}
use lib.ListN.{length}
use Rattle.simulation.specs.Sum.{sum}
use Rattle.simulation.specs.Fit.{Amounts}
use Rattle.simulation.specs.Table.{Table, states_of, steps, transition}
use Rattle.simulation.proofs.Finite.Sums.{sum_mono, sum-none, sum_more, sum_le}
use Rattle.simulation.specs.Limits.{most_states, most_of_state, most_entries}
use Rattle.form.specs.Items.{all_entries}
use Rattle.form.specs.Form.{start_of}
use Rattle.form.specs.Tables.{first_form, first_table, second_table, contract_table, listed_steps}
use Rattle.form.proofs.Items.{entries-most}
use Rattle.flows.specs.Flow.{step_room, room_for, most_flow, flow_bytes, flow_room}
use Rattle.flows.specs.FlowSteps.{KeptPair}
use Rattle.flows.proofs.Pieces.{pieces-length}
use Rattle.flows.proofs.FlowWhole.{flow-at, Pair, most}

-- the room for n transitions, of which the transition k has e k entries, over a table of q states
module _ (q : ℕ) (e : ℕ → ℕ) where
  -- the first byte alone
  pub room-none : 1 ≡ room_for q 0 e
  unfolding room_for
  room-none = ap suc (sum-none (λ k. step_room q (e k)))

  pub room-more : (n : ℕ) {r : ℕ} → r ≡ room_for q n e → r + step_room q (e n) ≡ room_for q (n + 1) e
  unfolding room_for
  room-more n h = omega (arith, sum_more n (λ k. step_room q (e k)) refl)

  pub room_next : (i n : ℕ) → i < n → room_for q i e + step_room q (e i) ≤ room_for q n e
  unfolding room_for
  room_next i n h = omega (arith, sum_le i n (λ k. step_room q (e k)) h)

  pub room_mono : (n : ℕ) (d : ℕ → ℕ) → ((k : ℕ) → k < n → d k ≤ e k) → room_for q n d ≤ room_for q n e
  unfolding room_for
  room_mono n d h =
      omega (arith, sum_mono n (λ k. step_room q (d k)) (λ k. step_room q (e k)) (λ k l. omega (arith, mul-le-mul_right q (mul-le-mul_left 6 (h k l)))))

  together : (n : ℕ) → sum n (λ k. step_room q (e k)) ≡ 3 * n + 6 * sum n e * q
  unfolding sum
  together zero = omega arith
  together (suc n) = omega (arith, together n)

  pub room_bound : (n : ℕ) → n ≤ most_of_state → sum n e ≤ most_entries → q ≤ most_states → room_for q n e ≤ most_flow
  unfolding room_for
  room_bound n a b c =
      let few : 6 * sum n e ≤ 6 * most_entries = omega arith in
      omega (arith, together n, mul-le-mul few c)

pub room_most : (M N : Table) (s : ℕ) → length (steps M s) ≤ most_of_state → length (all_entries M) ≤ most_entries → states_of N ≤ most_states
    → flow_room M N s ≤ most_flow
room_most M N s a b c = room_bound (states_of N) (λ k. length (transition M s k).entries) (length (steps M s)) a (omega (arith, entries-most M s)) c

pub flow-within : {tables : Tables} {rows x : List ℕ} {s t : ℕ} → KeptPair tables rows x s t → (xs : ℕ → Amounts)
    → length (flow_bytes (first_table tables) (contract_table tables) (listed_steps tables t) s t xs) ≤ flow_room (first_table tables) (second_table tables) s
unfolding flow_bytes room_for
flow-within {tables} {rows} {x} {s} {t} q xs =
    let p : Pair tables rows x s t (start_of (first_form tables) s) = record { chosen = q; from = refl } in
    let M = first_table tables in
    let n = length (steps M s) in
    let one = flow-at M (contract_table tables) (listed_steps tables t) s t xs in
    omega (arith, pieces-length one n, sum_mono n (λ k. length (one k)) (λ k. step_room (states_of (second_table tables)) (length (transition M s k).entries)) (most p xs))
