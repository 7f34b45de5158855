-- The parts of the table in accepted bytes, by their places.
-- Assumes nothing.
use mathlib.Core.Path.{◌≡◌, refl, sym, ◌∙◌, ap}
use mathlib.Core.List.{List, []}
use Prim.Native.Nat.{ℕ, ◌+◌, ◌*◌, ◌≤◌, ◌<◌}
use native.Mathlib.Nat.{zero-add}
use native.Mathlib.Omega.{arith}
use lib.ListN.{length, get_or, length-map, get_or-map}
use Rattle.simulation.specs.Sum.{below, sum}
use Rattle.simulation.specs.Fit.{total, weight}
use Rattle.simulation.specs.Table.{Entry, Transition, weights, target_at, states_of, steps, no_transition, transition}
use Rattle.simulation.proofs.Finite.Lists.{below_length}
use Rattle.layout.specs.Bytes.{byte, half, actions, code, states, count, transitions, label, size, state_start, start, entries_start, entries, decoded_entry, entry_target, entry_weight, weight_from, total_from, decoded_transition, table, refusal}
use Rattle.form.proofs.Lists.{getD_below}
use Rattle.simulation.proofs.Finite.Sums.{sum_ext, sum_le}
use Rattle.layout.proofs.Bounds.{accepted_bounds}

abbrev pub no-entry : Entry
no-entry = record { target = 0; weight = 0 }

module _ (w : ℕ) (s : List ℕ) where
  -- section 1
  pub code-count : length (table w s).codes ≡ actions w s
  unfolding table
  code-count = below_length (code w s) 0 (actions w s)

  pub code_is : (i : ℕ) → i < actions w s → get_or (table w s).codes i 0 ≡ code w s i
  unfolding table
  code_is i l = getD_below 0 (actions w s) i (code w s) 0 l ∙ ap (code w s) (zero-add i)

  -- section 2
  abbrev pub steps-from : ℕ → List Transition
  steps-from q = below (state_start w s q) (count w s q) (decoded_transition w s)

  pub states_are : (table w s).states ≡ below 0 (states w s) steps-from
  unfolding table
  states_are = refl

  pub state_count : states_of (table w s) ≡ states w s
  state_count = ap length states_are ∙ below_length steps-from 0 (states w s)

  pub steps-are : (q : ℕ) → q < states w s → steps (table w s) q ≡ below (state_start w s q) (count w s q) (decoded_transition w s)
  steps-are q l = ap (λ (ls : List (List Transition)). get_or ls q []) states_are ∙ getD_below 0 (states w s) q steps-from [] l ∙ ap steps-from (zero-add q)

  pub step_count : (q : ℕ) → q < states w s → length (steps (table w s) q) ≡ count w s q
  step_count q l = ap length (steps-are q l) ∙ below_length (decoded_transition w s) (state_start w s q) (count w s q)

  -- section 3: the transition k of the state q is the one numbered state-start q + k
  pub transition-is : (q k : ℕ) → q < states w s → k < count w s q → transition (table w s) q k ≡ decoded_transition w s (state_start w s q + k)
  transition-is q k l m =
      ap (λ (ms : List Transition). get_or ms k no_transition) (steps-are q l)
      ∙ getD_below (state_start w s q) (count w s q) k (decoded_transition w s) no_transition m

  pub label_is : (j : ℕ) → (decoded_transition w s j).code ≡ label w s j
  unfolding decoded_transition
  label_is j = refl

  pub number-below : (q k : ℕ) → refusal w s ≡ 0 → q < states w s → k < count w s q → state_start w s q + k < transitions w s
  number-below q k e l m = let more = sum_le q (states w s) (count w s) l in let b = (accepted_bounds w s e).of_transitions.counted in omega arith

  -- section 4: the entry i of the transition j is the one numbered start j + i
  pub entry-count : (j : ℕ) → length (decoded_transition w s j).entries ≡ size w s j
  unfolding decoded_transition
  entry-count j = below_length (decoded_entry w s) (start w s j) (size w s j)

  pub entry-is : (j i : ℕ) → i < size w s j → get_or (decoded_transition w s j).entries i no-entry ≡ decoded_entry w s (start w s j + i)
  unfolding decoded_transition
  entry-is j i l = getD_below (start w s j) (size w s j) i (decoded_entry w s) no-entry l

  pub target_is : (j i : ℕ) → i < size w s j → target_at (decoded_transition w s j) i ≡ entry_target w s (start w s j + i)
  target_is j i l = get_or-map (λ (x : Entry). x.target) (decoded_transition w s j).entries i no-entry ∙ ap (λ (x : Entry). x.target) (entry-is j i l)

  pub weight_is : (j i : ℕ) → i < size w s j → weight (weights (decoded_transition w s j)) i ≡ entry_weight w s (start w s j + i)
  weight_is j i l = get_or-map (λ (x : Entry). x.weight) (decoded_transition w s j).entries i no-entry ∙ ap (λ (x : Entry). x.weight) (entry-is j i l)

  pub run-within : (j : ℕ) → refusal w s ≡ 0 → j < transitions w s → start w s j + size w s j ≤ entries w s
  run-within j e l = let more = sum_le j (transitions w s) (size w s) l in let b = (accepted_bounds w s e).of_entries.counted in omega arith

  -- where the entries of the transition j begin
  abbrev pub entries_from : ℕ → ℕ
  entries_from j = entries_start w s + 2 + 3 * start w s j

  pub target_at-place : (j k : ℕ) → byte s (entries_from j + 3 * k) ≡ entry_target w s (start w s j + k)
  target_at-place j k = let q : entries_from j + 3 * k ≡ entries_start w s + 2 + 3 * (start w s j + k) = omega arith in ap (byte s) q

  pub weight-at-place : (j k : ℕ) → weight_from s (entries_from j) k ≡ entry_weight w s (start w s j + k)
  weight-at-place j k = let q : entries_from j + 3 * k ≡ entries_start w s + 2 + 3 * (start w s j + k) = omega arith in ap (λ (p : ℕ). half s (p + 1)) q

  pub total-is : (j : ℕ) → total (weights (decoded_transition w s j)) ≡ total_from s (entries_from j) (size w s j)
  unfolding total
  total-is j =
      let m = decoded_transition w s j in
      ap (λ (n : ℕ). sum n (weight (weights m))) (length-map m.entries (λ (x : Entry). x.weight) ∙ entry-count j)
      ∙ sum_ext (size w s j) (weight (weights m)) (weight_from s (entries_from j)) (λ i l. weight_is j i l ∙ sym (weight-at-place j i))
