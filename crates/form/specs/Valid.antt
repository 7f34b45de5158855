-- What 01 asks of a table.
-- Assumes nothing.
use Rattle.std.specs.Prelude.{◌≡◌, List, ℕ, ◌+◌, ◌^◌, ◌≤◌, ◌<◌, length, get_or}
use Rattle.simulation.specs.Fit.{Positive, total}
use Rattle.simulation.specs.Table.{Transition, Table, weights, target_at, states_of, steps, transition}
use Rattle.form.specs.Items.{all_transitions, all_entries}
use Rattle.simulation.specs.Limits.{most_codes, most_states, most_transitions, most_of_state, most_entries, most_total}

-- action codes of w bytes: few, and their count takes w bytes too; strictly ascending
pub record Codes (w : ℕ) (codes : List ℕ) : Type 0 where
  pub few : length codes ≤ most_codes
  pub counted : length codes < 256 ^ w
  pub small : (i : ℕ) → i < length codes → get_or codes i 0 < 256 ^ w
  pub ascending : (i : ℕ) → i + 1 < length codes → get_or codes i 0 < get_or codes (i + 1) 0

-- a code of the list
abbrev pub Listed : List ℕ → ℕ → Type 0
Listed codes c = (i : ℕ) × (i < length codes) × (get_or codes i 0 ≡ c)

-- targets that are states of some table
abbrev pub AreStates : List ℕ → Type 0
AreStates ts = (j : ℕ) → j < length ts → get_or ts j 0 < most_states

-- a transition into n states: some entries, targets below n that ascend strictly, a total that is not 0 and within the limit
pub record Distribution (n : ℕ) (m : Transition) : Type 0 where
  pub some : 0 < length m.entries
  pub in_range : (i : ℕ) → i < length m.entries → target_at m i < n
  pub ascending : (i : ℕ) → i + 1 < length m.entries → target_at m i < target_at m (i + 1)
  pub counted : 0 < total (weights m)
  pub small : total (weights m) ≤ most_total

-- states, transitions and entries, but for what follows from a byte's size: of accepted numbers this holds even if they are not bytes
pub record Shaped (M : Table) : Type 0 where
  pub some : 0 < states_of M
  pub few_states : states_of M ≤ most_states
  pub few_transitions : length (all_transitions M) ≤ most_transitions
  pub few_entries : length (all_entries M) ≤ most_entries
  pub listed : (s k : ℕ) → s < states_of M → k < length (steps M s) → Listed M.codes (transition M s k).code
  pub distribution : (s k : ℕ) → s < states_of M → k < length (steps M s) → Distribution (states_of M) (transition M s k)

-- a table whose codes take w bytes
pub record Valid (w : ℕ) (M : Table) : Type 0 where
  pub codes : Codes w M.codes
  pub shape : Shaped M
  pub few_each : (s : ℕ) → s < states_of M → length (steps M s) ≤ most_of_state

-- no entry has the weight 0
abbrev pub AllPositive : Table → Type 0
AllPositive M = (s k : ℕ) → k < length (steps M s) → Positive (weights (transition M s k))
