-- The decoded form of a table: where its parts lie in a list of numbers, the table that they stand for, and what holds of a form that was loaded.
-- Assumes nothing.
use Rattle.std.specs.Prelude.{◌≡◌, List, ℕ, ◌+◌, ◌-◌, ◌≤◌, ◌<◌, length, get_or}
use Rattle.simulation.specs.Sum.{sum, below}
use Rattle.simulation.specs.Table.{Entry, Transition, Table}
use Rattle.simulation.specs.Limits.{wide, most_codes, most_states, most_transitions, most_entries}
use Rattle.form.specs.Valid.{Valid, AllPositive}

-- where each part begins: the count of states, the count of listed codes, the starts of the states' transitions, how many entries each transition lists,
-- the codes of the transitions, the starts of the transitions' entries, targets and weights of the entries, the listed codes
abbrev pub states_from : ℕ
states_from = 0

abbrev pub actions_from : ℕ
actions_from = 1

abbrev pub starts_from : ℕ
starts_from = 2

abbrev pub entries_listed_from : ℕ
entries_listed_from = starts_from + most_states + 1

abbrev pub codes_from : ℕ
codes_from = entries_listed_from + most_transitions

abbrev pub entry_starts_from : ℕ
entry_starts_from = codes_from + most_transitions

abbrev pub targets_from : ℕ
targets_from = entry_starts_from + most_transitions + 1

abbrev pub weights_from : ℕ
weights_from = targets_from + most_entries

abbrev pub listed_from : ℕ
listed_from = weights_from + most_entries

-- how many numbers a form has
abbrev pub form_size : ℕ
form_size = listed_from + most_codes

module _ (f : List ℕ) where
  -- the number at a place
  abbrev pub at : ℕ → ℕ
  at i = get_or f i 0

  unfoldable pub count_of : ℕ
  count_of = at states_from

  -- the first transition of a state, over all transitions
  unfoldable pub start_of : ℕ → ℕ
  start_of s = at (starts_from + s)

  unfoldable pub transitions_of : ℕ
  unfolding count_of start_of
  transitions_of = start_of count_of

  -- how many entries a transition lists in its bytes, those of weight 0 with them, which the form leaves out
  unfoldable pub entries_listed : ℕ → ℕ
  entries_listed j = at (entries_listed_from + j)

  -- the first entry of a transition, over all entries
  unfoldable pub entry_start : ℕ → ℕ
  entry_start j = at (entry_starts_from + j)

  abbrev pub size_of : ℕ → ℕ
  size_of j = entry_start (j + 1) - entry_start j

  -- what the column that begins at a place holds of the transition j
  abbrev pub column_of : (column j : ℕ) → List ℕ
  column_of column j = below (entry_start j) (size_of j) (λ e. at (column + e))

  abbrev pub entry_at : ℕ → Entry
  entry_at e = record { target = at (targets_from + e); weight = at (weights_from + e) }

  -- the transition numbered j over all transitions
  unfoldable pub transition_at : ℕ → Transition
  unfolding entry_start below
  transition_at j = record { code = at (codes_from + j); entries = below (entry_start j) (size_of j) entry_at }

  unfoldable pub table_of : Table
  unfolding count_of start_of transition_at below
  table_of =
      record {
        codes = below 0 (at actions_from) (λ i. at (listed_from + i));
        states = below 0 count_of (λ s. below (start_of s) (start_of (s + 1) - start_of s) transition_at);
      }

-- a form that holds a valid table without entries of weight 0: its states' transitions lie one after the other, and so do its transitions' entries;
-- a transition lists at least the entries that it has, and the lists together are within the limit
pub record Loaded (f : List ℕ) : Type 0 where
  pub room : form_size ≤ length f
  pub from_zero : start_of f 0 ≡ 0
  pub ordered : (s : ℕ) → s < count_of f → start_of f s ≤ start_of f (s + 1)
  pub few_transitions : transitions_of f ≤ most_transitions
  pub entries_ordered : (j : ℕ) → j < transitions_of f → entry_start f j ≤ entry_start f (j + 1)
  pub few_entries : entry_start f (transitions_of f) ≤ most_entries
  pub valid : Valid wide (table_of f)
  pub positive : AllPositive (table_of f)
  pub listed_enough : (j : ℕ) → j < transitions_of f → size_of f j ≤ entries_listed f j
  pub few_listed : sum (transitions_of f) (entries_listed f) ≤ most_entries

-- the entries of the transition j lie within the column that begins at a place
pub record Span (f : List ℕ) (column j : ℕ) : Type 0 where
  pub near : j < most_transitions
  pub room : form_size ≤ length f
  pub ordered : entry_start f j ≤ entry_start f (j + 1)
  pub within : column + entry_start f (j + 1) ≤ length f
