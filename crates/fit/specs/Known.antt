-- What is lent, what is known from earlier questions, and what is answered.
-- Assumes nothing.
use Rattle.form.specs.declared.tables.Tables.{Tables}
use Rattle.std.specs.Prelude.{◌≡◌, Bool, true, false, List, ℕ, ◌+◌, ◌*◌, ◌≤◌, ◌<◌, length, get_or}
use Rattle.simulation.specs.Limits.{most_pairs, most_states, most_transitions}
use Rattle.word.specs.Mask.{member}
use Rattle.relation.specs.Rows.{row_of, height}
use Rattle.form.specs.Form.{start_of, transitions_of, transition_at}
use Rattle.form.specs.Tables.{first_form, second_form, second_table, BothLoaded}
use Rattle.simulation.specs.Table.{targets, states_of}
use Rattle.fit.specs.Held.{fits_step_at, fits_listed}

-- place l has the set of the targets of the transition l
pub record TargetSets (g sets : List ℕ) : Type 0 where
  pub room : most_transitions ≤ height sets
  pub has : (l i : ℕ) → l < transitions_of g → i < length (targets (transition_at g l)) → member (row_of sets l) (get_or (targets (transition_at g l)) i 0) ≡ true
  pub only : (l u : ℕ) → l < transitions_of g → member (row_of sets l) u ≡ true → (i : ℕ) × (i < length (targets (transition_at g l))) × (get_or (targets (transition_at g l)) i 0 ≡ u)

-- two tables, the target sets of the second, a row for each state, and room for a flow
pub record Lent (tables : Tables) (sets rows amounts : List ℕ) : Type 0 where
  pub loaded : BothLoaded tables
  pub target_sets : TargetSets (second_form tables) sets
  pub rows_room : most_states ≤ height rows
  pub amounts_room : most_pairs ≤ length amounts

-- the byte at (j + 1) * most-states + t counts the first transitions of the state t that the transition j is known not to fit in the relation
-- of the rows; the bytes before, one for each state, are guesses, of which nothing is known
pub record Tried (tables : Tables) (rows tried : List ℕ) : Type 0 where
  pub room : (transitions_of (first_form tables) + 1) * most_states ≤ length tried
  pub passed : (j t l : ℕ) → j < transitions_of (first_form tables) → t < states_of (second_table tables) → l < get_or tried ((j + 1) * most_states + t) 0
      → start_of (second_form tables) t + l < start_of (second_form tables) (t + 1) → fits_step_at tables rows j (start_of (second_form tables) t + l) ≡ false

-- r says whether transition j fits some listed transition of t, and what has been tried by then is known
pub record SomeFits (tables : Tables) (rows : List ℕ) (j t : ℕ) (tried : List ℕ) (r : Bool) : Type 0 where
  pub answer : r ≡ fits_listed tables rows j t
  pub known : Tried tables rows tried
