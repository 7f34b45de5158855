-- Both tables in their decoded forms.
-- Assumes nothing.
use Rattle.std.specs.Prelude.{List, ℕ, length}
use Rattle.simulation.specs.Table.{Transition, Table, steps}
use Rattle.simulation.specs.Complete.{contract_for}
use Rattle.form.specs.declared.tables.Tables.{Tables}
use Rattle.form.specs.Form.{transition_at, table_of, Loaded}

abbrev pub first_form : Tables → List ℕ
first_form tables = tables.first.numbers.now

abbrev pub second_form : Tables → List ℕ
second_form tables = tables.second.numbers.now

abbrev pub first_table : Tables → Table
first_table tables = table_of (first_form tables)

abbrev pub second_table : Tables → Table
second_table tables = table_of (second_form tables)

-- what the first table is judged against: the second, completed for the codes of the first
abbrev pub contract_table : Tables → Table
contract_table tables = contract_for (first_table tables) (second_table tables)

-- how many transitions the second table lists for the state t: in the contract they stand before those that are added
abbrev pub listed_steps : (tables : Tables) (t : ℕ) → ℕ
listed_steps tables t = length (steps (second_table tables) t)

-- the transition numbered j over all transitions of the first table, and of the second
abbrev pub first_step : Tables → ℕ → Transition
first_step tables j = transition_at (first_form tables) j

abbrev pub second_step : Tables → ℕ → Transition
second_step tables l = transition_at (second_form tables) l

pub record BothLoaded (tables : Tables) : Type 0 where
  pub first : Loaded (first_form tables)
  pub second : Loaded (second_form tables)
