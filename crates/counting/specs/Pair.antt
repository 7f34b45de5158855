-- A pair of states by its number.
-- Assumes nothing.
use Rattle.form.specs.declared.tables.Tables.{Tables}
use Rattle.std.specs.Prelude.{List, ℕ, ◌+◌, ◌*◌, ◌/◌, ◌%◌}
use Rattle.simulation.specs.Table.{states_of}
use Rattle.form.specs.Tables.{contract_table}

module _ (tables : Tables) where
  -- a pair's number, and the pair of a number
  abbrev pub number : ℕ → ℕ → ℕ
  number s t = s * states_of (contract_table tables) + t

  abbrev pub row : ℕ → ℕ
  row p = p / states_of (contract_table tables)

  abbrev pub column : ℕ → ℕ
  column p = p % states_of (contract_table tables)
