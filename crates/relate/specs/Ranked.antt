-- Two loaded tables with the ranks of all pairs.
-- Assumes nothing.
use Rattle.form.specs.declared.tables.Tables.{Tables}
use Rattle.std.specs.Prelude.{◌≡◌, List, ℕ, ◌+◌, ◌*◌, ◌≤◌, ◌<◌, length, get_or}
use Rattle.simulation.specs.Table.{states_of}
use Rattle.simulation.specs.Round.{pairs, rank}
use Rattle.form.specs.Tables.{first_table, contract_table, BothLoaded}

pub record RanksRight (tables : Tables) (ranks : List ℕ) : Type 0 where
  pub loaded : BothLoaded tables
  pub enough : pairs (first_table tables) (contract_table tables) ≤ length ranks
  pub ranked : (s t : ℕ) → s < states_of (first_table tables) → t < states_of (contract_table tables)
      → get_or ranks (s * states_of (contract_table tables) + t) 0 ≡ rank (first_table tables) (contract_table tables) s t
