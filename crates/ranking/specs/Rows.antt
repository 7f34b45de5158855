-- What the ranks start from, and what a call fills in.
-- Assumes nothing.
use Rattle.form.specs.declared.tables.Tables.{Tables}
use Rattle.std.specs.Prelude.{◌≡◌, true, List, ℕ, ◌≤◌, ◌<◌, length, get_or}
use Rattle.simulation.specs.Limits.{most_pairs, most_states}
use Rattle.simulation.specs.Round.{pairs, round, rank_list, maximum, zeros}
use Rattle.buffer.specs.Buffer.{over}
use Rattle.relation.specs.Rows.{height}
use Rattle.relation.specs.Related.{holds}
use Rattle.form.specs.Tables.{first_table, contract_table, BothLoaded}
use Rattle.decision.specs.Fitting.{relation_of}

-- zeros in the first n places, the others as they were
pub record Zeroed (n : ℕ) (l l' : List ℕ) : Type 0 where
  pub zero_at : (i : ℕ) → i < n → get_or l' i 0 ≡ 0
  pub left : (i : ℕ) → n ≤ i → get_or l' i 0 ≡ get_or l i 0

-- every row has every member
pub record Open (rows : List ℕ) : Type 0 where
  pub room : most_states ≤ height rows
  pub all : (s t : ℕ) → s < most_states → t < most_states → holds rows s t ≡ true

-- what a ranking starts from: two tables, a rank for each pair, all pairs in the rows, room for a flow
pub record Ranking (tables : Tables) (ranks rows amounts : List ℕ) : Type 0 where
  pub loaded : BothLoaded tables
  pub ranks_room : pairs (first_table tables) (contract_table tables) ≤ length ranks
  pub rows_open : Open rows
  pub amounts_room : most_pairs ≤ length amounts

-- what a call fills in and reports: the ranks in their order over the start of the list, the kept pairs in the rows, the count of rounds, the count of kept pairs
pub record RanksFilled (tables : Tables) (old new rows : List ℕ) (rounds kept : ℕ) : Type 0 where
  pub ranks_are : new ≡ over (rank_list (first_table tables) (contract_table tables)) old
  pub rows_are : relation_of tables rows ≡ round (first_table tables) (contract_table tables) (pairs (first_table tables) (contract_table tables))
  pub rounds_are : rounds ≡ maximum (rank_list (first_table tables) (contract_table tables))
  pub kept_are : kept ≡ zeros (rank_list (first_table tables) (contract_table tables))
