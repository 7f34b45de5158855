-- What the rounds work with, and what is known of it before, between and after them.
-- Assumes nothing.
use Rattle.std.specs.Prelude.{◌≡◌, false, List, ℕ, ◌+◌, ◌*◌, ◌≤◌, ◌<◌, eqb, length, get_or}
use Rattle.simulation.specs.Limits.{most_pairs, most_states}
use Rattle.simulation.specs.Table.{Table, states_of}
use Rattle.simulation.specs.Round.{rank, rank_list, maximum, pairs}
use Rattle.relation.specs.Rows.{height}
use Rattle.relation.specs.Related.{holds}
use Rattle.form.specs.Tables.{first_table, contract_table, BothLoaded}
use Rattle.decision.specs.Fitting.{held}
use Rattle.fit.specs.Known.{Tried}
use Rattle.links.specs.Links.{Empty, SetsKnown, SameMarks}
use Rattle.dropping.specs.Falling.{Fallen}
use Rattle.rounds.specs.Rounds.{After}
use Rattle.rounds.specs.declared.Work.{Work}

-- between round k and the next, with the pairs that fall next
pub record Standing (M N : Table) (k : ℕ) (rows ranks lost : List ℕ) (fell : ℕ) : Type 0 where
  pub after : After M N k rows ranks
  pub next : Fallen M N (held M N rows) lost fell

-- two tables, a rank for each pair, the sets that are known, and room
pub record Prepared (W : Work) : Type 0 where
  pub loaded : BothLoaded W.tables.now
  pub ranks_room : pairs (first_table W.tables.now) (contract_table W.tables.now) ≤ length W.ranks.now
  pub sets_known : SetsKnown W.tables.now W.sets.now.before.now W.sets.now.behind.now W.sets.now.targets.now
  pub rows_room : most_states ≤ height W.rows.now
  pub amounts_room : most_pairs ≤ length W.amounts.now
  pub known : Tried W.tables.now W.rows.now W.tried.now

-- what the rounds start from: all pairs are left, none is lost, no rank is shown
pub record Starting (W : Work) : Type 0 where
  pub prepared : Prepared W
  pub after : After (first_table W.tables.now) (contract_table W.tables.now) 0 W.rows.now W.ranks.now
  pub none_lost : Empty W.marks.now.lost.now

-- between round k and the next, with all that they need
pub record Turning (W : Work) (k fell : ℕ) : Type 0 where
  pub prepared : Prepared W
  pub standing : Standing (first_table W.tables.now) (contract_table W.tables.now) k W.rows.now W.ranks.now W.marks.now.lost.now fell

-- the same tables, sets, ranks, rows and marks are at work, though other ranks and pairs may stand in them
pub record Kept (W W' : Work) : Type 0 where
  pub tables : W'.tables ≡ W.tables
  pub sets : W'.sets ≡ W.sets
  pub ranks : W'.ranks.ghost_name ≡ W.ranks.ghost_name
  pub rows : W'.rows.ghost_name ≡ W.rows.ghost_name
  pub marks : W'.marks.ghost_name ≡ W.marks.ghost_name
  pub same_marks : SameMarks W.marks.now W'.marks.now

-- what a round leaves: the next standing, and no other rank changed
pub record Turned (W W' : Work) (k fell : ℕ) : Type 0 where
  pub kept : Kept W W'
  pub turning : Turning W' k fell
  pub beyond : (i : ℕ) → pairs (first_table W.tables.now) (contract_table W.tables.now) ≤ i → get_or W'.ranks.now i 0 ≡ get_or W.ranks.now i 0

-- the end: k is the count of rounds, the ranks are in their places, the rows hold the kept pairs
pub record Refined (M N : Table) (ranks ranks' rows' : List ℕ) (k : ℕ) : Type 0 where
  pub rounds : k ≡ maximum (rank_list M N)
  pub ranks_are : (s t : ℕ) → s < states_of M → t < states_of N → get_or ranks' (s * states_of N + t) 0 ≡ rank M N s t
  pub beyond : (i : ℕ) → pairs M N ≤ i → get_or ranks' i 0 ≡ get_or ranks i 0
  pub rows_are : (s t : ℕ) → s < states_of M → t < states_of N → holds rows' s t ≡ eqb (rank M N s t) 0
  pub columns : (s t : ℕ) → s < states_of M → states_of N ≤ t → holds rows' s t ≡ false
