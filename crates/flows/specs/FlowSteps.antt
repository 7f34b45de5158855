-- What the functions of a flow ask and leave.
-- Assumes nothing.
use Rattle.form.specs.declared.tables.Tables.{Tables}
use Rattle.std.specs.Prelude.{◌≡◌, true, List, ℕ, ◌≤◌, ◌<◌, length, get_or}
use Rattle.simulation.specs.Limits.{most_pairs, most_states}
use Rattle.simulation.specs.Fit.{Amounts}
use Rattle.simulation.specs.Table.{Transition, Table, states_of, steps, transition}
use Rattle.simulation.specs.Demands.{Kept}
use Rattle.form.specs.Form.{transitions_of}
use Rattle.form.specs.Tables.{first_form, first_table, second_table, contract_table, BothLoaded}
use Rattle.relation.specs.Rows.{height}
use Rattle.decision.specs.Fitting.{relation_of, SharesIn}
use Rattle.fit.specs.Held.{answered}
use Rattle.fit.specs.Partner.{place}
use Rattle.matrix.specs.Matrix.{cell}
use Rattle.buffer.specs.Buffer.{Filled}
use Rattle.flows.specs.Flow.{kept_relation, one_flow, named_place, Right, flow_bytes}

-- at most most-states targets to share a target out over, all of one byte, and a row of amounts
pub record Row (nt x : List ℕ) (i : ℕ) : Type 0 where
  pub row : i < most_states
  pub few : length nt ≤ most_states
  pub targets : (j : ℕ) → j < length nt → get_or nt j 0 < 256
  pub cells : most_pairs ≤ length x

-- the same for all rows
pub record Records (mt nt x : List ℕ) : Type 0 where
  pub rows : length mt ≤ most_states
  pub few : length nt ≤ most_states
  pub sources : (i : ℕ) → i < length mt → get_or mt i 0 < 256
  pub targets : (j : ℕ) → j < length nt → get_or nt j 0 < 256
  pub cells : most_pairs ≤ length x

-- the rows hold the kept pairs
abbrev pub KeptIn : (tables : Tables) (rows : List ℕ) → Type 0
KeptIn tables rows = relation_of tables rows ≡ kept_relation (first_table tables) (contract_table tables)

-- two tables with their kept pairs, a pair of them, and room for amounts
pub record KeptPair (tables : Tables) (rows amounts : List ℕ) (s t : ℕ) : Type 0 where
  pub loaded : BothLoaded tables
  pub rows_room : most_states ≤ height rows
  pub rows_kept : KeptIn tables rows
  pub amounts_room : most_pairs ≤ length amounts
  pub first : s < states_of (first_table tables)
  pub second : t < states_of (second_table tables)
  pub kept : Kept (first_table tables) (contract_table tables) s t

-- a transition of the first table, which a state of the contract answers
pub record Answered (tables : Tables) (rows amounts : List ℕ) (j t : ℕ) : Type 0 where
  pub loaded : BothLoaded tables
  pub rows_room : most_states ≤ height rows
  pub amounts_room : most_pairs ≤ length amounts
  pub from_first : j < transitions_of (first_form tables)
  pub state : t < states_of (second_table tables)
  pub some : answered tables rows j t ≡ true

-- the flow of m over the first transition of t that it fits is written, with right amounts
pub record Shown (M N : Table) (listed : ℕ) (m : Transition) (t r : ℕ) (amounts old new : List ℕ) : Type 0 where
  pub shares : SharesIn (kept_relation M N) m (transition N t (place (kept_relation M N) m (steps N t))) (cell amounts)
  pub filled : Filled (one_flow (named_place listed (place (kept_relation M N) m (steps N t))) m (transition N t (place (kept_relation M N) m (steps N t))) (cell amounts)) r old new

-- the flows of (s, t) are written, with amounts that are right
pub record Flowed (M N : Table) (listed s t r : ℕ) (old new : List ℕ) : Type 0 where
  pub amounts : ℕ → Amounts
  pub right : Right M N s t amounts
  pub filled : Filled (flow_bytes M N listed s t amounts) r old new
