-- Whether a transition of the one table fits one of the other in a relation held as rows of masks, whatever their codes.
-- Assumes nothing.
use Rattle.form.specs.declared.tables.Tables.{Tables}
use Rattle.std.specs.Prelude.{◌≡◌, Bool, true, List, ℕ, ◌≤◌, ◌<◌, T, length}
use Rattle.simulation.specs.Limits.{most_pairs, most_states}
use Rattle.simulation.specs.Fit.{fits?, Amounts, Shares}
use Rattle.simulation.specs.Table.{Transition, Table, weights, states_of}
use Rattle.simulation.specs.Round.{Relation, between, relation}
use Rattle.relation.specs.Rows.{height}
use Rattle.relation.specs.Related.{holds}
use Rattle.matrix.specs.Matrix.{cell}
use Rattle.form.specs.Form.{transitions_of}
use Rattle.form.specs.Tables.{first_form, second_form, first_table, contract_table, first_step, second_step, BothLoaded}

-- the relation that the rows hold between the states of two tables
abbrev pub held : Table → Table → List ℕ → Relation
held M N rows = relation (states_of M) (states_of N) (holds rows)

-- the same for the two tables of a list
abbrev pub relation_of : (tables : Tables) (rows : List ℕ) → Relation
relation_of tables rows = held (first_table tables) (contract_table tables) rows

-- transition j of the first table fits transition l of the second in the relation of the rows, whatever their codes
abbrev pub fitting : (tables : Tables) (rows : List ℕ) (j l : ℕ) → Bool
fitting tables rows j l =
    fits? (between (relation_of tables rows) (first_step tables j) (second_step tables l)) (weights (first_step tables j)) (weights (second_step tables l))

-- two tables, a row for each state, room for a flow, and a transition of each table by its number
pub record Asked (tables : Tables) (rows amounts : List ℕ) (j l : ℕ) : Type 0 where
  pub loaded : BothLoaded tables
  pub rows_room : most_states ≤ height rows
  pub amounts_room : most_pairs ≤ length amounts
  pub from_first : j < transitions_of (first_form tables)
  pub from_second : l < transitions_of (second_form tables)

-- right amounts for m and n in R
abbrev pub SharesIn : Relation → (m n : Transition) → Amounts → Type 0
SharesIn R m n x = Shares (λ i j. T (between R m n i j)) (weights m) (weights n) x

-- r says whether transition j of the first table fits transition l of the second, whatever their codes; if it does, the amounts are right
pub record SharedOut (tables : Tables) (rows : List ℕ) (j l : ℕ) (r : Bool) (amounts : List ℕ) : Type 0 where
  pub answer : r ≡ fitting tables rows j l
  pub shares : r ≡ true → SharesIn (relation_of tables rows) (first_step tables j) (second_step tables l) (cell amounts)
