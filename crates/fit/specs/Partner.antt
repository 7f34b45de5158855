-- The first transition of a state that a transition fits, and the amounts that share it out.
-- Assumes nothing.
use Rattle.form.specs.declared.tables.Tables.{Tables}
use Rattle.std.specs.Prelude.{◌≡◌, true, false, cond, Option, MatchOption, List, [], ◌∷◌, ℕ, suc, ◌≤◌, ◌<◌, T, eqb, length}
use Rattle.simulation.specs.Limits.{most_pairs, most_states}
use Rattle.simulation.specs.Table.{Transition, states_of, steps, transition}
use Rattle.simulation.specs.Round.{Relation, fits_step}
use Rattle.relation.specs.Rows.{height}
use Rattle.matrix.specs.Matrix.{cell}
use Rattle.form.specs.Form.{transitions_of}
use Rattle.form.specs.Tables.{first_form, second_table, first_step, second_step, BothLoaded}
use Rattle.decision.specs.Fitting.{relation_of, SharesIn}

-- r is the first transition of the second table that has the code c, from l on and before the end
pub record Coded (tables : Tables) (c l end r : ℕ) : Type 0 where
  pub from : l ≤ r
  pub to : r < end
  pub passed : (k : ℕ) → l ≤ k → k < r → eqb c (second_step tables k).code ≡ false
  pub found : eqb c (second_step tables r).code ≡ true

-- the first one, or none
abbrev pub NextCoded : (tables : Tables) (c l end : ℕ) → Option ℕ → Type 0
NextCoded tables c l end r = MatchOption r ((k : ℕ) → l ≤ k → k < end → eqb c (second_step tables k).code ≡ false) (Coded tables c l end)

-- the place of the first like-coded transition that m fits in R
unfoldable pub place : Relation → Transition → List Transition → ℕ
unfolding fits_step
place R m [] = 0
place R m (n ∷ ns) = cond (fits_step R m n) 0 (suc (place R m ns))

-- a transition of the first table, and a state of the second that has one that it fits
pub record Sought (tables : Tables) (rows amounts : List ℕ) (j t : ℕ) : Type 0 where
  pub loaded : BothLoaded tables
  pub rows_room : most_states ≤ height rows
  pub amounts_room : most_pairs ≤ length amounts
  pub from_first : j < transitions_of (first_form tables)
  pub state : t < states_of (second_table tables)
  pub some : (l : ℕ) × (l < length (steps (second_table tables) t)) × T (fits_step (relation_of tables rows) (first_step tables j) (transition (second_table tables) t l))

-- r is the place of the first one, and its amounts are right
pub record FirstFit (tables : Tables) (rows : List ℕ) (j t r : ℕ) (amounts : List ℕ) : Type 0 where
  pub is : r ≡ place (relation_of tables rows) (first_step tables j) (steps (second_table tables) t)
  pub below : r < length (steps (second_table tables) t)
  pub shares : SharesIn (relation_of tables rows) (first_step tables j) (transition (second_table tables) t r) (cell amounts)
