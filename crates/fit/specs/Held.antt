-- The matching of transitions in a relation held as rows of masks.
-- Assumes nothing.
use Rattle.form.specs.declared.tables.Tables.{Tables}
use Rattle.std.specs.Prelude.{Bool, List, ℕ, eqb}
use Rattle.form.specs.Tables.{second_table, contract_table, first_step, second_step}
use Rattle.simulation.specs.Sum.{all_of, any_of}
use Rattle.simulation.specs.Table.{Transition, Table, steps}
use Rattle.simulation.specs.Round.{Relation, fits_step}
use Rattle.decision.specs.Fitting.{relation_of}

-- transition j of the first table fits transition l of the second in the relation of the rows, and they have the same code
abbrev pub fits_step_at : (tables : Tables) (rows : List ℕ) (j l : ℕ) → Bool
fits_step_at tables rows j l = fits_step (relation_of tables rows) (first_step tables j) (second_step tables l)

-- each transition of s fits some transition of t with the same code, in R
abbrev pub matched : Table → Table → Relation → ℕ → ℕ → Bool
matched M N R s t = all_of (λ m. any_of (fits_step R m) (steps N t)) (steps M s)

-- transition j of the first table fits some transition that the second lists for the state t
abbrev pub fits_listed : (tables : Tables) (rows : List ℕ) (j t : ℕ) → Bool
fits_listed tables rows j t = any_of (fits_step (relation_of tables rows) (first_step tables j)) (steps (second_table tables) t)

-- or one that the contract has for it
abbrev pub answered : (tables : Tables) (rows : List ℕ) (j t : ℕ) → Bool
answered tables rows j t = any_of (fits_step (relation_of tables rows) (first_step tables j)) (steps (contract_table tables) t)

-- one of the transitions has the code
abbrev pub coded : ℕ → List Transition → Bool
coded c ns = any_of (λ (n : Transition). eqb c n.code) ns
