-- The transition chosen for a pair that is not kept, and the sets of its targets, as the code finds them.
-- Assumes nothing.
use Rattle.form.specs.declared.tables.Tables.{Tables}
use Rattle.std.specs.Prelude.{◌≡◌, Bool, true, false, not, ◌&&◌, ◌||◌, List, Option, is_some, IfSome, ℕ, ◌+◌, ◌≤◌, ◌<◌, pred, eqb, length}
use Rattle.simulation.specs.Sum.{any_of}
use Rattle.simulation.specs.Table.{Transition, target_at, states_of, steps}
use Rattle.simulation.specs.Round.{Relation, related, fits_step, round, rank}
use Rattle.simulation.specs.Complete.{all_related}
use Rattle.simulation.specs.Tree.{apart_by, chosen, set_of}
use Rattle.form.specs.Form.{start_of}
use Rattle.form.specs.Tables.{first_form, second_form, first_table, contract_table, first_step}
use Rattle.word.specs.Mask.{member}
use Rattle.relation.specs.Rows.{row_of}

-- what n adds to the set of each target of m
pub record Added (R : Relation) (m n : Transition) (sets sets' : List ℕ) : Type 0 where
  pub join : (i : ℕ) → i < length m.entries → (u : ℕ) → member (row_of sets' i) u ≡ (apart_by R m i n u || member (row_of sets i) u)

-- b tells whether m fits n; if not, n is added
pub record Parted (R : Relation) (m n : Transition) (b : Bool) (sets sets' : List ℕ) : Type 0 where
  pub fit : b ≡ fits_step R m n
  pub added : b ≡ false → Added R m n sets sets'

-- b tells whether every target of m is related to t; each that is not has the set of t alone, the others the empty one
pub record PartedAdded (R : Relation) (m : Transition) (t : ℕ) (b : Bool) (sets : List ℕ) : Type 0 where
  pub fit : b ≡ all_related R m t
  pub apart : (i : ℕ) → i < length m.entries → (u : ℕ) → member (row_of sets i) u ≡ (not (related R (target_at m i) t) && eqb t u)

-- a mask names places below n
abbrev pub Names : ℕ → ℕ → Type 0
Names mask n = (i : ℕ) → member mask i ≡ true → i < n

-- a set joined to each of those that a mask names
pub record SetsJoined (mask more : ℕ) (sets sets' : List ℕ) : Type 0 where
  pub join : (i u : ℕ) → member (row_of sets' i) u ≡ ((member mask i && member more u) || member (row_of sets i) u)

-- a pair that is not kept
pub record Lost (tables : Tables) (s t : ℕ) : Type 0 where
  pub left : s < states_of (first_table tables)
  pub right : t < states_of (contract_table tables)
  pub fell : 0 < rank (first_table tables) (contract_table tables) s t

-- j is the number of the transition chosen for the pair
pub record Choice (tables : Tables) (s t j : ℕ) : Type 0 where
  pub low : start_of (first_form tables) s ≤ j
  pub high : j < start_of (first_form tables) (s + 1)
  pub is : first_step tables j ≡ chosen (first_table tables) (contract_table tables) s t

-- a mask for the set of each target of the chosen transition
pub record SetsChosen (tables : Tables) (s t : ℕ) (sets : List ℕ) : Type 0 where
  pub set : (i : ℕ) → i < length (chosen (first_table tables) (contract_table tables) s t).entries
      → member (row_of sets i) ≡ set_of (first_table tables) (contract_table tables) s t i

-- the transition j of the first table fits some transition of t in the round before round r
abbrev pub round_fits_some : (tables : Tables) (t r j : ℕ) → Bool
round_fits_some tables t r j = any_of (fits_step (round (first_table tables) (contract_table tables) (pred r)) (first_step tables j)) (steps (contract_table tables) t)

-- l is a transition of t that the transition j of s fits in the round before round r, by its number, where that of the added one is the end of the
-- listed ones, or none if it fits none; the sets are those of the chosen transition if it is j
pub record Tested (tables : Tables) (s t r j : ℕ) (l : Option ℕ) (sets : List ℕ) : Type 0 where
  pub low : IfSome l (λ k. start_of (second_form tables) t ≤ k)
  pub fits : is_some l ≡ round_fits_some tables t r j
  pub found : Choice tables s t j → SetsChosen tables s t sets
