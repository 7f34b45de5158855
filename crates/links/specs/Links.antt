-- Which states have a transition to a state, and the pairs that a lost pair puts in doubt.
-- Assumes nothing.
use Rattle.form.specs.declared.tables.Tables.{Tables}
use Rattle.std.specs.Prelude.{◌≡◌, true, false, List, ℕ, ◌+◌, ◌≤◌, ◌<◌, T, length, get_or}
use Rattle.std.specs.Borrow.{MutBor}
use Rattle.simulation.specs.Limits.{most_states}
use Rattle.simulation.specs.Complete.{lists}
use Rattle.relation.specs.Rows.{height}
use Rattle.word.specs.Mask.{member}
use Rattle.form.specs.Form.{start_of, transitions_of, transition_at, table_of}
use Rattle.relation.specs.Related.{holds}
use Rattle.simulation.specs.Table.{targets, states_of}
use Rattle.form.specs.Tables.{first_form, second_form, second_table, first_step}
use Rattle.fit.specs.Known.{TargetSets}
use Rattle.links.specs.declared.lists.Sets.{Sets}
use Rattle.links.specs.declared.lists.Marks.{Marks}

-- the rows have no pair
abbrev pub Empty : List ℕ → Type 0
Empty rows = (s t : ℕ) → holds rows s t ≡ false

-- each row that has a pair is one of the set
abbrev pub Covered : ℕ → List ℕ → Type 0
Covered fell lost = (s t : ℕ) → holds lost s t ≡ true → member fell s ≡ true

-- before has the state s at each target of its transitions
abbrev pub StateLinks : List ℕ → ℕ → List ℕ → Type 0
StateLinks f s before =
    (j i : ℕ) → start_of f s ≤ j → j < start_of f (s + 1) → i < length (targets (transition_at f j)) → holds before (get_or (targets (transition_at f j)) i 0) s ≡ true

-- each member of a row is below n
abbrev pub RowsBelow : ℕ → List ℕ → Type 0
RowsBelow n rows = (s t : ℕ) → holds rows s t ≡ true → t < n

-- before holds, for each state of a form, the states that have a transition to it, and no number that is not a state
pub record Linked (f before : List ℕ) : Type 0 where
  pub room : most_states ≤ height before
  pub links : (s : ℕ) → s < states_of (table_of f) → StateLinks f s before
  pub states : RowsBelow (states_of (table_of f)) before

-- the second table lists the code of each of the first n transitions of the first
abbrev pub ListedBefore : (tables : Tables) (n : ℕ) → Type 0
ListedBefore tables n = (j : ℕ) → j < n → T (lists (second_table tables).codes (first_step tables j).code)

-- behind has, for each state, those that list a transition to it, and the state itself where a transition of the first table has a code that the second does not list
pub record ContractLinked (tables : Tables) (behind : List ℕ) : Type 0 where
  pub listed : Linked (second_form tables) behind
  pub loops : (j t : ℕ) → j < transitions_of (first_form tables) → ¬ T (lists (second_table tables).codes (first_step tables j).code) → t < states_of (second_table tables)
      → holds behind t t ≡ true

-- the sets that are known before the rounds
pub record SetsKnown (tables : Tables) (before behind target_sets : List ℕ) : Type 0 where
  pub first : Linked (first_form tables) before
  pub second : ContractLinked tables behind
  pub targets : TargetSets (second_form tables) target_sets

-- a list that was lent is still that list, and as long
pub record Same (l k : MutBor (List ℕ)) : Type 0 where
  pub name : k.ghost_name ≡ l.ghost_name
  pub size : length k.now ≡ length l.now

-- the same lists are lent, whatever they hold
pub record SameMarks (marks marks' : Marks) : Type 0 where
  pub doubt : Same marks.doubt marks'.doubt
  pub lost : Same marks.lost marks'.lost

-- no pair of the first rows is missing in the second
pub record RowsGrown (rows rows' : List ℕ) : Type 0 where
  pub still : (s t : ℕ) → holds rows s t ≡ true → holds rows' s t ≡ true

-- rows that have grown by members s only
pub record Joins (s : ℕ) (rows rows' : List ℕ) : Type 0 where
  pub grown : RowsGrown rows rows'
  pub within : (n : ℕ) → s < n → RowsBelow n rows → RowsBelow n rows'

-- each of the first n rows has its own number too, and no number from n on is new
pub record Looped (n : ℕ) (rows rows' : List ℕ) : Type 0 where
  pub grown : RowsGrown rows rows'
  pub own : (t : ℕ) → t < n → holds rows' t t ≡ true
  pub within : RowsBelow n rows → RowsBelow n rows'

-- each member of a set is in doubt in each row of another
pub record DoubtsAdded (rows more : ℕ) (doubt doubt' : List ℕ) : Type 0 where
  pub grown : RowsGrown doubt doubt'
  pub added : (s t : ℕ) → member rows s ≡ true → member more t ≡ true → holds doubt' s t ≡ true

-- a pair is in doubt, and its row doubtful, if a lost pair lies one transition behind it; a doubtful row is a state before some other; no pair is lost any more
pub record Doubted (sets : Sets) (doubtful : ℕ) (marks marks' : Marks) : Type 0 where
  pub raised : (a s u t : ℕ) → holds sets.before.now a s ≡ true → holds marks.lost.now a u ≡ true → holds sets.behind.now u t ≡ true
      → (member doubtful s ≡ true) × (holds marks'.doubt.now s t ≡ true)
  pub within : (n : ℕ) → RowsBelow n sets.before.now → (s : ℕ) → member doubtful s ≡ true → s < n
  pub empty : Empty marks'.lost.now
