-- The beginning of a transition: its head, the entries of its children, and their sets.
-- Assumes nothing.
use Rattle.form.specs.declared.tables.Tables.{Tables}
use Rattle.std.specs.Prelude.{◌≡◌, List, [], ◌∷◌, ℕ, ◌+◌, ◌*◌, ◌/◌, ◌%◌, ◌≤◌, ◌<◌, length, get_or}
use Rattle.simulation.specs.Limits.{most_pairs, most_states}
use Rattle.simulation.specs.Table.{Transition, states_of}
use Rattle.simulation.specs.Tree.{chosen}
use Rattle.simulation.specs.Length.{head_length}
use Rattle.form.specs.Tables.{first_table, contract_table}
use Rattle.relation.specs.Rows.{height}
use Rattle.buffer.specs.Buffer.{over}
use Rattle.relate.specs.Ranked.{RanksRight}
use Rattle.choice.specs.Choice.{Lost, Choice, SetsChosen}
use Rattle.tree.specs.declared.write.Source.{Source}

-- a code and a number of children
abbrev pub transition_head : ℕ → ℕ → List ℕ
transition_head a n = a % 256 ∷ a / 256 ∷ n ∷ []

-- those of a transition
abbrev pub head_bytes : Transition → List ℕ
head_bytes m = transition_head m.code (length m.entries)

-- the state and the weight of a child
abbrev pub entry_bytes : ℕ → ℕ → List ℕ
entry_bytes s w = s ∷ w % 256 ∷ w / 256 ∷ []

-- what the beginning of a transition rests on
pub record BeginGiven (src : Source) (s t : ℕ) (amounts stack buf : List ℕ) : Type 0 where
  pub ranked : RanksRight src.tables.now src.ranks.now
  pub lost : Lost src.tables.now s t
  pub noted : s * states_of (contract_table src.tables.now) + t < length src.choices.now
  pub choice : Choice src.tables.now s t (get_or src.choices.now (s * states_of (contract_table src.tables.now) + t) 0)
  pub amounts_room : most_pairs ≤ length amounts
  pub words : 2 * most_states ≤ height stack
  pub room : head_length ≤ length buf

-- the transition j of the pair is begun
pub record TransitionBegun (tables : Tables) (s t j : ℕ) (stack old new : List ℕ) : Type 0 where
  pub choice : Choice tables s t j
  pub sets : SetsChosen tables s t stack
  pub head : new ≡ over (head_bytes (chosen (first_table tables) (contract_table tables) s t)) old
