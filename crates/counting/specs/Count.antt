-- The bytes of a tree, counted from its root down: how often the transition of each pair still has to be counted.
-- Assumes nothing.
use Rattle.form.specs.declared.tables.Tables.{Tables}
use Rattle.std.specs.Prelude.{◌≡◌, Bool, ◌&&◌, List, ℕ, ◌+◌, ◌*◌, ◌^◌, ◌≤◌, ◌<◌, T, eqb, length, get_or}
use Rattle.simulation.specs.Limits.{most_states, most_tree_bytes}
use Rattle.simulation.specs.Sum.{sum, when}
use Rattle.simulation.specs.Table.{Table, states_of}
use Rattle.simulation.specs.Round.{pairs}
use Rattle.simulation.specs.Length.{pair_length}
use Rattle.form.specs.Tables.{first_table, contract_table, BothLoaded}
use Rattle.word.specs.Mask.{member}
use Rattle.relation.specs.Rows.{row_of, height}
use Rattle.choice.specs.Choice.{Lost, Choice, SetsChosen}

-- the bytes of the transitions that still have to be counted, each with all below it
unfoldable pub owed : Table → Table → (counts : List ℕ) → ℕ
unfolding sum pair_length
owed M N counts = sum (states_of M) (λ s. sum (states_of N) (λ t. get_or counts (s * states_of N + t) 0 * pair_length M N s t))

-- the members of a row, each of which is to be counted c times more
pub record Within (counts : List ℕ) (width s members c : ℕ) : Type 0 where
  pub narrow : width ≤ most_states
  pub low : s < most_states
  pub inside : (t : ℕ) → T (member members t) → t < width
  pub room : s * width + width ≤ length counts
  pub small : (t : ℕ) → t < width → get_or counts (s * width + t) 0 + c < 2 ^ 32

pub record RowAdded (width s members c : ℕ) (counts counts' : List ℕ) : Type 0 where
  pub at : (u v : ℕ) → v < width → get_or counts' (u * width + v) 0 ≡ get_or counts (u * width + v) 0 + when (eqb s u && member members v) c

-- the pair (u, v) is one of target i and a member of its set
abbrev pub child : (targets sets : List ℕ) (u v i : ℕ) → Bool
child targets sets u v i = eqb (get_or targets i 0) u && member (row_of sets i) v

-- what adding to the counts of targets and members of their sets rests on
pub record CountsGiven (targets sets : List ℕ) (width c : ℕ) (counts : List ℕ) : Type 0 where
  pub few : length targets ≤ most_states
  pub words : length targets ≤ height sets
  pub narrow : width ≤ most_states
  pub low : (i : ℕ) → i < length targets → get_or targets i 0 < most_states
  pub room : (i : ℕ) → i < length targets → get_or targets i 0 * width + width ≤ length counts
  pub inside : (i t : ℕ) → i < length targets → T (member (row_of sets i) t) → t < width
  pub small : (i t : ℕ) → i < length targets → t < width → get_or counts (get_or targets i 0 * width + t) 0 + most_states * c < 2 ^ 32

-- the counts of the first n targets are raised
pub record CountsAdded (targets sets : List ℕ) (width c n : ℕ) (counts counts' : List ℕ) : Type 0 where
  pub at : (u v : ℕ) → v < width → get_or counts' (u * width + v) 0 ≡ get_or counts (u * width + v) 0 + sum n (λ i. when (child targets sets u v i) c)

-- the most bytes that a tree may have
abbrev pub longest : ℕ
longest = most_tree_bytes

module _ (tables : Tables) where
  -- a count for each pair, none above the bytes so far
  pub record Tally (counts : List ℕ) (bytes : ℕ) : Type 0 where
    pub room : pairs (first_table tables) (contract_table tables) ≤ length counts
    pub few : (u v : ℕ) → u < states_of (first_table tables) → v < states_of (contract_table tables) → get_or counts (u * states_of (contract_table tables) + v) 0 ≤ bytes
    pub small : bytes < 2 ^ 30

  -- some transitions are counted: the bytes so far and those owed are as many as before
  pub record Tallied (counts : List ℕ) (bytes : ℕ) (counts' : List ℕ) (bytes' : ℕ) : Type 0 where
    pub tally : Tally counts' bytes'
    pub total : bytes' + owed (first_table tables) (contract_table tables) counts' ≡ bytes + owed (first_table tables) (contract_table tables) counts

  -- every count is 0 but that of the pair (s, t), which is 1
  pub record OneCounted (s t : ℕ) (counts : List ℕ) : Type 0 where
    pub tally : Tally counts 1
    pub total : owed (first_table tables) (contract_table tables) counts ≡ pair_length (first_table tables) (contract_table tables) s t

  -- a pair that is not kept, with its transition and the sets of its targets
  pub record HandGiven (s t j : ℕ) (sets counts : List ℕ) (bytes : ℕ) : Type 0 where
    pub loaded : BothLoaded tables
    pub lost : Lost tables s t
    pub choice : Choice tables s t j
    pub words : most_states ≤ height sets
    pub told : SetsChosen tables s t sets
    pub tally : Tally counts bytes
