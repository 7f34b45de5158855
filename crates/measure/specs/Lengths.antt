-- The lengths of the pairs that a tree meets, from the pairs with none below them up.
-- Assumes nothing.
use Rattle.form.specs.declared.tables.Tables.{Tables}
use Rattle.std.specs.Prelude.{◌≡◌, Bool, List, Option, MatchOption, IsSome, ℕ, ◌+◌, ◌*◌, ◌^◌, ◌≤◌, ◌<◌, min, T, length, get_or}
use Rattle.simulation.specs.Limits.{most_pairs, most_states}
use Rattle.simulation.specs.Sum.{sum, when}
use Rattle.simulation.specs.Table.{target_at, states_of}
use Rattle.simulation.specs.Round.{pairs}
use Rattle.simulation.specs.Tree.{chosen, set_of}
use Rattle.simulation.specs.Length.{pair_length, tree_length}
use Rattle.form.specs.Tables.{first_table, contract_table, BothLoaded}
use Rattle.word.specs.Mask.{member}
use Rattle.relation.specs.Rows.{row_of, height}
use Rattle.relate.specs.Ranked.{RanksRight}
use Rattle.choice.specs.Choice.{Lost, Choice}
use Rattle.counting.specs.Count.{longest}
use Rattle.counting.specs.Pair.{number, row, column}

-- a longer length is given as this number
abbrev pub most : ℕ
most = 4294967295

-- the lengths of a state's pairs with the members of a set
abbrev pub set_length : (width : ℕ) (lengths : List ℕ) (s : ℕ) → (ℕ → Bool) → ℕ
set_length width lengths s X = sum width (λ t. when (X t) (get_or lengths (s * width + t) 0))

-- what adding them up rests on
pub record SumGiven (tables : Tables) (lengths : List ℕ) (s members : ℕ) : Type 0 where
  pub loaded : BothLoaded tables
  pub low : s < most_states
  pub inside : (t : ℕ) → T (member members t) → t < states_of (contract_table tables)
  pub room : s * states_of (contract_table tables) + states_of (contract_table tables) ≤ length lengths
  pub small : 1 + set_length (states_of (contract_table tables)) lengths s (member members) < 2 ^ 64

-- the bytes of a transition's children, from the lengths of pairs
abbrev pub children_length : (width : ℕ) (lengths targets sets : List ℕ) → ℕ → ℕ
children_length width lengths targets sets n = sum n (λ i. 4 + set_length width lengths (get_or targets i 0) (member (row_of sets i)))

-- they are at most this: a state, a weight, a count and the length of a pair of each member, for each target
abbrev pub most_children : ℕ
most_children = most_states * (4 + most_states * most)

-- what adding them up rests on
pub record ChildrenGiven (tables : Tables) (lengths targets sets : List ℕ) : Type 0 where
  pub loaded : BothLoaded tables
  pub few : length targets ≤ most_states
  pub words : length targets ≤ height sets
  pub low : (i : ℕ) → i < length targets → get_or targets i 0 < most_states
  pub inside : (i t : ℕ) → i < length targets → T (member (row_of sets i) t) → t < states_of (contract_table tables)
  pub room : (i : ℕ) → i < length targets → get_or targets i 0 * states_of (contract_table tables) + states_of (contract_table tables) ≤ length lengths

-- the number n if it is not above the bound
abbrev pub NotAbove : (bound n : ℕ) → Option ℕ → Type 0
NotAbove bound n r = MatchOption r (bound < n) (λ k. (k ≡ n) × (k ≤ bound))

module _ (tables : Tables) where
  -- the pair (s, t) is not kept, and the lists hold the transitions and the lengths of all pairs that its tree meets: a set of pairs that has with a pair all pairs below it
  pub record Measured (choices lengths : List ℕ) (s t : ℕ) : Type 0 where
    pub met : ℕ → ℕ → Bool
    pub here : T (met s t)
    pub lost : (u v : ℕ) → T (met u v) → Lost tables u v
    pub below : (u v i w : ℕ) → T (met u v) → i < length (chosen (first_table tables) (contract_table tables) u v).entries → T (set_of (first_table tables) (contract_table tables) u v i w)
        → T (met (target_at (chosen (first_table tables) (contract_table tables) u v) i) w)
    pub choice : (u v : ℕ) → T (met u v) → Choice tables u v (get_or choices (u * states_of (contract_table tables) + v) 0)
    pub right : (u v : ℕ) → T (met u v) → get_or lengths (u * states_of (contract_table tables) + v) 0 ≡ pair_length (first_table tables) (contract_table tables) u v

  -- the list holds the length of the pair (s, t)
  abbrev pub Holds : (lengths : List ℕ) (s t : ℕ) → Type 0
  Holds lengths s t = get_or lengths (number tables s t) 0 ≡ min most (pair_length (first_table tables) (contract_table tables) s t)

  -- what measuring rests on: a length for each pair, a set for each target of a transition
  pub record MeasureGiven (ranks lengths sets amounts : List ℕ) : Type 0 where
    pub ranked : RanksRight tables ranks
    pub room : pairs (first_table tables) (contract_table tables) ≤ length lengths
    pub words : 2 * most_states ≤ height sets
    pub amounts_room : most_pairs ≤ length amounts

  -- a pair that is not kept, and the lengths of the pairs below it
  pub record PairGiven (ranks lengths sets amounts : List ℕ) (s t : ℕ) : Type 0 where
    pub given : MeasureGiven ranks lengths sets amounts
    pub lost : Lost tables s t
    pub below : (i v : ℕ) → i < length (chosen (first_table tables) (contract_table tables) s t).entries → T (set_of (first_table tables) (contract_table tables) s t i v)
        → Holds lengths (target_at (chosen (first_table tables) (contract_table tables) s t) i) v

  -- the list holds the lengths of the listed pairs
  pub record AllHold (order lengths : List ℕ) (n : ℕ) : Type 0 where
    pub at : (k : ℕ) → k < n → Holds lengths (row tables (get_or order k 0)) (column tables (get_or order k 0))

  -- the tree's length, if the tree is short enough, and the transitions and lengths of all pairs that it meets
  pub record TreeMeasured (choices lengths : List ℕ) (s t : ℕ) (len : Option ℕ) : Type 0 where
    pub length : NotAbove longest (tree_length (first_table tables) (contract_table tables) s t) len
    pub measured : IsSome len → Measured choices lengths s t
