-- The pairs that a tree meets, in the order of their ranks.
-- Assumes nothing.
use Rattle.form.specs.declared.tables.Tables.{Tables}
use Rattle.std.specs.Prelude.{◌≡◌, List, Option, MatchOption, ℕ, ◌≤◌, ◌<◌, length, get_or}
use Rattle.simulation.specs.Limits.{most_pairs}
use Rattle.simulation.specs.Round.{rank}
use Rattle.simulation.specs.Length.{tree_length}
use Rattle.form.specs.Tables.{first_table, contract_table}
use Rattle.counting.specs.Pair.{number}
use Rattle.counting.specs.Count.{longest, Tallied}
use Rattle.passing.specs.declared.Trail.{Trail}
use Rattle.passing.specs.Passing.{Kept, ToDo, Later, Found, Above, Seen, PairNoted, Passed}

module _ (tables : Tables) where
  -- the first n places of the list hold pairs, each before all pairs below it
  pub record Ordered (order : List ℕ) (n : ℕ) : Type 0 where
    pub fits : n ≤ length order
    pub few : n ≤ most_pairs
    pub at : (k : ℕ) → k < n → Above tables (λ u v. Later order n k (number tables u v)) (get_or order k 0)

  -- the first n places of the list hold the pairs that the tree of (s, t) meets, and their transitions are noted
  pub record Listed (s t : ℕ) (order choices : List ℕ) (n : ℕ) : Type 0 where
    pub ordered : Ordered order n
    pub found : Found order n (number tables s t)
    pub noted : PairNoted tables order n choices

  -- so many pairs are listed, or none is and the tree is too long
  abbrev pub PairsListed : (s t : ℕ) (order choices : List ℕ) (n : Option ℕ) → Type 0
  PairsListed s t order choices n = MatchOption n (longest < tree_length (first_table tables) (contract_table tables) s t) (λ n. Listed s t order choices n)

  -- all pairs of rank r are passed
  pub record RankPassed (r : ℕ) (W V : Trail) : Type 0 where
    pub passed : Passed tables r W V
    pub gone : (s t : ℕ) → ToDo V s t → rank (first_table tables) (contract_table tables) s t ≡ r → ⊥

  -- all pairs that were seen are passed and their transitions noted, unless the bytes counted are too many
  pub record RanksPassed (W V : Trail) : Type 0 where
    pub tallied : Tallied tables W.counts.now W.walk.bytes V.counts.now V.walk.bytes
    pub ordered : V.walk.bytes ≤ longest → Ordered V.order.now V.walk.count
    pub found : V.walk.bytes ≤ longest → (s t : ℕ) → Seen tables W s t → Found V.order.now V.walk.count (number tables s t)
    pub noted : V.walk.bytes ≤ longest → PairNoted tables V.order.now V.walk.count V.choices.now
    pub kept : Kept W V
