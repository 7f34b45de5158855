-- The search from the short rows, level by level, over masks: what each of its functions says.
-- A row goes to the columns that it is related to, and a column to its senders. from and via give the row and the column by which a row was reached.
-- Assumes nothing.
use Rattle.std.specs.Prelude.{◌≡◌, true, false, List, Option, MatchOption, Result, MatchResult, ℕ, zero, suc, ◌≤◌, ◌<◌, get_or}
use Rattle.simulation.specs.Limits.{most_states}
use Rattle.word.specs.Mask.{Test, member}
use Rattle.relation.specs.Rows.{height}
use Rattle.relation.specs.Related.{holds}
use Rattle.matrix.specs.Masks.{MaskOf}
use Rattle.set.specs.Words.{mask}
use Rattle.set.specs.declared.Set.{Set}
use Rattle.search.specs.declared.Path.{Path}

-- the list of senders is long enough, and the rows that can be reached have masks
pub record SearchRoom (rel senders : List ℕ) (short : ℕ) : Type 0 where
  pub columns : most_states ≤ height senders
  pub starts : (i : ℕ) → member short i ≡ true → i < height rel
  pub rows : (i j : ℕ) → holds senders j i ≡ true → i < height rel

-- the rows of a set are reached from row r by column j, the other rows as they were
pub record RowsLinked (X : Test) (r j : ℕ) (from via from' via' : ℕ → ℕ) : Type 0 where
  pub new_from : (i : ℕ) → X i ≡ true → from' i ≡ r
  pub new_via : (i : ℕ) → X i ≡ true → via' i ≡ j
  pub old_from : (i : ℕ) → X i ≡ false → from' i ≡ from i
  pub old_via : (i : ℕ) → X i ≡ false → via' i ≡ via i

-- S grows to S' along steps of E from a row to a column, and from there to a sender
pub record Grows (E : ℕ → ℕ → Type 0) (senders : List ℕ) (S S' : Test) (from via from' via' : ℕ → ℕ) : Type 0 where
  pub kept : (i : ℕ) → S i ≡ true → S' i ≡ true
  pub old_from : (i : ℕ) → S i ≡ true → from' i ≡ from i
  pub old_via : (i : ℕ) → S i ≡ true → via' i ≡ via i
  pub step : (i : ℕ) → S i ≡ false → S' i ≡ true → E (from' i) (via' i)
  pub sender : (i : ℕ) → S i ≡ false → S' i ≡ true → holds senders (via' i) i ≡ true

-- from row r by the columns of a set
pub record ColumnsFollowed (senders : List ℕ) (C : Test) (r : ℕ) (S S' : Test) (from via from' via' : ℕ → ℕ) : Type 0 where
  pub grows : Grows (λ k j. (k ≡ r) × (C j ≡ true)) senders S S' from via from' via'
  pub all : (i j : ℕ) → C j ≡ true → holds senders j i ≡ true → S' i ≡ true

-- every sender of a seen column is reached
pub record Closed (senders : List ℕ) (seen S : Test) : Type 0 where
  pub senders_in : (i j : ℕ) → seen j ≡ true → holds senders j i ≡ true → S i ≡ true

-- from the rows of a set F by all columns that they are related to
pub record Levelled (rel senders : List ℕ) (F seen seen' S S' : Test) (from via from' via' : ℕ → ℕ) : Type 0 where
  pub grows : Grows (λ k j. (F k ≡ true) × (holds rel k j ≡ true)) senders S S' from via from' via'
  pub still : (j : ℕ) → seen j ≡ true → seen' j ≡ true
  pub closed : Closed senders seen' S'
  pub all : (k j : ℕ) → F k ≡ true → holds rel k j ≡ true → seen' j ≡ true

-- a free column that row r is related to
pub record Hit (rel : List ℕ) (free r : ℕ) : Type 0 where
  pub column : ℕ
  pub related : holds rel r column ≡ true
  pub is_free : member free column ≡ true

-- a row of the set F with a free column, or none has one
abbrev pub HitOf : List ℕ → ℕ → Test → Option ℕ → Type 0
HitOf rel free F hit =
    MatchOption hit ((i j : ℕ) → F i ≡ true → holds rel i j ≡ true → member free j ≡ false) (λ r. (F r ≡ true) × Hit rel free r)

-- each row of S has a rank: 0 for a short row, else one more than the row it was reached from
pub record Forest (rel senders : List ℕ) (short : ℕ) (from via : ℕ → ℕ) (S : Test) (rank : ℕ → ℕ) : Type 0 where
  pub root : (i : ℕ) → S i ≡ true → rank i ≡ 0 → member short i ≡ true
  pub before : (i k : ℕ) → S i ≡ true → rank i ≡ suc k → S (from i) ≡ true
  pub lower : (i k : ℕ) → S i ≡ true → rank i ≡ suc k → rank (from i) ≡ k
  pub related : (i k : ℕ) → S i ≡ true → rank i ≡ suc k → holds rel (from i) (via i) ≡ true
  pub sender : (i k : ℕ) → S i ≡ true → rank i ≡ suc k → holds senders (via i) i ≡ true

-- row i is k steps from a short row: a step goes from a row to a column that it is related to, and on to a sender of the column
pub data RowWalk (rel senders : List ℕ) (short : ℕ) : (k i : ℕ) → Type 0 where
  here : {i : ℕ} → member short i ≡ true → RowWalk rel senders short zero i
  step : {k i : ℕ} (i' j : ℕ) → RowWalk rel senders short k i → holds rel i j ≡ true → holds senders j i' ≡ true → RowWalk rel senders short (suc k) i'

-- a path of `depth` steps from a short row to row r, which has a free column; no walk to such a row is shorter
pub record Reaches (rel senders : List ℕ) (short free : ℕ) (from via : ℕ → ℕ) (S : Test) (r depth : ℕ) : Type 0 where
  pub rank : ℕ → ℕ
  pub forest : Forest rel senders short from via S rank
  pub inside : S r ≡ true
  pub deep : rank r ≡ depth
  pub hit : Hit rel free r
  pub shortest : (k i : ℕ) → RowWalk rel senders short k i → Hit rel free i → depth ≤ k

-- no path: S has the short rows, is closed, and no row of it has a free column
pub record Stuck (rel senders : List ℕ) (short free : ℕ) (from via : ℕ → ℕ) (S : Test) : Type 0 where
  pub rank : ℕ → ℕ
  pub forest : Forest rel senders short from via S rank
  pub starts : (i : ℕ) → member short i ≡ true → S i ≡ true
  pub shut : (i j : ℕ) → S i ≡ true → holds rel i j ≡ true → member free j ≡ false
  pub closed : (i i' j : ℕ) → S i ≡ true → holds rel i j ≡ true → holds senders j i' ≡ true → S i' ≡ true

-- a path, whatever rows a search reached
pub record Found (rel senders : List ℕ) (short free : ℕ) (from via : ℕ → ℕ) (path : Path) : Type 0 where
  pub reached : Test
  pub reaches : Reaches rel senders short free from via reached path.row path.depth

-- the search's answer: a path with the rows reached, or these alone where there is none
abbrev pub SearchOf : (rel senders : List ℕ) (short free : ℕ) (from via : ℕ → ℕ) → Result Path Set → Type 0
SearchOf rel senders short free from via answer =
    MatchResult answer (λ path. Reaches rel senders short free from via (member (mask path.reached)) path.row path.depth)
    (λ reached. Stuck rel senders short free from via (member (mask reached)))

-- no path is left in a flow: short rows, free columns and links of the last search
pub record Ended (p q : ℕ) (rel supply demand senders : List ℕ) (S : Test) : Type 0 where
  pub short : ℕ
  pub free : ℕ
  pub from : ℕ → ℕ
  pub via : ℕ → ℕ
  pub rows : MaskOf p (λ i. get_or supply i 0) short
  pub columns : MaskOf q (λ j. get_or demand j 0) free
  pub stuck : Stuck rel senders short free from via S
