-- Pairs that are listed, those still to be passed, and what a walk over them does.
-- Assumes nothing.
use Rattle.form.specs.declared.tables.Tables.{Tables}
use Rattle.std.specs.Prelude.{◌≡◌, ◌⊎◌, ◌||◌, List, ℕ, ◌*◌, ◌≤◌, ◌<◌, T, eqb, length, get_or}
use Rattle.std.specs.Borrow.{MutBor}
use Rattle.simulation.specs.Limits.{most_states, most_pairs}
use Rattle.simulation.specs.Sum.{any}
use Rattle.simulation.specs.Table.{target_at}
use Rattle.simulation.specs.Round.{pairs, rank}
use Rattle.simulation.specs.Tree.{chosen, set_of}
use Rattle.form.specs.Tables.{first_table, contract_table}
use Rattle.word.specs.Mask.{member}
use Rattle.set.specs.Words.{mask}
use Rattle.relation.specs.Rows.{row_of, height}
use Rattle.counting.specs.Pair.{number, row, column}
use Rattle.counting.specs.Count.{child, Tally, Tallied}
use Rattle.relate.specs.Ranked.{RanksRight}
use Rattle.choice.specs.Choice.{Lost, Choice}
use Rattle.passing.specs.declared.Trail.{Trail}

-- what adding the pairs of targets and members of their sets rests on
pub record ChildrenLent (targets sets todo : List ℕ) : Type 0 where
  pub few : length targets ≤ most_states
  pub words : most_states ≤ height sets
  pub rows : most_states ≤ height todo
  pub low : (i : ℕ) → i < length targets → get_or targets i 0 < most_states

-- the pairs of the first n targets are added
pub record ChildrenAdded (targets sets : List ℕ) (n : ℕ) (todo : List ℕ) (rows : ℕ) (todo' : List ℕ) (rows' : ℕ) : Type 0 where
  pub listed : (u v : ℕ) → member (row_of todo' u) v ≡ (any n (child targets sets u v) || member (row_of todo u) v)
  pub opened : (u : ℕ) → member rows' u ≡ (any n (λ i. eqb (get_or targets i 0) u) || member rows u)

-- what ordering rests on: room for each pair and its transition, and for a flow
pub record OrderGiven (tables : Tables) (ranks order choices amounts : List ℕ) : Type 0 where
  pub ranked : RanksRight tables ranks
  pub room : pairs (first_table tables) (contract_table tables) ≤ length order
  pub notes : pairs (first_table tables) (contract_table tables) ≤ length choices
  pub amounts_room : most_pairs ≤ length amounts

-- a list that was lent is still that list, and as long
pub record Same (l k : MutBor (List ℕ)) : Type 0 where
  pub name : k.ghost_name ≡ l.ghost_name
  pub size : length k.now ≡ length l.now

-- a walk has the lists that it was lent
pub record Kept (W V : Trail) : Type 0 where
  pub same_order : Same W.order V.order
  pub same_choices : Same W.choices V.choices
  pub same_counts : Same W.counts V.counts
  pub same_todo : Same W.todo V.todo
  pub same_sets : Same W.sets V.sets
  pub same_amounts : Same W.amounts V.amounts

-- what passing rests on: what ordering does, and rows to work with
pub record PassGiven (tables : Tables) (ranks : List ℕ) (W : Trail) : Type 0 where
  pub given : OrderGiven tables ranks W.order.now W.choices.now W.amounts.now
  pub rows : most_states ≤ height W.todo.now
  pub sets_room : 2 * most_states ≤ height W.sets.now

-- the pair (s, t) is still to be passed
abbrev pub ToDo : (W : Trail) (s t : ℕ) → Type 0
ToDo W s t = T (member (row_of W.todo.now s) t)

-- the number p is listed after place k, and anywhere
abbrev pub Later : (order : List ℕ) (n k p : ℕ) → Type 0
Later order n k p = (i : ℕ) × (k < i) × (i < n) × (get_or order i 0 ≡ p)

abbrev pub Found : (order : List ℕ) (n p : ℕ) → Type 0
Found order n p = (i : ℕ) × (i < n) × (get_or order i 0 ≡ p)

module _ (tables : Tables) where
  -- the pair with number p is not kept, and each pair below it passes the test
  pub record Above (passes : ℕ → ℕ → Type 0) (p : ℕ) : Type 0 where
    pub lost : Lost tables (row tables p) (column tables p)
    pub below : (i v : ℕ) → i < length (chosen (first_table tables) (contract_table tables) (row tables p) (column tables p)).entries → T (set_of (first_table tables) (contract_table tables) (row tables p) (column tables p) i v)
        → passes (target_at (chosen (first_table tables) (contract_table tables) (row tables p) (column tables p)) i) v

  -- the transitions chosen for the first n pairs of the list are noted
  pub record PairNoted (order : List ℕ) (n : ℕ) (choices : List ℕ) : Type 0 where
    pub at : (k : ℕ) → k < n → Choice tables (row tables (get_or order k 0)) (column tables (get_or order k 0)) (get_or choices (get_or order k 0) 0)

  -- the pair (s, t) is listed, or still to be passed
  abbrev pub Seen : (W : Trail) (s t : ℕ) → Type 0
  Seen W s t = ToDo W s t ⊎ Found W.order.now W.walk.count (number tables s t)

  -- no pair that is still to be passed is kept or above rank r, the pairs below one that is passed come after it or are still to be passed, and its transition is noted
  pub record Passing (r : ℕ) (W : Trail) : Type 0 where
    pub fits : W.walk.count ≤ length W.order.now
    pub few : W.walk.count ≤ most_pairs
    pub open_row : (s t : ℕ) → ToDo W s t → T (member (mask W.walk.rows) s)
    pub lost : (s t : ℕ) → ToDo W s t → Lost tables s t
    pub most : (s t : ℕ) → ToDo W s t → rank (first_table tables) (contract_table tables) s t ≤ r
    pub at : (k : ℕ) → k < W.walk.count → Above (λ u v. ToDo W u v ⊎ Later W.order.now W.walk.count k (number tables u v)) (get_or W.order.now k 0)
    pub high : (k : ℕ) → k < W.walk.count → r ≤ rank (first_table tables) (contract_table tables) (row tables (get_or W.order.now k 0)) (column tables (get_or W.order.now k 0))
    pub gone : (k : ℕ) → k < W.walk.count → ToDo W (row tables (get_or W.order.now k 0)) (column tables (get_or W.order.now k 0)) → ⊥
    pub once : (k l : ℕ) → k < l → l < W.walk.count → get_or W.order.now k 0 ≡ get_or W.order.now l 0 → ⊥
    pub noted : PairNoted W.order.now W.walk.count W.choices.now

  -- a walk at rank r can go on: its lists have room, the pairs that it has passed and those still to be passed are in order, and no pair is counted more often than there are bytes
  pub record Walking (ranks : List ℕ) (r : ℕ) (W : Trail) : Type 0 where
    pub given : PassGiven tables ranks W
    pub passing : Passing r W
    pub tally : Tally tables W.counts.now W.walk.bytes

  -- a walk is at a pair of rank r that is still to be passed
  pub record AtPair (ranks : List ℕ) (r s t : ℕ) (W : Trail) : Type 0 where
    pub walking : Walking ranks r W
    pub here : ToDo W s t
    pub this_rank : r ≡ rank (first_table tables) (contract_table tables) s t

  -- the walk W went on to V at rank r: some pairs of that rank are passed and counted, no pair of that rank is added, and every pair that was seen is seen still
  pub record Passed (r : ℕ) (W V : Trail) : Type 0 where
    pub passing : Passing r V
    pub tallied : Tallied tables W.counts.now W.walk.bytes V.counts.now V.walk.bytes
    pub old : (s t : ℕ) → ToDo V s t → rank (first_table tables) (contract_table tables) s t ≡ r → ToDo W s t
    pub stays : (s t : ℕ) → Seen W s t → Seen V s t
    pub kept : Kept W V

  -- the pair (s, t) is passed, and no other
  pub record PairPassed (r s t : ℕ) (W V : Trail) : Type 0 where
    pub passed : Passed r W V
    pub gone : ToDo V s t → ⊥
    pub others : (u v : ℕ) → ToDo W u v → ((u ≡ s) × (v ≡ t) → ⊥) → ToDo V u v

  -- all pairs of row s and rank r are passed
  pub record RowPassed (r s : ℕ) (W V : Trail) : Type 0 where
    pub passed : Passed r W V
    pub gone : (t : ℕ) → ToDo V s t → rank (first_table tables) (contract_table tables) s t ≡ r → ⊥
