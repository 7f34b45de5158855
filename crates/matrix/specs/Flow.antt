-- A partial flow under construction: x holds the amounts, a what each row has left to send, b what each column has left to take,
-- senders the rows with an amount in each column.
-- Assumes nothing.
use Rattle.std.specs.Prelude.{◌≡◌, true, List, ◌≢◌, ℕ, ◌+◌, ◌≤◌, ◌<◌, ◌^◌, length, get_or}
use Rattle.simulation.specs.Limits.{most_pairs, most_states}
use Rattle.simulation.specs.Sum.{sum}
use Rattle.relation.specs.Rows.{height}
use Rattle.relation.specs.Related.{holds}
use Rattle.matrix.specs.Matrix.{cell, Outside, delta, row_sum, column_sum}
use Rattle.matrix.specs.Masks.{Used}

-- what the columns lack together
unfoldable pub missing : ℕ → List ℕ → ℕ
unfolding sum
missing q b = sum q (λ j. get_or b j 0)

-- the lists are long enough
pub record Sized (p q : ℕ) (rel x a b senders : List ℕ) : Type 0 where
  pub few_rows : p ≤ most_states
  pub few_columns : q ≤ most_states
  pub masks : p ≤ height rel
  pub cells : most_pairs ≤ length x
  pub supplies : p ≤ length a
  pub demands : q ≤ length b
  pub columns : most_states ≤ height senders

pub record Supported (p q : ℕ) (rel x : List ℕ) : Type 0 where
  pub support : (i j : ℕ) → i < p → j < q → cell x i j ≢ 0 → holds rel i j ≡ true

-- the amounts fit 32 bits
pub record Small (p q : ℕ) (x a : List ℕ) : Type 0 where
  pub fits : (i : ℕ) → i < p → row_sum q x i + get_or a i 0 < 2 ^ 32

pub record Flow (p q : ℕ) (rel x a b senders : List ℕ) : Type 0 where
  pub sized : Sized p q rel x a b senders
  pub supported : Supported p q rel x
  pub small : Small p q x a
  pub used : Used p q x senders

-- what each row has to send and each column has to take, sent and left together, stays
pub record Preserves (p q : ℕ) (x a b x' a' b' : List ℕ) : Type 0 where
  pub sent : (i : ℕ) → i < p → row_sum q x' i + get_or a' i 0 ≡ row_sum q x i + get_or a i 0
  pub taken : (j : ℕ) → j < q → column_sum p x' j + get_or b' j 0 ≡ column_sum p x j + get_or b j 0

-- x' is x with d more in the sums of row r and column c, on related pairs only
pub record Extends (p q : ℕ) (rel x x' : List ℕ) (r c d : ℕ) : Type 0 where
  pub rows : (i : ℕ) → i < p → row_sum q x' i ≡ row_sum q x i + delta r i d
  pub columns : (j : ℕ) → j < q → column_sum p x' j ≡ column_sum p x j + delta c j d
  pub supported : Supported p q rel x'
  pub outside : Outside p q x x'

-- another flow of the same supplies and demands
pub record Improves (p q : ℕ) (rel x a b senders x' a' b' senders' : List ℕ) : Type 0 where
  pub flow : Flow p q rel x' a' b' senders'
  pub preserves : Preserves p q x a b x' a' b'
  pub outside : Outside p q x x'
  pub same_x : length x' ≡ length x
  pub same_a : length a' ≡ length a
  pub same_b : length b' ≡ length b
  pub same_senders : length senders' ≡ length senders

-- a partial flow by its four lists: it has as many rows as supplies, and as many columns as demands
pub record Partial : Type 0 where
  pub amounts : List ℕ
  pub supply : List ℕ
  pub demand : List ℕ
  pub senders : List ℕ

abbrev pub partial : (amounts supply demand senders : List ℕ) → Partial
partial x a b senders = record { amounts = x; supply = a; demand = b; senders = senders }

abbrev pub FlowIn : List ℕ → Partial → Type 0
FlowIn rel F = Flow (length F.supply) (length F.demand) rel F.amounts F.supply F.demand F.senders

abbrev pub ImprovedIn : List ℕ → Partial → Partial → Type 0
ImprovedIn rel F G =
    Improves (length F.supply) (length F.demand) rel F.amounts F.supply F.demand F.senders G.amounts G.supply G.demand G.senders
