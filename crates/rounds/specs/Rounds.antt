-- Rows of masks and ranks: what is known between two rounds, and how lost pairs leave the rows and get their rank.
-- Assumes nothing.
use Rattle.std.specs.Prelude.{◌≡◌, true, cond, not, ◌&&◌, List, ◌≢◌, ℕ, ◌+◌, ◌-◌, ◌*◌, ◌≤◌, ◌<◌, leb, get_or}
use Rattle.word.specs.Mask.{Test}
use Rattle.relation.specs.Related.{holds}
use Rattle.simulation.specs.Sum.{when}
use Rattle.simulation.specs.Table.{Table, states_of}
use Rattle.simulation.specs.Round.{related, round, rank, rank_list, maximum}

-- a rank that round k or one before it has shown; 0 for any other
abbrev pub shown : ℕ → ℕ → ℕ
shown k r = when (leb r k) r

-- between round k and the next: the rows are round k, and the ranks are those shown so far
pub record After (M N : Table) (k : ℕ) (rows ranks : List ℕ) : Type 0 where
  pub rows_are : (s t : ℕ) → s < states_of M → holds rows s t ≡ related (round M N k) s t
  pub ranks_are : (s t : ℕ) → s < states_of M → t < states_of N → get_or ranks (s * states_of N + t) 0 ≡ shown k (rank M N s t)
  pub reached : k ≤ maximum (rank_list M N)

-- k at the places base + t of the members t of a set; elsewhere as before
abbrev pub marked : Test → ℕ → ℕ → List ℕ → ℕ → ℕ
marked X base k l i = cond (leb base i && X (i - base)) k (get_or l i 0)

-- each pair has a place among n, with q places to a row
abbrev pub Placed : ℕ → ℕ → List ℕ → Type 0
Placed q n lost = (s t : ℕ) → holds lost s t ≡ true → (t < q) × (s * q + t < n)

-- the pairs of R are gone from the rows and have the rank k, with q ranks to a row; all else is as it was
pub record Settled (q k : ℕ) (R : ℕ → Test) (rows rows' ranks ranks' : List ℕ) : Type 0 where
  pub rows_done : (s t : ℕ) → holds rows' s t ≡ (holds rows s t && not (R s t))
  pub ranks_done : (s t : ℕ) → t < q → get_or ranks' (s * q + t) 0 ≡ cond (R s t) k (get_or ranks (s * q + t) 0)
  pub ranks_left : (i : ℕ) → ((s t : ℕ) → R s t ≡ true → i ≢ s * q + t) → get_or ranks' i 0 ≡ get_or ranks i 0
