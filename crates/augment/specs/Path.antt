-- A path of k steps back from row i, by from and via: its root, what it can carry, and a move of d along it.
-- Assumes nothing.
use Rattle.std.specs.Prelude.{List, ℕ, zero, suc, ◌+◌, ◌^◌, ◌≤◌, ◌<◌, min}
use Rattle.simulation.specs.Limits.{most_states}
use Rattle.matrix.specs.Matrix.{cell, Adds}
use Rattle.matrix.specs.Masks.{Noted}

module _ (from via : ℕ → ℕ) where
  unfoldable pub root : ℕ → ℕ → ℕ
  root zero i = i
  root (suc k) i = root k (from i)

  -- the least of m and the amounts on the path
  unfoldable pub carried : List ℕ → ℕ → ℕ → ℕ → ℕ
  carried x zero i m = m
  carried x (suc k) i m = carried x k (from i) (min m (cell x i (via i)))

  -- the path's rows and columns are below most-states
  unfoldable pub Safe : ℕ → ℕ → Type 0
  Safe zero i = i < most_states
  Safe (suc k) i = (i < most_states) × (via i < most_states) × Safe k (from i)

  -- d can be moved along the path to column c
  unfoldable pub Movable : (d k i c : ℕ) → List ℕ → Type 0
  Movable d zero i c x = (c < most_states) × (cell x i c + d < 2 ^ 32)
  Movable d (suc k) i c x = (c < most_states) × (d ≤ cell x i (via i))
      × ((y : List ℕ) → Adds y x i (via i) d → (cell y i c + d < 2 ^ 32) × ((z : List ℕ) → Adds y z i c d → Movable d k (from i) (via i) z))

  -- d was moved: each row of the path but its root passes it on from the column it was reached by
  pub data Moved (d : ℕ) : (k i c : ℕ) → (x senders x' senders' : List ℕ) → Type 0 where
    last : {i c : ℕ} {x senders x' senders' : List ℕ} → Adds x x' i c d → Noted x' senders senders' i c → Moved d zero i c x senders x' senders'
    next : {k i c : ℕ} {x senders y senders₁ z senders₂ x' senders' : List ℕ} → Adds y x i (via i) d → Noted y senders senders₁ i (via i)
        → Adds y z i c d → Noted z senders₁ senders₂ i c → Moved d k (from i) (via i) z senders₂ x' senders' → Moved d (suc k) i c x senders x' senders'
