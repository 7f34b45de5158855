-- What sets of targets tell of a fit: ms are the targets of m, and the mask has those of n.
-- Assumes nothing.
use Rattle.std.specs.Prelude.{◌≡◌, Bool, true, false, Option, Some, None, List, ℕ, ◌<◌, length, get_or}
use Rattle.word.specs.Mask.{member}
use Rattle.relation.specs.Related.{holds}

-- a mask has the first n numbers of a list, and no others
pub record SetOf (ts : List ℕ) (n : ℕ) (mask : ℕ) : Type 0 where
  pub has : (i : ℕ) → i < n → member mask (get_or ts i 0) ≡ true
  pub only : (u : ℕ) → member mask u ≡ true → (i : ℕ) × (i < n) × (get_or ts i 0 ≡ u)

-- a state is related to none of a set
abbrev pub Unrelated : (rows : List ℕ) (s to : ℕ) → Type 0
Unrelated rows s to = (u : ℕ) → member to u ≡ true → holds rows s u ≡ false

-- a target of m is related to none of n
abbrev pub RowMissing : (rows ms : List ℕ) (to : ℕ) → Type 0
RowMissing rows ms to = (i : ℕ) × (i < length ms) × Unrelated rows (get_or ms i 0) to

-- each target of m is related to all of every, and to none outside some
pub record Bounding (rows ms : List ℕ) (some every : ℕ) : Type 0 where
  pub others : (i u : ℕ) → i < length ms → member some u ≡ false → holds rows (get_or ms i 0) u ≡ false
  pub within : (i u : ℕ) → i < length ms → member every u ≡ true → holds rows (get_or ms i 0) u ≡ true

-- what is settled by such bounds: a fit, a misfit, or neither
abbrev pub Settles : (some every to : ℕ) → Option Bool → Type 0
Settles some every to (Some true) = (u : ℕ) → member to u ≡ true → member every u ≡ true
Settles some every to (Some false) = (u : ℕ) × (member to u ≡ true) × (member some u ≡ false)
Settles some every to None = Unit {0}
