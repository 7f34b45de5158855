-- A round's relation between targets, out of the ranks of all pairs (01, "Keeping, ranking, sharing out").
-- Assumes nothing.
use Rattle.std.specs.Prelude.{◌≡◌, List, ℕ, ◌+◌, ◌*◌, ◌<◌, ◌≤◌, length, get_or}
use Rattle.word.specs.Mask.{Test, member, part}
use Rattle.relation.specs.Rows.{row_of}
use Rattle.relation.specs.Ranks.{lasts}

-- the state s is related to the target at position j
abbrev pub ranked_row : List ℕ → (width r s : ℕ) → List ℕ → Test
ranked_row ranks width r s nt j = lasts r (get_or ranks (s * width + get_or nt j 0) 0)

-- the ranks have a place for s and each target
abbrev pub Indexed : List ℕ → (width s : ℕ) → List ℕ → Type 0
Indexed ranks width s nt = (j : ℕ) → j < length nt → s * width + get_or nt j 0 < length ranks

-- row i is that of the target at position i of mt; nothing else changes
pub record Rows (ranks : List ℕ) (width r : ℕ) (mt nt rel rel' : List ℕ) : Type 0 where
  pub size : length rel' ≡ length rel
  pub masks : (i : ℕ) → i < length mt → member (row_of rel' i) ≡ part (length nt) (ranked_row ranks width r (get_or mt i 0) nt)
  pub rest : (i : ℕ) → length mt ≤ i → row_of rel' i ≡ row_of rel i
