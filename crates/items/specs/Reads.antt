-- What a read returns: the value and the moved cursor, or that the bytes end before it.
-- Assumes nothing.
use Rattle.std.specs.Prelude.{List, Result, ◌≡◌, ℕ, pred, ◌+◌, ◌*◌, ◌≤◌, ◌<◌, leb, length}
use Rattle.layout.specs.Bytes.{refuse◌unless◌, first, code_refusal}
use Rattle.layout.specs.declared.refusals.Refusal.{Refusal}
use Rattle.layout.specs.Refusals.{GivesUnless}
use Rattle.items.specs.declared.cursor.Cursor.{Cursor}

-- r is the value v, which is below the bound
pub record ValueBelow (bound v r : ℕ) : Type 0 where
  pub is : r ≡ v
  pub small : r < bound

-- r is what a read of n bytes from the place p on gives: the value v and the cursor behind them, unless the bytes end before
abbrev pub Reads : (s : List ℕ) (p n v : ℕ) → Result (ℕ × Cursor) Refusal → Type 0
Reads s p n v r = GivesUnless (refuse 1 unless leb (p + n) (length s)) r (λ x. (x.0 ≡ v) × (x.1.at ≡ p + n) × (x.1.at ≤ length s))

-- the n codes of section 1 are there and ascend, where each takes w bytes
pub record Ascending (w : ℕ) (s : List ℕ) (n : ℕ) : Type 0 where
  pub room : w + w * n ≤ length s
  pub ascend : first 0 (pred n) (code_refusal w s) ≡ 0
