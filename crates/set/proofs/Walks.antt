-- A walk over the members of a set begins with all of them.
-- Assumes nothing.
use mathlib.Core.Path.{◌≡◌, sym, subst}
use Prim.Native.Nat.{ℕ}
use Rattle.set.specs.Words.{mask}
use Rattle.set.specs.declared.Set.{Set}

-- what is known of a set is known of what the walk has left
pub begun : {s left : Set} (P : ℕ → Type 0) → left ≡ s → P (mask s) → P (mask left)
begun P e = subst (λ (t : Set). P (mask t)) (sym e)
