-- Rows written one after the other.
-- Assumes nothing.
use mathlib.Core.Path.{◌≡◌, sym, ap, ◌∙◌, subst}
use mathlib.Core.List.{List}
use mathlib.Core.Logic.{⊎_elim}
use Prim.Native.Nat.{ℕ, ◌+◌, ◌≤◌, ◌<◌}
use native.Mathlib.Omega.{arith}
use Rattle.simulation.proofs.Finite.Tests.{last_or_below}
use Rattle.word.specs.Mask.{Test, member}
use Rattle.set.specs.Words.{mask}
use Rattle.relation.specs.Rows.{row_of, height, put_row}
use Rattle.relation.specs.Related.{holds}
use Rattle.set.specs.declared.Set.{Set}
use Rattle.relation.proofs.RowLaws.{row_put, row_put_other}

-- one row more
pub rows_next : (F : ℕ → Test) (l : List ℕ) (n : ℕ) (x : Set) → n < height l → member (mask x) ≡ F n → ((s t : ℕ) → s < n → holds l s t ≡ F s t)
    → (s t : ℕ) → s < n + 1 → holds (put_row l n x) s t ≡ F s t
rows_next F l n x room e h s t a =
    ⊎_elim
    (λ (q : s ≡ n).
    subst (λ (s : ℕ). holds (put_row l n x) s t ≡ F s t) (sym q) (ap (λ (y : ℕ). member y t) (row_put l n x room) ∙ ap (λ (X : Test). X t) e))
    (λ (b : s < n). ap (λ (y : ℕ). member y t) (row_put_other l n s x (λ q. omega arith)) ∙ h s t b)
    (last_or_below s n (omega arith))

-- what lies above a row written is as it was
pub rows_left : (l₀ l : List ℕ) (n : ℕ) (x : Set) → ((s : ℕ) → n ≤ s → row_of l s ≡ row_of l₀ s) → (s : ℕ) → n + 1 ≤ s → row_of (put_row l n x) s ≡ row_of l₀ s
rows_left l₀ l n x h s a = row_put_other l n s x (λ q. omega arith) ∙ h s (omega arith)
