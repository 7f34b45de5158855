-- What the kernel's entry for C and Rust answers, whatever it is given.
-- Assumes nothing.
use Rattle.std.specs.Prelude.{◌≡◌, Bool, true, false, List, ℕ, ◌<◌, length, set}
use Rattle.set.specs.Words.{mask}
use Rattle.relation.specs.Rows.{height, put_row}
use Rattle.set.specs.declared.Set.{Set}
use Rattle.matrix.specs.Problem.{Given}
use Rattle.transport.specs.Answer.{MaximumFlow}
use Rattle.transport.specs.Paths.{Counts}

-- what the kernel takes, and a place for its cut and for the number of paths
pub record Taken (ws vs rel x cut paths : List ℕ) : Type 0 where
  pub given : Given ws vs rel x
  pub cut_place : 0 < height cut
  pub paths_place : 0 < length paths

-- whether it is taken
pub record Accepts (ws vs rel x cut paths : List ℕ) (r : Bool) : Type 0 where
  pub taken : r ≡ true → Taken ws vs rel x cut paths
  pub refused : r ≡ false → Taken ws vs rel x cut paths → ⊥

-- 1 with the kernel's answer, its cut c and the number of paths k first in their buffers, where the input is taken; else 0, and nothing changed
pub record FlowAnswered (ws vs rel x cut paths x' cut' paths' : List ℕ) (r : ℕ) : Type 0 where
  pub answered : Taken ws vs rel x cut paths → (r ≡ 1) × (c : Set) × (k : ℕ) × (cut' ≡ put_row cut 0 c) × (paths' ≡ set paths 0 k)
      × MaximumFlow ws vs rel x x' (mask c) × Counts ws vs rel x' k
  pub refused : (Taken ws vs rel x cut paths → ⊥) → (r ≡ 0) × (x' ≡ x) × (cut' ≡ cut) × (paths' ≡ paths)
