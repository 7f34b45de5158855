-- Lists of zeros.
-- Assumes nothing.
use mathlib.Core.Path.{◌≡◌, ap, ◌∙◌}
use Prim.Native.Nat.{ℕ}
use lib.ListN.{length, get_or, replicate, length-replicate}
use Rattle.simulation.proofs.Finite.Lists.{zeros-at}
use Rattle.word.specs.Mask.{member}
use Rattle.word.proofs.Mask.{member-none}
use Rattle.relation.proofs.Relations.{zero_row}
use Rattle.links.specs.Links.{Empty}

-- n zeros, and no other number
pub zeros_of : (n : ℕ) → (length {A = ℕ} (replicate n 0) ≡ n) × ((i : ℕ) → ◌≡◌ {A = ℕ} (get_or (replicate n 0) i 0) 0)
zeros_of n = (length-replicate n 0, zeros-at n)

-- rows of zeros have no pair
pub no_pairs : (n : ℕ) → Empty (replicate n 0)
no_pairs n s t = ap (λ (m : ℕ). member m t) (zero_row (replicate n 0) (zeros-at n) s) ∙ member-none t
