-- Rows that begin with zeros.
-- Assumes nothing.
use mathlib.Core.Path.{◌≡◌, ap, ◌∙◌}
use mathlib.Core.List.{List, ◌++◌}
use Prim.Native.Nat.{ℕ, ◌+◌, ◌*◌, ◌<◌}
use native.Mathlib.Omega.{arith}
use lib.ListN.{length, get_or, replicate, length-replicate, get_or-append}
use Rattle.simulation.proofs.Finite.Lists.{zeros-at}
use Rattle.set.specs.Words.{words}
use Rattle.relation.specs.Rows.{row_of}
use Rattle.set.proofs.Words.{number-none}

pub cleared : {n m : ℕ} {zeros : List ℕ} (l : List ℕ) → zeros ≡ replicate m 0 → m ≡ n * words → (s : ℕ) → s < n → row_of (zeros ++ l) s ≡ 0
unfolding row_of
cleared {n} {m} {zeros} l e size s lt =
    number-none words (λ i. get_or (zeros ++ l) (s * words + i) 0)
    (λ i li.
    get_or-append zeros l 0 (s * words + i) (omega (arith, ap length e, length-replicate {A = ℕ} m 0))
    ∙ ap (λ (z : List ℕ). get_or z (s * words + i) 0) e ∙ zeros-at m (s * words + i))
