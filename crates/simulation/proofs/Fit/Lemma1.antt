-- Lemma 1 of source 001 in one statement, and that the cut is the smallest set of the largest excess.
-- Assumes nothing.
use mathlib.Core.Path.{◌≡◌, ◌∙◌, ap}
use mathlib.Core.Bool.{Bool}
use mathlib.Core.List.{List}
use Prim.Native.Nat.{ℕ, ◌+◌, ◌*◌, ◌<◌}
use native.Mathlib.Omega.{arith}
use lib.ListN.{length}
use Rattle.simulation.specs.Fit.{Set, weight_of, total, touched, gain, cut, Lemma1, Smallest}
use Rattle.simulation.proofs.Fit.Gain.{weight_split, gain-is, gain-largest, gain-fits, cut-least}
use Rattle.simulation.proofs.Fit.Hall.{Fits→Weighting, weighting→fits?, fits?→Fits, Fits→fits?}
use Rattle.simulation.proofs.Fit.Cut.{cut-gain}
use Rattle.simulation.proofs.Fit.Compose.{fits-touched}

module _ (R : ℕ → ℕ → Bool) (ws vs : List ℕ) where
  -- the gain is T × U more than 01's excess, so the two have the same largest sets
  pub gain_excess : (S : Set) → gain R ws vs S + total ws * weight_of vs (touched (length ws) R S) ≡ total vs * weight_of ws S + total ws * total vs
  gain_excess S = omega (arith, gain-is R ws vs S, ap (λ (n : ℕ). total ws * n) (weight_split vs (touched (length ws) R S)))

  pub lemma_1 : 0 < total ws → 0 < total vs → Lemma1 R ws vs
  lemma_1 hw hv =
      record {
        whole = (fits?→Fits R ws vs, Fits→fits? R ws vs);
        rational = (λ t. Fits→Weighting _ ws vs hw hv (fits?→Fits R ws vs t), weighting→fits? R ws vs);
        by_sets = (fits-touched R ws vs, λ h. gain-fits R ws vs (λ S. omega (arith, gain_excess S, h S)));
      }

  pub cut-smallest : Smallest R ws vs (cut R ws vs)
  cut-smallest =
      record {
        most = λ S. omega (arith, gain-largest R ws vs S, cut-gain R ws vs);
        within = λ S e. cut-least R ws vs S (e ∙ cut-gain R ws vs);
      }
