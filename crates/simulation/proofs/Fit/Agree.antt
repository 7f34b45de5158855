-- Fitting, gains and the cut look at a relation only at the positions of the two distributions.
-- Assumes nothing.
use mathlib.Core.Path.{◌≡◌, sym, ◌∙◌, subst}
use mathlib.Core.Bool.{Bool}
use mathlib.Core.List.{List}
use Prim.Native.Nat.{ℕ, ◌≤◌, ◌<◌}
use native.Mathlib.Nat.{le_antisymm}
use native.Mathlib.Omega.{arith}
use lib.Dec.{T}
use lib.ListN.{length}
use Rattle.simulation.specs.Fit.{Set, touched, gain, largest_gain, fits?, cut}
use Rattle.simulation.proofs.Finite.Tests.{same_test, touched-some, some-touched}
use Rattle.simulation.proofs.Fit.Gain.{gain-touched, gain-largest, largest_gained, cut-least, cut_all}
use Rattle.simulation.proofs.Fit.Compose.{fits?_mono}

-- two tests on pairs of positions agree below two lengths
abbrev pub Agree : ℕ → ℕ → (ℕ → ℕ → Bool) → (ℕ → ℕ → Bool) → Type 0
Agree p q R Q = (i j : ℕ) → i < p → j < q → R i j ≡ Q i j

agree_back : {p q : ℕ} {R Q : ℕ → ℕ → Bool} → Agree p q R Q → Agree p q Q R
agree_back h i j a b = sym (h i j a b)

-- each law one way, then both
module _ (R Q : ℕ → ℕ → Bool) (ws vs : List ℕ) (same : Agree (length ws) (length vs) R Q) where
  fits_by : T (fits? R ws vs) → T (fits? Q ws vs)
  fits_by = fits?_mono R Q ws vs (λ i j a b. subst T (same i j a b))

  touched_by : (S : Set) (j : ℕ) → j < length vs → T (touched (length ws) R S j) → T (touched (length ws) Q S j)
  touched_by S j b t =
      let w = touched-some (length ws) R S j t in
      some-touched (length ws) Q S w.0 j w.1 w.2 (subst T (same w.0 j w.1 b) w.3)

  gain_by : (S : Set) → gain Q ws vs S ≤ gain R ws vs S
  gain_by S = gain-touched Q R ws vs S (touched_by S)

pub fits_agree : (R Q : ℕ → ℕ → Bool) (ws vs : List ℕ) → Agree (length ws) (length vs) R Q → fits? R ws vs ≡ fits? Q ws vs
fits_agree R Q ws vs same = same_test (fits? R ws vs) (fits? Q ws vs) (fits_by R Q ws vs same) (fits_by Q R ws vs (agree_back same))

pub touched_agree : (R Q : ℕ → ℕ → Bool) (ws vs : List ℕ) → Agree (length ws) (length vs) R Q → (S : Set) (j : ℕ) → j < length vs → touched (length ws) R S j ≡ touched (length ws) Q S j
touched_agree R Q ws vs same S j b =
    same_test (touched (length ws) R S j) (touched (length ws) Q S j) (touched_by R Q ws vs same S j b) (touched_by Q R ws vs (agree_back same) S j b)

pub gain_agree : (R Q : ℕ → ℕ → Bool) (ws vs : List ℕ) → Agree (length ws) (length vs) R Q → (S : Set) → gain R ws vs S ≡ gain Q ws vs S
gain_agree R Q ws vs same S = le_antisymm (gain_by Q R ws vs (agree_back same) S) (gain_by R Q ws vs same S)

largest_by : (R Q : ℕ → ℕ → Bool) (ws vs : List ℕ) → Agree (length ws) (length vs) R Q → largest_gain R ws vs ≤ largest_gain Q ws vs
largest_by R Q ws vs same = let w = largest_gained R ws vs in omega (arith, w.1, gain_agree R Q ws vs same w.0, gain-largest Q ws vs w.0)

pub largest_agree : (R Q : ℕ → ℕ → Bool) (ws vs : List ℕ) → Agree (length ws) (length vs) R Q → largest_gain R ws vs ≡ largest_gain Q ws vs
largest_agree R Q ws vs same = le_antisymm (largest_by R Q ws vs same) (largest_by Q R ws vs (agree_back same))

cut_by : (R Q : ℕ → ℕ → Bool) (ws vs : List ℕ) → Agree (length ws) (length vs) R Q → (i : ℕ) → i < length ws → T (cut R ws vs i) → T (cut Q ws vs i)
cut_by R Q ws vs same i b t = cut_all Q ws vs i (λ S e. cut-least R ws vs S (gain_agree R Q ws vs same S ∙ e ∙ sym (largest_agree R Q ws vs same)) i b t)

pub cut_agree : (R Q : ℕ → ℕ → Bool) (ws vs : List ℕ) → Agree (length ws) (length vs) R Q → (i : ℕ) → i < length ws → cut R ws vs i ≡ cut Q ws vs i
cut_agree R Q ws vs same i b = same_test (cut R ws vs i) (cut Q ws vs i) (cut_by R Q ws vs same i b) (cut_by Q R ws vs (agree_back same) i b)
