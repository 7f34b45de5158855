-- Weights without those that are 0: where each stands among all weights, and sums over either.
-- Assumes nothing.
use mathlib.Core.Path.{◌≡◌, refl, sym, ◌∙◌, ap, subst}
use mathlib.Core.List.{List, [], ◌∷◌}
use mathlib.Core.Logic.{◌⊎◌, inl, inr, ⊎_elim}
use Prim.Native.Nat.{ℕ, zero, suc, ◌+◌, ◌<◌, suc-le-suc, zero-le}
use native.Mathlib.Nat.{not-suc-le-zero, le_of_suc-le-suc}
use native.Mathlib.Numerals.{add-one}
use native.Mathlib.Omega.{arith}
use lib.ListN.{length}
use Rattle.simulation.specs.Sum.{sum}
use Rattle.simulation.specs.Fit.{Positive, weight, total}
use Rattle.simulation.proofs.Finite.Sums.{sum_ext, sum_first}

-- the weights that are not 0
unfoldable pub support-weights : List ℕ → List ℕ
support-weights [] = []
support-weights (zero ∷ ws) = support-weights ws
support-weights (suc w ∷ ws) = suc w ∷ support-weights ws

-- where the weight at place i of those stands in ws
unfoldable pub place : List ℕ → ℕ → ℕ
place [] i = i
place (zero ∷ ws) i = suc (place ws i)
place (suc w ∷ ws) zero = zero
place (suc w ∷ ws) (suc i) = suc (place ws i)

-- a function on those as one on ws, with the value d where the weight is 0
unfoldable pub spread : {A : Type 0} → A → List ℕ → (ℕ → A) → ℕ → A
spread d [] f k = d
spread d (zero ∷ ws) f zero = d
spread d (zero ∷ ws) f (suc k) = spread d ws f k
spread d (suc w ∷ ws) f zero = f zero
spread d (suc w ∷ ws) f (suc k) = spread d ws (λ i. f (suc i)) k

pub support-weights-positive : (ws : List ℕ) → Positive (support-weights ws)
unfolding support-weights
support-weights-positive [] i b = absurd (not-suc-le-zero b)
support-weights-positive (zero ∷ ws) i b = support-weights-positive ws i b
support-weights-positive (suc w ∷ ws) zero b = suc-le-suc zero-le
support-weights-positive (suc w ∷ ws) (suc i) b = support-weights-positive ws i (le_of_suc-le-suc b)

-- a place of those is a place of ws with the same weight
pub record PlaceLaw (ws : List ℕ) (i : ℕ) : Type 0 where
  pub bound : place ws i < length ws
  pub same-weight : weight ws (place ws i) ≡ weight (support-weights ws) i

pub place_law : (ws : List ℕ) (i : ℕ) → i < length (support-weights ws) → PlaceLaw ws i
unfolding support-weights place
place_law [] i b = absurd (not-suc-le-zero b)
place_law (zero ∷ ws) i b = let h = place_law ws i b in record { bound = suc-le-suc h.bound; same-weight = h.same-weight }
place_law (suc w ∷ ws) zero b = record { bound = suc-le-suc zero-le; same-weight = refl }
place_law (suc w ∷ ws) (suc i) b = let h = place_law ws i (le_of_suc-le-suc b) in record { bound = suc-le-suc h.bound; same-weight = h.same-weight }

-- places keep their order
pub place_ascends : (ws : List ℕ) (i : ℕ) → i + 1 < length (support-weights ws) → place ws i < place ws (i + 1)
unfolding support-weights place
place_ascends ws i b = rw add-one (go ws i (rw add-one at b))
  where
    go : (ws : List ℕ) (i : ℕ) → suc i < length (support-weights ws) → place ws i < place ws (suc i)
    go [] i b = absurd (not-suc-le-zero b)
    go (zero ∷ ws) i b = suc-le-suc (go ws i b)
    go (suc w ∷ ws) zero b = suc-le-suc zero-le
    go (suc w ∷ ws) (suc i) b = suc-le-suc (go ws i (le_of_suc-le-suc b))

-- every place of ws has the weight 0 or is a place of those
pub place_or_zero : (ws : List ℕ) (k : ℕ) → k < length ws → (weight ws k ≡ 0) ⊎ ((i : ℕ) × (i < length (support-weights ws)) × (place ws i ≡ k))
unfolding support-weights place
place_or_zero [] k b = absurd (not-suc-le-zero b)
place_or_zero (zero ∷ ws) zero b = inl refl
place_or_zero (zero ∷ ws) (suc k) b = ⊎_elim (λ e. inl e) (λ r. inr (r.0, r.1, ap suc r.2)) (place_or_zero ws k (le_of_suc-le-suc b))
place_or_zero (suc w ∷ ws) zero b = inr (zero, suc-le-suc zero-le, refl)
place_or_zero (suc w ∷ ws) (suc k) b = ⊎_elim (λ e. inl e) (λ r. inr (suc r.0, suc-le-suc r.1, ap suc r.2)) (place_or_zero ws k (le_of_suc-le-suc b))

module _ {A : Type 0} (d : A) where
  pub spread_place : (ws : List ℕ) (f : ℕ → A) (i : ℕ) → i < length (support-weights ws) → spread d ws f (place ws i) ≡ f i
  unfolding support-weights place spread
  spread_place [] f i b = absurd (not-suc-le-zero b)
  spread_place (zero ∷ ws) f i b = spread_place ws f i b
  spread_place (suc w ∷ ws) f zero b = refl
  spread_place (suc w ∷ ws) f (suc i) b = spread_place ws (λ i. f (suc i)) i (le_of_suc-le-suc b)

  pub spread_zero : (ws : List ℕ) (f : ℕ → A) (k : ℕ) → weight ws k ≡ 0 → spread d ws f k ≡ d
  unfolding spread
  spread_zero [] f k e = refl
  spread_zero (zero ∷ ws) f zero e = refl
  spread_zero (zero ∷ ws) f (suc k) e = spread_zero ws f k e
  spread_zero (suc w ∷ ws) f zero e = absurd (omega arith)
  spread_zero (suc w ∷ ws) f (suc k) e = spread_zero ws (λ i. f (suc i)) k e

pub sum_spread : (ws : List ℕ) (f : ℕ → ℕ) → sum (length ws) (spread 0 ws f) ≡ sum (length (support-weights ws)) f
unfolding support-weights spread sum
sum_spread [] f = refl
sum_spread (zero ∷ ws) f = sum_first (length ws) (spread 0 (zero ∷ ws) f) ∙ omega (arith, sum_spread ws f)
sum_spread (suc w ∷ ws) f =
    sum_first (length ws) (spread 0 (suc w ∷ ws) f) ∙ ap (λ (n : ℕ). f 0 + n) (sum_spread ws (λ i. f (suc i))) ∙ sym (sum_first (length (support-weights ws)) f)

-- a function that is 0 where the weight is
pub sum-support : (ws : List ℕ) (f : ℕ → ℕ) → ((k : ℕ) → k < length ws → weight ws k ≡ 0 → f k ≡ 0) → sum (length ws) f ≡ sum (length (support-weights ws)) (λ i. f (place ws i))
sum-support ws f h = sum_ext (length ws) f (spread 0 ws (λ i. f (place ws i))) same ∙ sum_spread ws (λ i. f (place ws i))
  where
    same : (k : ℕ) → k < length ws → f k ≡ spread 0 ws (λ i. f (place ws i)) k
    same k b =
        ⊎_elim (λ e. h k b e ∙ sym (spread_zero 0 ws (λ i. f (place ws i)) k e))
        (λ r. subst (λ (k : ℕ). f k ≡ spread 0 ws (λ i. f (place ws i)) k) r.2 (sym (spread_place 0 ws (λ i. f (place ws i)) r.0 r.1))) (place_or_zero ws k b)

pub total-support : (ws : List ℕ) → total (support-weights ws) ≡ total ws
unfolding total
total-support ws =
    sym (sum-support ws (weight ws) (λ k b e. e) ∙ sum_ext (length (support-weights ws)) (λ i. weight ws (place ws i)) (weight (support-weights ws)) (λ i b. (place_law ws i b).same-weight))
