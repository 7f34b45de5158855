-- Sharing out with targets of weight 0: they send and take nothing, and without them the same distributions fit.
-- Assumes nothing.
use mathlib.Core.Path.{◌≡◌, sym, ◌∙◌, ap, subst}
use mathlib.Core.Bool.{Bool}
use mathlib.Core.List.{List}
use mathlib.Core.Logic.{⊎_elim, ◌↔◌}
use Prim.Native.Nat.{ℕ, ◌*◌, ◌<◌}
use native.Mathlib.Omega.{arith}
use lib.Dec.{T}
use lib.ListN.{length}
use Rattle.simulation.specs.Sum.{sum}
use Rattle.simulation.specs.Fit.{Amounts, Shares, Fits, weight, total, fits?}
use Rattle.simulation.proofs.Finite.Tests.{same_test}
use Rattle.simulation.proofs.Finite.Sums.{sum_ext, sum_term, sum-zero}
use Rattle.simulation.proofs.Fit.Hall.{fits?→Fits, Fits→fits?}
use Rattle.simulation.proofs.Support.Weights.{support-weights, place, spread, place_law, place_or_zero, spread_place, spread_zero, sum_spread, sum-support, total-support}

-- the two sides exchanged
pub shares_swap : (P : ℕ → ℕ → Type 0) (ws vs : List ℕ) (x : Amounts) → Shares P ws vs x → Shares (λ j i. P i j) vs ws (λ j i. x i j)
shares_swap P ws vs x f = record { support = λ j i b a d. f.support i j a b d; sent = f.taken; taken = f.sent }

module _ (P : ℕ → ℕ → Type 0) (ws vs : List ℕ) where
  -- nothing is taken in where the weight is 0
  pub unused_column : (x : Amounts) → Shares P ws vs x → (i j : ℕ) → i < length ws → j < length vs → weight vs j ≡ 0 → x i j ≡ 0
  unused_column x f i j a b e = omega (arith, f.taken j b, ap (λ (n : ℕ). n * total ws) e, sum_term (length ws) (λ i. x i j) i a)

  pub columns-drop : (x : Amounts) → Shares P ws vs x → Shares (λ i j. P i (place vs j)) ws (support-weights vs) (λ i j. x i (place vs j))
  columns-drop x f =
      record {
        support = λ i j a b d. f.support i (place vs j) a (place_law vs j b).bound d;
        sent = λ i a. sym (sum-support vs (λ j. x i j) (λ k b e. unused_column x f i k a b e)) ∙ f.sent i a ∙ ap (λ (n : ℕ). weight ws i * n) (sym (total-support vs));
        taken = λ j b. let h = place_law vs j b in f.taken (place vs j) h.bound ∙ ap (λ (n : ℕ). n * total ws) h.same-weight;
      }

  pub columns_add : (y : Amounts) → Shares (λ i j. P i (place vs j)) ws (support-weights vs) y → Shares P ws vs (λ i. spread 0 vs (y i))
  columns_add y f =
      record {
        support = λ i k a b d.
            ⊎_elim (λ e. absurd (d (spread_zero 0 vs (y i) k e)))
            (λ r.
            subst (λ (k : ℕ). P i k) r.2
            (f.support i r.0 a r.1 (λ z. d (ap (spread 0 vs (y i)) (sym r.2) ∙ spread_place 0 vs (y i) r.0 r.1 ∙ z))))
            (place_or_zero vs k b);
        sent = λ i a. sum_spread vs (y i) ∙ f.sent i a ∙ ap (λ (n : ℕ). weight ws i * n) (total-support vs);
        taken = λ k b.
            ⊎_elim
            (λ e. sum_ext (length ws) (λ i. spread 0 vs (y i) k) (λ i. 0) (λ i a. spread_zero 0 vs (y i) k e) ∙ sum-zero (length ws) ∙ omega (arith, ap (λ (n : ℕ). n * total ws) e))
            (λ r.
            subst (λ (k : ℕ). sum (length ws) (λ i. spread 0 vs (y i) k) ≡ weight vs k * total ws) r.2
            (sum_ext (length ws) _ (λ i. y i r.0) (λ i a. spread_place 0 vs (y i) r.0 r.1)
            ∙ f.taken r.0 r.1
            ∙ ap (λ (n : ℕ). n * total ws) (sym (place_law vs r.0 r.1).same-weight)))
            (place_or_zero vs k b);
      }

-- the same of the first distribution
module _ (P : ℕ → ℕ → Type 0) (ws vs : List ℕ) where
  pub unused_row : (x : Amounts) → Shares P ws vs x → (i j : ℕ) → i < length ws → j < length vs → weight ws i ≡ 0 → x i j ≡ 0
  unused_row x f i j a b e = unused_column (λ j i. P i j) vs ws (λ j i. x i j) (shares_swap P ws vs x f) j i b a e

  pub rows_drop : (x : Amounts) → Shares P ws vs x → Shares (λ i j. P (place ws i) j) (support-weights ws) vs (λ i j. x (place ws i) j)
  rows_drop x f = shares_swap _ vs (support-weights ws) _ (columns-drop (λ j i. P i j) vs ws (λ j i. x i j) (shares_swap P ws vs x f))

  pub rows_add : (y : Amounts) → Shares (λ i j. P (place ws i) j) (support-weights ws) vs y → Shares P ws vs (λ k j. spread 0 ws (λ i. y i j) k)
  rows_add y f = shares_swap _ vs ws _ (columns_add (λ j i. P i j) vs ws (λ j i. y i j) (shares_swap (λ i j. P (place ws i) j) (support-weights ws) vs y f))

-- both at once: amounts on the pairs of targets that are kept are right exactly if, with 0 on all other pairs, they are right
module _ (P : ℕ → ℕ → Type 0) (ws vs : List ℕ) where
  pub shares-drop : (x : Amounts) → Shares P ws vs x → Shares (λ i j. P (place ws i) (place vs j)) (support-weights ws) (support-weights vs) (λ i j. x (place ws i) (place vs j))
  shares-drop x f = columns-drop (λ i j. P (place ws i) j) (support-weights ws) vs _ (rows_drop P ws vs x f)

  pub shares_add : (y : Amounts) → Shares (λ i j. P (place ws i) (place vs j)) (support-weights ws) (support-weights vs) y → Shares P ws vs (λ k. spread 0 vs (λ j. spread 0 ws (λ i. y i j) k))
  shares_add y f = columns_add P ws vs _ (rows_add (λ i j. P i (place vs j)) ws (support-weights vs) y f)

  pub Fits-support : Fits P ws vs ↔ Fits (λ i j. P (place ws i) (place vs j)) (support-weights ws) (support-weights vs)
  Fits-support = (λ f. record { amount = _; shares = shares-drop f.amount f.shares }, λ f. record { amount = _; shares = shares_add f.amount f.shares })

pub fits-support : (R : ℕ → ℕ → Bool) (ws vs : List ℕ) → fits? (λ i j. R (place ws i) (place vs j)) (support-weights ws) (support-weights vs) ≡ fits? R ws vs
fits-support R ws vs =
    same_test (fits? placed (support-weights ws) (support-weights vs)) (fits? R ws vs)
    (λ t. Fits→fits? R ws vs (both.1 (fits?→Fits placed (support-weights ws) (support-weights vs) t)))
    (λ t. Fits→fits? placed (support-weights ws) (support-weights vs) (both.0 (fits?→Fits R ws vs t)))
  where
    placed : ℕ → ℕ → Bool
    placed i j = R (place ws i) (place vs j)

    both : Fits (λ i j. T (R i j)) ws vs ↔ Fits (λ i j. T (placed i j)) (support-weights ws) (support-weights vs)
    both = Fits-support (λ i j. T (R i j)) ws vs
