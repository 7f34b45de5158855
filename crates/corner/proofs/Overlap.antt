-- The shares of both sides as intervals of one line: what a target sends to another is as long as what their intervals have in common.
-- Assumes nothing.
use mathlib.Core.Path.{◌≡◌, refl, ap, ◌∙◌}
use mathlib.Core.Bool.{Bool, true}
use mathlib.Core.List.{List}
use mathlib.Core.Logic.{◌≢◌}
use Prim.Native.Nat.{ℕ, zero, suc, ◌+◌, ◌-◌, ◌*◌, ◌≤◌, ◌<◌, min, max}
use native.Mathlib.Nat.{mul_comm, mul-add, mul-zero, mul-le-mul_left}
use native.Mathlib.Decide.{ℕ_discrete}
use native.Mathlib.Numerals.{add-one}
use native.Mathlib.Omega.{arith}
use lib.Dec.{T}
use lib.ListN.{length}
use Rattle.simulation.specs.Sum.{sum}
use Rattle.simulation.specs.Fit.{weight, total, fits?}
use Rattle.simulation.proofs.Finite.Sums.{sum_ext, sum_le, sum-none, sum_more}
use Rattle.simulation.proofs.Finite.Tests.{is_true}
use Rattle.simulation.proofs.Fit.Hall.{Fits→fits?}

-- how much the intervals from a to a' and from b to b' have in common
abbrev pub overlap : (a a' b b' : ℕ) → ℕ
overlap a a' b b' = min a' b' - max a b

-- n intervals that follow each other from 0 on cover the interval from a to a' as far as they reach
pub overlaps : (B : ℕ → ℕ) (a a' n : ℕ) → a ≤ a' → B 0 ≡ 0 → ((j : ℕ) → B j ≤ B (j + 1)) → sum n (λ j. overlap a a' (B j) (B (j + 1))) + min a (B n) ≡ min a' (B n)
unfolding sum
overlaps B a a' zero l z m = omega arith
overlaps B a a' (suc n) l z m = rw (← add-one n) (omega (arith, m n, overlaps B a a' n l z m))

-- where the shares of the first i targets end, if a weight's share is its k-fold
unfoldable pub end_of : ℕ → List ℕ → ℕ → ℕ
end_of k ws i = k * sum i (weight ws)

module _ (k : ℕ) (ws : List ℕ) where
  pub end_none : end_of k ws 0 ≡ 0
  unfolding end_of
  end_none = omega (arith, ap (λ (s : ℕ). k * s) (sum-none (weight ws)), mul-zero k)

  pub end-next : (i : ℕ) → end_of k ws (i + 1) ≡ end_of k ws i + weight ws i * k
  unfolding end_of
  end-next i = omega (arith, ap (λ (s : ℕ). k * s) (sum_more i (weight ws) {t = sum i (weight ws)} refl), mul-add k (sum i (weight ws)) (weight ws i), mul_comm k (weight ws i))

  pub end_le : (i n : ℕ) → i ≤ n → end_of k ws i ≤ end_of k ws n
  unfolding end_of
  end_le i n l = elim (ℕ_discrete i n) [
    | yes e ↦ omega (arith, ap (λ (m : ℕ). k * sum m (weight ws)) e)
    | no d ↦ let h : sum i (weight ws) ≤ sum n (weight ws) = omega (arith, sum_le i n (weight ws) (omega arith)) in mul-le-mul_left k h
  ]

  pub end-last : end_of k ws (length ws) ≡ total ws * k
  unfolding end_of total
  end-last = mul_comm k (sum (length ws) (weight ws))

-- what target i of the one sends to target j of the other
abbrev pub amount : (ws vs : List ℕ) (i j : ℕ) → ℕ
amount ws vs i j = overlap (end_of (total vs) ws i) (end_of (total vs) ws (i + 1)) (end_of (total ws) vs j) (end_of (total ws) vs (j + 1))

module _ (ws vs : List ℕ) where
  -- no share ends past the product of the totals, where both sides end
  pub row_within : (i : ℕ) → i < length ws → end_of (total vs) ws (i + 1) ≤ total ws * total vs
  row_within i h = omega (arith, end_le (total vs) ws (i + 1) (length ws) (omega arith), end-last (total vs) ws)

  pub column-within : (j : ℕ) → j < length vs → end_of (total ws) vs (j + 1) ≤ total ws * total vs
  column-within j h = omega (arith, end_le (total ws) vs (j + 1) (length vs) (omega arith), end-last (total ws) vs, mul_comm (total ws) (total vs))

  -- the sums of `Shares`
  pub sent-whole : (i : ℕ) → i < length ws → sum (length vs) (λ j. amount ws vs i j) ≡ weight ws i * total vs
  sent-whole i h =
      let a = end_of (total vs) ws in
      let b = end_of (total ws) vs in
      omega (
        arith,
        overlaps b (a i) (a (i + 1)) (length vs) (end_le (total vs) ws i (i + 1) (omega arith)) (end_none (total ws) vs) (λ j. end_le (total ws) vs j (j + 1) (omega arith)),
        end-next (total vs) ws i,
        row_within i h,
        end-last (total ws) vs,
        mul_comm (total ws) (total vs),
      )

  pub taken-whole : (j : ℕ) → j < length vs → sum (length ws) (λ i. amount ws vs i j) ≡ weight vs j * total ws
  taken-whole j h =
      let a = end_of (total vs) ws in
      let b = end_of (total ws) vs in
      sum_ext (length ws) (λ i. amount ws vs i j) (λ i. overlap (b j) (b (j + 1)) (a i) (a (i + 1))) (λ i _. omega arith)
      ∙ omega (
        arith,
        overlaps a (b j) (b (j + 1)) (length ws) (end_le (total ws) vs j (j + 1) (omega arith)) (end_none (total vs) ws) (λ i. end_le (total vs) ws i (i + 1) (omega arith)),
        end-next (total ws) vs j,
        column-within j h,
        end-last (total vs) ws,
      )

  -- targets that have something in common are related: then the one fits the other
  pub shares_out : (R : ℕ → ℕ → Bool) → ((i j : ℕ) → i < length ws → j < length vs → amount ws vs i j ≢ 0 → T (R i j)) → fits? R ws vs ≡ true
  shares_out R s = is_true (fits? R ws vs) (Fits→fits? R ws vs (record { amount = amount ws vs; shares = record { support = s; sent = sent-whole; taken = taken-whole } }))
