-- One turn of the rule: it goes past the row or the column whose share ends first, or past both.
-- Assumes nothing.
use mathlib.Core.Path.{◌≡◌, subst, sym, ap}
use mathlib.Core.Bool.{Bool, true}
use mathlib.Core.List.{List}
use mathlib.Core.Logic.{◌≢◌, ◌⊎◌, inl, inr, ⊎_elim}
use Prim.Native.Nat.{ℕ, ◌+◌, ◌*◌, ◌≤◌, ◌<◌, ◌^◌}
use native.Mathlib.Nat.{mul_comm, mul-pos}
use native.Mathlib.Decide.{ℕ_discrete}
use native.Mathlib.Omega.{arith}
use lib.Bits.{bit_and, and_le_l, and_le_r}
use lib.Dec.{T}
use lib.ListN.{length}
use Rattle.simulation.specs.Limits.{most_total}
use Rattle.simulation.specs.Sum.{when}
use Rattle.simulation.specs.Fit.{weight, total, fits?, Positive}
use Rattle.simulation.proofs.Finite.Sums.{one_same, when-most}
use Rattle.simulation.proofs.Finite.Tests.{true_T}
use Rattle.word.proofs.Mask.{below_or_not}
use Rattle.greedy.proofs.StartLaws.{supply-fits, weight_le}
use Rattle.corner.proofs.Overlap.{end_of, end_none, end-next, end_le, end-last, amount, row_within, column-within, shares_out}

-- each pair in the first i rows or the first j columns that has something in common is related
pub record RelatedBefore (R : ℕ → ℕ → Bool) (ws vs : List ℕ) (i j : ℕ) : Type 0 where
  pub related : (k l : ℕ) → k < length ws → l < length vs → (k < i) ⊎ (l < j) → amount ws vs k l ≢ 0 → T (R k l)

-- the rule is past i rows and j columns, whose shares end at a and b, and g is 1 only if it met related pairs alone
pub record RuleAt (R : ℕ → ℕ → Bool) (ws vs : List ℕ) (i j a b g : ℕ) : Type 0 where
  pub column : i < length ws → j < length vs
  pub row-start : a ≡ end_of (total vs) ws i
  pub column-start : b ≡ end_of (total ws) vs j
  pub digit : g < 2
  pub passed : g ≡ 1 → RelatedBefore R ws vs i j

-- what a turn finds at row i and column j: their shares end at x and y, and g is 1 only if this pair is related too
pub record Turn (R : ℕ → ℕ → Bool) (ws vs : List ℕ) (i j x y g : ℕ) : Type 0 where
  pub row : i < length ws
  pub column : j < length vs
  pub row-end : x ≡ end_of (total vs) ws (i + 1)
  pub column-end : y ≡ end_of (total ws) vs (j + 1)
  pub digit : g < 2
  pub met : g ≡ 1 → T (R i j)
  pub passed : g ≡ 1 → RelatedBefore R ws vs i j

module _ {R : ℕ → ℕ → Bool} {ws vs : List ℕ} where
  pub start : 0 < length vs → RuleAt R ws vs 0 0 0 0 1
  start h = record {
    column = λ _. h;
    row-start = sym (end_none (total vs) ws);
    column-start = sym (end_none (total ws) vs);
    digit = omega arith;
    passed = λ _. record { related = λ k l _ _ d. ⊎_elim (λ u. absurd (omega arith)) (λ u. absurd (omega arith)) d };
  }

  pub past_row : {i j : ℕ} → RelatedBefore R ws vs i j → T (R i j) → end_of (total vs) ws (i + 1) ≤ end_of (total ws) vs (j + 1) → RelatedBefore R ws vs (i + 1) j
  past_row {i} {j} p r m = record {
    related = λ k l hk hl d n. elim (ℕ_discrete k i) [
      | yes e ↦ elim (ℕ_discrete l j) [
        | yes f ↦ subst (λ (l : ℕ). T (R k l)) (sym f) (subst (λ (k : ℕ). T (R k j)) (sym e) r)
        | no f ↦ ⊎_elim
            (λ u. p.related k l hk hl (inr u) n)
            (λ u. absurd (n (omega (arith, ap (λ (k : ℕ). end_of (total vs) ws (k + 1)) e, end_le (total ws) vs (j + 1) l (omega arith)))))
            (below_or_not l j)
      ]
      | no e ↦ p.related k l hk hl (⊎_elim (λ u. inl (omega arith)) inr d) n
    ];
  }

  -- the rule may be past row i already
  pub past_column : {i i' j : ℕ} → RelatedBefore R ws vs i' j → i ≤ i' → T (R i j) → end_of (total ws) vs (j + 1) ≤ end_of (total vs) ws (i + 1) → RelatedBefore R ws vs i' (j + 1)
  past_column {i} {i'} {j} p h r m = record {
    related = λ k l hk hl d n. elim (ℕ_discrete l j) [
      | yes f ↦ elim (ℕ_discrete k i) [
        | yes e ↦ subst (λ (l : ℕ). T (R k l)) (sym f) (subst (λ (k : ℕ). T (R k j)) (sym e) r)
        | no e ↦ ⊎_elim
            (λ u. p.related k l hk hl (inl u) n)
            (λ u. absurd (n (omega (arith, ap (λ (l : ℕ). end_of (total ws) vs (l + 1)) f, end_le (total vs) ws (i + 1) k (omega arith)))))
            (below_or_not k i')
      ]
      | no f ↦ p.related k l hk hl (⊎_elim inl (λ u. inr (omega arith)) d) n
    ];
  }

  module _ {i j a b g : ℕ} (s : RuleAt R ws vs i j a b g) where
    -- past the last row every pair is passed
    pub all-passed : length ws ≤ i → g ≡ 1 → fits? R ws vs ≡ true
    all-passed h e = shares_out ws vs R (λ k l hk hl n. (s.passed e).related k l hk hl (inl (omega arith)) n)

    -- a share more still fits 32 bits
    pub row_fits : total ws ≤ most_total → total vs ≤ most_total → i < length ws → a + weight ws i * total vs < 2 ^ 32
    row_fits p q h = omega (arith, s.row-start, end-next (total vs) ws i, row_within ws vs i h, supply-fits (total ws) (total vs) p q)

    pub column_fits : total ws ≤ most_total → total vs ≤ most_total → i < length ws → b + weight vs j * total ws < 2 ^ 32
    column_fits p q h = omega (arith, s.column-start, end-next (total ws) vs j, column-within ws vs j (s.column h), supply-fits (total ws) (total vs) p q)

    pub turn : i < length ws → {x y d : ℕ} → x ≡ a + weight ws i * total vs → y ≡ b + weight vs j * total ws → d ≡ when (R i j) 1 → Turn R ws vs i j x y (bit_and g d)
    turn h {d = d} e f k = record {
      row = h;
      column = s.column h;
      row-end = omega (arith, s.row-start, end-next (total vs) ws i);
      column-end = omega (arith, s.column-start, end-next (total ws) vs j);
      digit = omega (arith, s.digit, and_le_l g d);
      met = λ o. true_T (one_same (R i j) true (omega (arith, and_le_r g d, when-most (R i j) 1)));
      passed = λ o. s.passed (omega (arith, s.digit, and_le_l g d));
    }

  module _ {i j x y g : ℕ} (t : Turn R ws vs i j x y g) where
    -- a column whose share ends before the line does is not the last
    column-left : y < total ws * total vs → j + 1 < length vs
    column-left l = elim (ℕ_discrete (j + 1) (length vs)) [
      | yes e ↦ absurd (omega (arith, t.column-end, ap (end_of (total ws) vs) e, end-last (total ws) vs, mul_comm (total ws) (total vs)))
      | no d ↦ omega (arith, t.column)
    ]

    -- a row whose share ends where the line does is the last
    row-left : Positive ws → Positive vs → i + 1 < length ws → x < total ws * total vs
    row-left p q h = omega (arith, t.row-end, end-next (total vs) ws (i + 1), row_within ws vs (i + 1) h, mul-pos {m = weight ws (i + 1)} {n = total vs} (p (i + 1) h) (omega (arith, q j t.column, weight_le vs j t.column)))

    rows-passed : x ≤ y → g ≡ 1 → RelatedBefore R ws vs (i + 1) j
    rows-passed l e = past_row (t.passed e) (t.met e) (omega (arith, t.row-end, t.column-end))

    pub both-done : Positive ws → Positive vs → x ≡ y → RuleAt R ws vs (i + 1) (j + 1) x y g
    both-done p q e = record {
      column = λ h. column-left (omega (arith, row-left p q h));
      row-start = t.row-end;
      column-start = t.column-end;
      digit = t.digit;
      passed = λ o. past_column (rows-passed (omega arith) o) (omega arith) (t.met o) (omega (arith, t.row-end, t.column-end));
    }

    pub row_done : x < y → {b : ℕ} → b ≡ end_of (total ws) vs j → RuleAt R ws vs (i + 1) j x b g
    row_done l e = record {
      column = λ _. t.column;
      row-start = t.row-end;
      column-start = e;
      digit = t.digit;
      passed = rows-passed (omega arith);
    }

    pub column-done : y < x → {a : ℕ} → a ≡ end_of (total vs) ws i → RuleAt R ws vs i (j + 1) a y g
    column-done l e = record {
      column = λ h. column-left (omega (arith, t.row-end, row_within ws vs i h));
      row-start = e;
      column-start = t.column-end;
      digit = t.digit;
      passed = λ o. past_column (t.passed o) (omega arith) (t.met o) (omega (arith, t.row-end, t.column-end));
    }
