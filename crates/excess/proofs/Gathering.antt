-- Sums by sets: as a loop gathers them, and what they are together.
-- Assumes nothing.
use mathlib.Core.Path.{◌≡◌, refl, sym, ap, ◌∙◌, subst}
use mathlib.Core.Bool.{Bool, true, false}
use mathlib.Core.List.{List}
use mathlib.Core.Logic.{◌≢◌, ⊎_elim}
use Prim.Native.Nat.{ℕ, ◌+◌, ◌*◌, ◌^◌, ◌<◌}
use native.Mathlib.Nat.{mul_comm}
use native.Mathlib.Omega.{arith}
use borrow.Author.Tests.{eq-eqb, ne_eqb}
use lib.Dec.{eqb}
use lib.ListN.{length, get_or, set, length-set}
use lib.Seq.{get_or-set_same, get_or-set_other}
use Rattle.simulation.specs.Sum.{sum, when}
use Rattle.simulation.specs.Fit.{weight, total}
use Rattle.simulation.proofs.Finite.Tests.{same?}
use Rattle.simulation.proofs.Finite.Sums.{sum_ext, sum_mul, sum_swap, sum_pick, sum_le, sum_term, sum_change, sum_more, sum-zero, sum-none, sum-when, when-zero}
use Rattle.matrix.proofs.MatrixLaws.{running}
use Rattle.excess.specs.Excess.{set_count, within, under, NoSums, BySets}

-- one place more
pub by_sets-next : (n : ℕ) {at f : ℕ → ℕ} {l : List ℕ} {k : ℕ} → k ≡ at n → k < set_count → BySets n at f l → BySets (n + 1) at f (set l k (get_or l k 0 + f n))
by_sets-next n {at} {f} {l} {k} e small s =
    record {
      all = length-set l k (get_or l k 0 + f n) ∙ s.all;
      at = λ a b.
          ⊎_elim
          (λ (q : a ≡ k).
          subst (λ (m : ℕ). get_or (set l k (get_or l k 0 + f n)) m 0 ≡ sum (n + 1) (λ j. when (eqb (at j) m) (f j))) (sym q)
          (get_or-set_same l k (get_or l k 0 + f n) 0 (omega (arith, s.all))
          ∙ running n (λ j. when (eqb (at j) k) (f j)) (s.at k small) (sym (ap (λ (c : Bool). when c (f n)) (eq-eqb (at n) k (sym e))))))
          (λ (d : a ≢ k).
          get_or-set_other l k a (get_or l k 0 + f n) 0 d
          ∙ omega (arith, running n (λ j. when (eqb (at j) a) (f j)) (s.at a b) (sym (ap (λ (c : Bool). when c (f n)) (ne_eqb (at n) a (λ q. d (sym q ∙ sym e)))))))
          (same? a k);
    }

-- weights times t, all together
pub sum-weights : (ws : List ℕ) (t : ℕ) → sum (length ws) (λ j. weight ws j * t) ≡ total ws * t
unfolding total
sum-weights ws t = sum_ext (length ws) _ _ (λ j _. mul_comm (weight ws j) t) ∙ sum_mul (length ws) t (weight ws) ∙ mul_comm t (sum (length ws) (weight ws))

-- a loop over weights: the sum of all sets is that of the weights passed, times t
pub record Summing (ws : List ℕ) (t i : ℕ) (sums : List ℕ) : Type 0 where
  pub size : length sums ≡ set_count
  pub all : sum set_count (λ a. get_or sums a 0) ≡ sum i (λ j. weight ws j * t)

pub summing_none : {ws old : List ℕ} {t : ℕ} → NoSums ws t old → Summing ws t 0 old
summing_none {ws} {old} {t} h =
    record { size = h.all; all = sum_ext set_count _ _ (λ a _. h.none a) ∙ sum-zero set_count ∙ sum-none (λ j. weight ws j * t) }

pub by_sets-none : {ws old : List ℕ} {t : ℕ} (at : ℕ → ℕ) → NoSums ws t old → BySets 0 at (λ j. weight ws j * t) old
by_sets-none {ws} {old} {t} at h = record { all = h.all; at = λ a _. h.none a ∙ sum-none (λ j. when (eqb (at j) a) (weight ws j * t)) }

pub summing_total : {ws sums : List ℕ} {t i : ℕ} → i ≡ length ws → Summing ws t i sums → sum set_count (λ a. get_or sums a 0) ≡ total ws * t
summing_total {ws} {t = t} e s = s.all ∙ ap (λ (n : ℕ). sum n (λ j. weight ws j * t)) e ∙ sum-weights ws t

module _ {ws : List ℕ} {t i : ℕ} {sums : List ℕ} (s : Summing ws t i sums) (k : ℕ) (small : k < set_count) where
  -- the sum of a set has room for the next weight
  pub summing_room : i < length ws → total ws * t < 2 ^ 32 → get_or sums k 0 + weight ws i * t < 2 ^ 32
  summing_room next fits =
      omega (
        arith,
        s.all,
        sum_term set_count (λ a. get_or sums a 0) k small,
        sum_le i (length ws) (λ j. weight ws j * t) next,
        sum-weights ws t,
      )

  pub summing_next : Summing ws t (i + 1) (set sums k (get_or sums k 0 + weight ws i * t))
  summing_next =
      let new = set sums k (get_or sums k 0 + weight ws i * t) in
      record {
        size = length-set sums k (get_or sums k 0 + weight ws i * t) ∙ s.size;
        all = omega (
          arith,
          s.all,
          sum_change set_count (λ a. get_or new a 0) (λ a. get_or sums a 0) k small (λ a _ d. get_or-set_other sums k a (get_or sums k 0 + weight ws i * t) 0 d),
          get_or-set_same sums k (get_or sums k 0 + weight ws i * t) 0 (omega (arith, s.size)),
          sum_more i (λ j. weight ws j * t) {t = sum i (λ j. weight ws j * t)} refl,
        );
      }

when_swap : (c d : Bool) (m : ℕ) → when c (when d m) ≡ when d (when c m)
when_swap true d m = refl
when_swap false d m = sym (when-zero d)

module _ (n : ℕ) (at f : ℕ → ℕ) (l : List ℕ) (small : (j : ℕ) → j < n → at j < set_count) (s : BySets n at f l) where
  -- sums of the sets that pass are the sum over the places whose sets pass
  passing : (X : ℕ → Bool) → sum set_count (λ a. when (X a) (get_or l a 0)) ≡ sum n (λ j. when (X (at j)) (f j))
  passing X =
      sum_ext set_count _ _
      (λ a b.
      ap (λ (m : ℕ). when (X a) m) (s.at a b) ∙ sym (sum-when n (X a) (λ j. when (eqb (at j) a) (f j)))
      ∙ sum_ext n _ _ (λ j _. when_swap (X a) (eqb (at j) a) (f j)))
      ∙ sum_swap set_count n (λ a j. when (eqb (at j) a) (when (X a) (f j)))
      ∙ sum_ext n _ _ (λ j h. sum_pick set_count (at j) (λ a. when (X a) (f j)) (small j h))

  pub under-is : (k : ℕ) → under l k ≡ sum n (λ j. when (within (at j) k) (f j))
  unfolding under
  under-is k = passing (λ a. within a k)
