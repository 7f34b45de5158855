-- Whether one distribution fits another, by all sets of places of the first.
-- Assumes nothing.
use mathlib.Core.Path.{◌≡◌, sym, ap, ap₂, ◌∙◌, subst}
use mathlib.Core.Bool.{Bool, true, false, not}
use mathlib.Core.List.{List}
use Prim.Native.Nat.{ℕ, ◌+◌, ◌*◌, ◌≤◌, ◌<◌}
use native.Mathlib.Nat.{mul_comm}
use native.Mathlib.Omega.{arith}
use lib.Dec.{T}
use lib.ListN.{length}
use Rattle.simulation.specs.Sum.{when}
use Rattle.simulation.specs.Fit.{Set, Fits, weight, weight_of, total, touched, gain, fits?}
use Rattle.simulation.proofs.Finite.Tests.{same_test, by_contradiction, is_true, is_false}
use Rattle.simulation.proofs.Finite.Sums.{sum_ext, sum_mul, when_mul}
use Rattle.simulation.proofs.Fit.Gain.{weight_split, gain-is, gain_ext, fits-gain, gain-fits}
use Rattle.simulation.proofs.Fit.Hall.{fits?→Fits, Fits→fits?}
use Rattle.word.specs.Mask.{member}
use Rattle.excess.specs.Excess.{few, set_count, under, Carries, set_of, related_to, BySets}
use Rattle.excess.proofs.Sets.{set-small, member-at, outside, within-is}
use Rattle.excess.proofs.Gathering.{under-is}

-- what place j of the second takes in
abbrev demand : List ℕ → List ℕ → ℕ → ℕ
demand ws vs j = weight vs j * total ws

twice_not : (b c : Bool) → b ≡ not c → c ≡ not b
twice_not b true e = sym (ap not e)
twice_not b false e = sym (ap not e)

module _ (R : ℕ → ℕ → Bool) (ws vs sums : List ℕ) (small : length ws ≤ few) (s : BySets (length vs) (related_to (length ws) R) (demand ws vs) sums) where
  -- what can go to the members of k alone
  under-demand : (k : ℕ) → under sums k ≡ total ws * weight_of vs (λ j. not (touched (length ws) R (outside k) j))
  under-demand k =
      under-is (length vs) (related_to (length ws) R) (demand ws vs) sums (λ j _. set-small (length ws) (λ i. R i j) small) s k
      ∙ sum_ext (length vs) _ _
      (λ j _.
      ap₂ (λ (c : Bool) (m : ℕ). when c m) (within-is (length ws) R small k j) (mul_comm (weight vs j) (total ws))
      ∙ sym (when_mul (total ws) (not (touched (length ws) R (outside k) j)) (weight vs j)))
      ∙ sum_mul (length vs) (total ws) (λ j. when (not (touched (length ws) R (outside k) j)) (weight vs j))

  gain-outside : (k : ℕ) → gain R ws vs (outside k) + total vs * weight_of ws (member k) ≡ total ws * total vs + under sums k
  gain-outside k = omega (arith, gain-is R ws vs (outside k), under-demand k, ap (λ (n : ℕ). total vs * n) (weight_split ws (member k)))

  -- each set of places is what lies outside one of the numbers
  gains_least : ((k : ℕ) → k < set_count → under sums k ≤ total vs * weight_of ws (member k)) → (S : Set) → gain R ws vs S ≤ total ws * total vs
  gains_least h S =
      let k = set_of few (λ i. not (S i)) in
      omega (
        arith,
        gain_ext R ws vs S (outside k) (λ i l. twice_not (member k i) (S i) (member-at few (λ i. not (S i)) i (omega arith))),
        gain-outside k,
        h k (set-small few (λ i. not (S i)) (omega arith)),
      )

  pub verdict : {r : Bool} → Carries sums ws (total vs) r → r ≡ fits? R ws vs
  verdict {r} c =
      same_test r (fits? R ws vs) (λ t. gain-fits R ws vs (gains_least (c.yes (is_true r t))))
      (λ t. by_contradiction r (λ n. let w = c.no (is_false r n) in omega (arith, w.2, gain-outside w.0, fits-gain R ws vs t (outside w.0))))

-- the same by the lengths and totals that the code has: one fits the other exactly if no set of places gets more than it can carry from what goes to it alone
pub decides : (R : ℕ → ℕ → Bool) (ws vs : List ℕ) {sums : List ℕ} {p q t u : ℕ} {r : Bool}
    → p ≡ length ws → q ≡ length vs → t ≡ total ws → u ≡ total vs → p ≤ few
    → BySets q (related_to p R) (λ j. weight vs j * t) sums → Carries sums ws u r → r ≡ fits? R ws vs
decides R ws vs {sums} {q = q} {t = t} {r = r} rows columns total-rows total-columns small s c =
    verdict R ws vs sums (omega arith)
    (subst (λ (k : ℕ). BySets (length vs) (related_to (length ws) R) (λ j. weight vs j * k) sums) total-rows
    (subst (λ (k : ℕ). BySets k (related_to (length ws) R) (λ j. weight vs j * t) sums) columns
    (subst (λ (k : ℕ). BySets q (related_to k R) (λ j. weight vs j * t) sums) rows s)))
    (subst (λ (k : ℕ). Carries sums ws k r) total-columns c)

-- what the one sends the other takes, and the other way round
turned : (R : ℕ → ℕ → Type 0) (ws vs : List ℕ) → Fits R ws vs → Fits (λ j i. R i j) vs ws
turned R ws vs f =
    record {
      amount = λ j i. f.amount i j;
      shares = record { support = λ j i l m d. f.shares.support i j m l d; sent = f.shares.taken; taken = f.shares.sent };
    }

pub fits_turned : (R : ℕ → ℕ → Bool) (ws vs : List ℕ) → fits? (λ j i. R i j) vs ws ≡ fits? R ws vs
fits_turned R ws vs =
    same_test (fits? (λ j i. R i j) vs ws) (fits? R ws vs)
    (λ t. Fits→fits? R ws vs (turned (λ j i. T (R i j)) vs ws (fits?→Fits (λ j i. R i j) vs ws t)))
    (λ t. Fits→fits? (λ j i. R i j) vs ws (turned (λ i j. T (R i j)) ws vs (fits?→Fits R ws vs t)))
