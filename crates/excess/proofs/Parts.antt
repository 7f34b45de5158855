-- What the members of a set weigh, of at most four places, and what the loops over places and sets keep.
-- Assumes nothing.
use mathlib.Core.Path.{◌≡◌, refl, sym, ap, ◌∙◌}
use mathlib.Core.Bool.{Bool, true}
use mathlib.Core.List.{List}
use mathlib.Core.Logic.{⊎_elim}
use Prim.Native.Nat.{ℕ, zero, suc, ◌+◌, ◌*◌, ◌^◌, ◌≤◌, ◌<◌}
use native.Mathlib.Nat.{not-suc-le-zero, mul-one, mul-zero, mul-le-mul_left}
use native.Mathlib.Numerals.{add-one}
use native.Mathlib.Omega.{arith}
use lib.ListN.{length, get_or, set, replicate, length-set, get_or-eq_default}
use lib.Seq.{get_or-set_same, get_or-set_other}
use Rattle.simulation.proofs.Finite.Lists.{zeros-at}
use Rattle.simulation.specs.Sum.{sum, when}
use Rattle.simulation.specs.Fit.{Set, weight, weight_of, total}
use Rattle.simulation.proofs.Finite.Tests.{last_or_below}
use Rattle.simulation.proofs.Finite.Sums.{sum_ext, sum_mul, when_mul, when-zero}
use Rattle.word.specs.Mask.{member}
use Rattle.word.proofs.Mask.{below_or_not}
use Rattle.greedy.proofs.StartLaws.{weight_le}
use Rattle.excess.specs.Excess.{few, parts, Summed, AtMost, Carries}

-- an amount times the digit
pub digit_times : (d : ℕ) {b : ℕ} (x : Bool) → b ≡ when x 1 → d * b ≡ when x d
digit_times d x e = ap (λ (n : ℕ). d * n) e ∙ when_mul d x 1 ∙ ap (when x) (mul-one d)

-- no weight past the end
pub weight_past : (t : ℕ) (ws : List ℕ) (i : ℕ) → length ws ≤ i → t * weight ws i ≡ 0
weight_past t ws i le = ap (λ (n : ℕ). t * n) (get_or-eq_default ws 0 le) ∙ mul-zero t

-- each weight times t fits if their total does
pub share_room : (t : ℕ) (ws : List ℕ) → t * total ws < 2 ^ 32 → (i : ℕ) → t * weight ws i < 2 ^ 32
share_room t ws small i =
    ⊎_elim
    (λ lt. omega (arith, mul-le-mul_left t (weight_le ws i lt)))
    (λ le. omega (arith, weight_past t ws i le))
    (below_or_not i (length ws))

-- a loop over weights: those of the first i places are scaled, and the others nothing
pub record Scaled (t : ℕ) (ws : List ℕ) (i : ℕ) (l : List ℕ) : Type 0 where
  pub size : length l ≡ few
  pub done : (k : ℕ) → k < i → get_or l k 0 ≡ t * weight ws k
  pub left : (k : ℕ) → i ≤ k → get_or l k 0 ≡ 0

pub scaled_none : (t : ℕ) (ws : List ℕ) → Scaled t ws 0 (replicate few 0)
scaled_none t ws = record { size = refl; done = λ k lt. absurd (not-suc-le-zero lt); left = λ k _. zeros-at few k }

pub scaled_next : {t : ℕ} {ws : List ℕ} {i : ℕ} {l : List ℕ} → i < few → Scaled t ws i l → Scaled t ws (i + 1) (set l i (t * weight ws i))
scaled_next {t} {ws} {i} {l} lt s =
    record {
      size = length-set l i (t * weight ws i) ∙ s.size;
      done = λ k below.
          ⊎_elim
          (λ e.
          ap (λ (n : ℕ). get_or (set l i (t * weight ws i)) n 0) e ∙ get_or-set_same l i (t * weight ws i) 0 (omega (arith, s.size))
          ∙ ap (λ (n : ℕ). t * weight ws n) (sym e))
          (λ less. get_or-set_other l i k (t * weight ws i) 0 (λ e. omega arith) ∙ s.done k less)
          (last_or_below k i (rw add-one at below));
      left = λ k le. get_or-set_other l i k (t * weight ws i) 0 (λ e. omega arith) ∙ s.left k (omega arith);
    }

pub scaled_all : {t : ℕ} {ws : List ℕ} {i : ℕ} {l : List ℕ} → length ws ≤ i → Scaled t ws i l → (k : ℕ) → get_or l k 0 ≡ t * weight ws k
scaled_all {t} {ws} {i} le s k = ⊎_elim (s.done k) (λ out. s.left k out ∙ sym (weight_past t ws k (omega arith))) (below_or_not k i)

sum_past : (n m : ℕ) (f : ℕ → ℕ) → n ≤ m → ((i : ℕ) → n ≤ i → f i ≡ 0) → sum n f ≡ sum m f
unfolding sum
sum_past n zero f l z = let e : n ≡ 0 = omega arith in ap (λ (k : ℕ). sum k f) e
sum_past n (suc m) f l z =
    ⊎_elim (λ (e : n ≡ suc m). ap (λ (k : ℕ). sum k f) e) (λ lt. omega (arith, z m (omega arith), sum_past n m f (omega arith) z)) (last_or_below n (suc m) (omega arith))

-- at most four places, each with its weight times t
module _ (t : ℕ) (ws : List ℕ) (short : length ws ≤ few) (shares : List ℕ) (e : (i : ℕ) → get_or shares i 0 ≡ t * weight ws i) where
  by_place : (S : Set) → sum few (λ i. when (S i) (get_or shares i 0)) ≡ t * weight_of ws S
  by_place S =
      let w : ℕ → ℕ = λ i. when (S i) (weight ws i) in
      sum_ext few _ _ (λ i _. ap (when (S i)) (e i) ∙ sym (when_mul t (S i) (weight ws i))) ∙ sum_mul few t w
      ∙ ap (λ (n : ℕ). t * n) (sym (sum_past (length ws) few w short (λ i le. ap (when (S i)) (get_or-eq_default ws 0 le) ∙ when-zero (S i))))

  pub all-parts : sum few (λ i. get_or shares i 0) ≡ t * total ws
  unfolding total
  all-parts = by_place (λ i. true)

  pub carries_is : {sums x : List ℕ} {r : Bool} → Summed sums x → AtMost x (parts shares) r → Carries sums ws t r
  carries_is s h =
      record {
        yes = λ e k lt. omega (arith, h.yes e k lt, s.each k lt, by_place (member k));
        no = λ e. let f = h.no e in (f.0, f.1, omega (arith, f.2, s.each f.0 f.1, by_place (member f.0)));
      }
