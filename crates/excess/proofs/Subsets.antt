-- Each set gets what its subsets have, one place after the other.
-- Assumes nothing.
use mathlib.Core.Path.{◌≡◌, refl, sym, ap, ap₂, ◌∙◌, subst}
use mathlib.Core.Bool.{true, false, true≢false}
use mathlib.Core.List.{List}
use mathlib.Core.Logic.{◌≢◌, ◌⊎◌, inl, inr, ⊎_elim}
use Prim.Native.Nat.{ℕ, zero, suc, ◌+◌, ◌-◌, ◌/◌, ◌%◌, ◌^◌, ◌≤◌, ◌<◌}
use native.Mathlib.Nat.{add-zero, pow-suc, le_refl, not-suc-le-zero}
use native.Mathlib.Omega.{arith}
use borrow.Author.Tests.{eqb-true, ne_eqb}
use lib.Pow.{pow_pos}
use lib.ListN.{length, get_or, set}
use lib.Seq.{get_or-set_same, get_or-set_other}
use Rattle.simulation.specs.Sum.{sum, any, when}
use Rattle.simulation.proofs.Finite.Tests.{is_true, last_or_below, same?}
use Rattle.simulation.proofs.Finite.Sums.{sum_mono, when-most, when-same}
use Rattle.word.specs.Mask.{member}
use Rattle.word.proofs.Mask.{member-high, below_or_not}
use Rattle.excess.specs.Excess.{few, set_count, within, under, joined, Joined, Summed}

-- what holds of every number below n, one after the other
infixl 20 ◌also◌
data Each (P : ℕ → Type 0) : ℕ → Type 0 where
  none : Each P 0
  ◌also◌ : {n : ℕ} → Each P n → P n → Each P (suc n)

each : {P : ℕ → Type 0} {n : ℕ} → Each P n → (k : ℕ) → k < n → P k
each none k l = absurd (not-suc-le-zero l)
each {P} (◌also◌ {n = n} h p) k l = ⊎_elim (λ (e : k ≡ n). subst P (sym e) p) (each h k) (last_or_below k n l)

-- a member's digit can be taken away, and is zero then
pub member-room : (i k : ℕ) → member k i ≡ true → 2 ^ i ≤ k
member-room i k h = ⊎_elim (λ lt. absurd (true≢false (sym h ∙ member-high i k i lt (le_refl i)))) (λ le. le) (below_or_not k (2 ^ i))

pub member-taken : (i k : ℕ) → member k i ≡ true → member (k - 2 ^ i) i ≡ false
unfolding member
member-taken zero k h = let odd = eqb-true (k % 2) 1 h in ne_eqb ((k - 1) % 2) 1 (λ e. omega arith)
member-taken (suc i) k h =
    let e = pow-suc 2 i in
    let half : (k - 2 ^ suc i) / 2 ≡ k / 2 - 2 ^ i = omega arith in
    ap (λ (n : ℕ). member n i) half ∙ member-taken i (k / 2) h

-- what each set has once the first n places are joined
unfoldable pub gathered : ℕ → (ℕ → ℕ) → ℕ → ℕ
gathered zero f k = f k
gathered (suc n) f k = gathered n f k + when (member k n) (gathered n f (k - 2 ^ n))

gathered_more : (n m : ℕ) (f : ℕ → ℕ) (k : ℕ) → n ≤ m → gathered n f k ≤ gathered m f k
unfolding gathered
gathered_more n zero f k l = let e : n ≡ 0 = omega arith in rw e (le_refl _)
gathered_more n (suc m) f k l =
    ⊎_elim (λ (e : n ≡ suc m). rw e (le_refl _)) (λ lt. let h = gathered_more n m f k (omega arith) in omega arith) (last_or_below n (suc m) (omega arith))

gathered_all : (f : ℕ → ℕ) (k : ℕ) → k < set_count → gathered few f k ≡ sum set_count (λ a. when (within a k) (f a))
unfolding gathered member within any sum
gathered_all f =
    each {P = λ k. gathered few f k ≡ sum set_count (λ a. when (within a k) (f a))} {n = set_count}
    (none also omega arith also omega arith also omega arith also omega arith
    also omega arith also omega arith also omega arith also omega arith
    also omega arith also omega arith also omega arith also omega arith
    also omega arith also omega arith also omega arith also omega arith)

-- x has for each set of l what is gathered over the first n places
pub record JoinStage (l : List ℕ) (n : ℕ) (x : List ℕ) : Type 0 where
  pub has : (k : ℕ) → k < set_count → get_or x k 0 ≡ gathered n (λ a. get_or l a 0) k

pub stage-none : (l : List ℕ) → JoinStage l 0 l
unfolding gathered
stage-none l = record { has = λ k lt. refl }

stage-joins : {l : List ℕ} {n : ℕ} {x : List ℕ} → JoinStage l n x → (k : ℕ) → k < set_count → joined n x k ≡ gathered (suc n) (λ a. get_or l a 0) k
unfolding gathered
stage-joins {n} s k lt = ap₂ (λ a b. a + when (member k n) b) (s.has k lt) (s.has (k - 2 ^ n) (omega arith))

pub stage-next : {l : List ℕ} {n : ℕ} {x y : List ℕ} → JoinStage l n x → Joined n x y → JoinStage l (suc n) y
stage-next s j = record { has = λ k lt. j.each k lt ∙ stage-joins s k lt }

pub stage-all : {l x : List ℕ} → JoinStage l few x → Summed l x
unfolding under
stage-all {l} s = record { each = λ k lt. s.has k lt ∙ gathered_all (λ a. get_or l a 0) k lt }

under_all : (l : List ℕ) (k : ℕ) → under l k ≤ sum set_count (λ a. get_or l a 0)
unfolding under
under_all l k = sum_mono set_count (λ a. when (within a k) (get_or l a 0)) (λ a. get_or l a 0) (λ a _. when-most (within a k) (get_or l a 0))

-- none is above the sum of all
pub stage-room : {l : List ℕ} {n : ℕ} {x : List ℕ} → JoinStage l n x → n < few → sum set_count (λ a. get_or l a 0) < 2 ^ 32 → (k : ℕ) → k < set_count → joined n x k < 2 ^ 32
unfolding under
stage-room {l} {n} s ln small k lt =
    omega (
      arith,
      stage-joins s k lt,
      gathered_more (suc n) few (λ a. get_or l a 0) k (omega arith),
      gathered_all (λ a. get_or l a 0) k lt,
      under_all l k,
    )

-- one pass: below k it is done, from k on it is not
pub record JoinedBelow (i : ℕ) (l : List ℕ) (k : ℕ) (x : List ℕ) : Type 0 where
  pub done : (a : ℕ) → a < k → get_or x a 0 ≡ joined i l a
  pub left : (a : ℕ) → k ≤ a → get_or x a 0 ≡ get_or l a 0

module _ {i : ℕ} {l : List ℕ} where
  pub joined-none : JoinedBelow i l 0 l
  joined-none = record { done = λ a lt. absurd (not-suc-le-zero lt); left = λ a _. refl }

  -- what is added comes from a set that this pass leaves as it is
  lower : {k : ℕ} {x : List ℕ} → JoinedBelow i l k x → when (member k i) (get_or x (k - 2 ^ i) 0) ≡ when (member k i) (get_or l (k - 2 ^ i) 0)
  lower {k} {x} p = when-same (member k i) (get_or x (k - 2 ^ i) 0) (get_or l (k - 2 ^ i) 0) (λ t.
      let m : member k i ≡ true = is_true (member k i) t in
      let below : k - 2 ^ i < k = omega (arith, member-room i k m, pow_pos i) in
      p.done (k - 2 ^ i) below ∙ ap (λ b. get_or l (k - 2 ^ i) 0 + when b (get_or l (k - 2 ^ i - 2 ^ i) 0)) (member-taken i k m) ∙ add-zero (get_or l (k - 2 ^ i) 0))

  module _ {k : ℕ} {x : List ℕ} {v : ℕ} (p : JoinedBelow i l k x) (e : v ≡ when (member k i) (get_or x (k - 2 ^ i) 0)) where
    pub joined-here : get_or x k 0 + v ≡ joined i l k
    joined-here = ap₂ ◌+◌ (p.left k (le_refl k)) (e ∙ lower p)

    pub joined-next : k < length x → JoinedBelow i l (k + 1) (set x k (get_or x k 0 + v))
    joined-next lt = record { done = λ a la. at a la (same? a k); left = λ a le. get_or-set_other x k a (get_or x k 0 + v) 0 (λ q. omega arith) ∙ p.left a (omega arith) }
      where
        at : (a : ℕ) → a < k + 1 → (a ≡ k) ⊎ (a ≢ k) → get_or (set x k (get_or x k 0 + v)) a 0 ≡ joined i l a
        at a la (inl q) =
            ap (λ (b : ℕ). get_or (set x k (get_or x k 0 + v)) b 0) q ∙ get_or-set_same x k (get_or x k 0 + v) 0 lt ∙ joined-here ∙ ap (joined i l) (sym q)
        at a la (inr q) = get_or-set_other x k a (get_or x k 0 + v) 0 q ∙ p.done a (omega (arith, q))

pub joined-all : {i : ℕ} {l : List ℕ} {k : ℕ} {x : List ℕ} → JoinedBelow i l k x → set_count ≤ k → Joined i l x
joined-all p le = record { each = λ a lt. p.done a (omega arith) }
