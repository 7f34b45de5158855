-- Numbers made of words, for any number of words, and what follows for sets.
-- Assumes nothing.
use mathlib.Core.Path.{◌≡◌, refl, sym, ap, ap₂, ◌∙◌, subst, fun_ext}
use mathlib.Core.Bool.{Bool, false, not, ◌&&◌, and-true}
use mathlib.Core.Logic.{⊎_elim, ◌≢◌}
use native.Mathlib.Decide.{ℕ_discrete}
use borrow.Author.Tests.{eq-eqb, ne_eqb}
use Prim.Native.Nat.{ℕ, zero, suc, ◌+◌, ◌*◌, ◌/◌, ◌%◌, ◌^◌, ◌≤◌, ◌<◌}
use native.Mathlib.Nat.{mod-lt, not-suc-le-zero, le_of_suc-le-suc, pow-suc, add_comm}
use native.Mathlib.Omega.{arith}
use lib.Dec.{eqb}
use lib.Arith.{digits_lt}
use lib.Pow.{shr-shr, pow_pos, pow-add, high, split}
use Rattle.simulation.specs.Sum.{sum, when}
use Rattle.simulation.proofs.Finite.Sums.{sum_ext, sum-join}
use Rattle.word.specs.Mask.{Test, member, without_member, size, Lowest, word_bits}
use Rattle.set.specs.Words.{as_number}
use Rattle.word.proofs.Mask.{member-high, member_shift, below_or_not, lowest_unique, without-less}

-- an equation, with its sides named
pub equation : (a b : ℕ) → a ≡ b → a ≡ b
equation a b e = e

-- the digits of q * 2 ^ k + r: those of r, and then those of q
member-low : (k q r t : ℕ) → t < k → member (q * 2 ^ k + r) t ≡ member r t
unfolding member
member-low zero q r t lt = absurd (not-suc-le-zero lt)
member-low (suc k) q r zero lt =
    let e : q * 2 ^ suc k ≡ q * (2 ^ k * 2) = ap (λ (n : ℕ). q * n) (pow-suc 2 k) in
    let f : (q * 2 ^ suc k + r) % 2 ≡ r % 2 = omega arith in
    ap (λ (n : ℕ). eqb n 1) f
member-low (suc k) q r (suc t) lt =
    let e : q * 2 ^ suc k ≡ q * (2 ^ k * 2) = ap (λ (n : ℕ). q * n) (pow-suc 2 k) in
    let f : (q * 2 ^ suc k + r) / 2 ≡ q * 2 ^ k + r / 2 = omega arith in
    ap (λ (n : ℕ). member n t) f ∙ member-low k q (r / 2) t (le_of_suc-le-suc lt)

member_top : (k q r t : ℕ) → r < 2 ^ k → member (q * 2 ^ k + r) (k + t) ≡ member q t
member_top k q r t h =
    sym (member_shift (q * 2 ^ k + r) (k + t))
    ∙ ap (λ (n : ℕ). eqb (n % 2) 1) (sym (shr-shr (q * 2 ^ k + r) k t) ∙ ap (λ (n : ℕ). n / 2 ^ t) (high q k h))
    ∙ member_shift q t

member_mod : (k x t : ℕ) → t < k → member (x % 2 ^ k) t ≡ member x t
member_mod k x t lt = sym (member-low k (x / 2 ^ k) (x % 2 ^ k) t lt) ∙ ap (λ (n : ℕ). member n t) (split x k)

-- digit i * 64 + u is bit u of word i
pub bit_at : (n : ℕ) (f : ℕ → ℕ) (i u : ℕ) → i < n → u < word_bits → member (as_number n f) (i * word_bits + u) ≡ member (f i) u
unfolding as_number
bit_at zero f i u li lu = absurd (not-suc-le-zero li)
bit_at (suc n) f zero u li lu =
    ap (member (as_number (suc n) f)) (equation (zero * word_bits + u) (u) (omega arith))
    ∙ member-low word_bits (as_number n (λ i. f (suc i))) (f 0 % 2 ^ word_bits) u lu ∙ member_mod word_bits (f 0) u lu
bit_at (suc n) f (suc i) u li lu =
    ap (member (as_number (suc n) f)) (equation (suc i * word_bits + u) (word_bits + (i * word_bits + u)) (omega arith))
    ∙ member_top word_bits (as_number n (λ i. f (suc i))) (f 0 % 2 ^ word_bits) (i * word_bits + u) (mod-lt (f 0) (pow_pos word_bits))
    ∙ bit_at n (λ i. f (suc i)) i u (le_of_suc-le-suc li) lu

pub number_lt : (n : ℕ) (f : ℕ → ℕ) → as_number n f < 2 ^ (n * word_bits)
unfolding as_number
number_lt zero f = pow_pos (0 * word_bits)
number_lt (suc n) f =
    subst (λ (m : ℕ). as_number (suc n) f < m) (sym (pow-add 2 (n * word_bits) word_bits) ∙ ap (λ (k : ℕ). 2 ^ k) (omega arith))
    (digits_lt (number_lt n (λ i. f (suc i))) (mod-lt (f 0) (pow_pos word_bits)))

-- no member past the words
pub number-high : (n : ℕ) (f : ℕ → ℕ) (t : ℕ) → n * word_bits ≤ t → member (as_number n f) t ≡ false
number-high n f t le = member-high (n * word_bits) (as_number n f) t (number_lt n f) le

-- a number of words has the members that its words say
pub words_are : (n : ℕ) (f : ℕ → ℕ) (P : Test) → ((i u : ℕ) → i < n → u < word_bits → member (f i) u ≡ P (i * word_bits + u))
    → ((t : ℕ) → n * word_bits ≤ t → P t ≡ false) → member (as_number n f) ≡ P
words_are n f P e out = fun_ext (λ t. ⊎_elim (λ lt. at t lt) (λ le. number-high n f t le ∙ sym (out t le)) (below_or_not t (n * word_bits)))
  where
    at : (t : ℕ) → t < n * word_bits → member (as_number n f) t ≡ P t
    at t lt =
        let s : t / word_bits * word_bits + t % word_bits ≡ t = omega arith in
        ap (member (as_number n f)) (sym s) ∙ bit_at n f (t / word_bits) (t % word_bits) (omega arith) (omega arith)
        ∙ e (t / word_bits) (t % word_bits) (omega arith) (omega arith) ∙ ap P s

pub number_ext : (n : ℕ) (f g : ℕ → ℕ) → ((i : ℕ) → i < n → f i ≡ g i) → as_number n f ≡ as_number n g
unfolding as_number
number_ext zero f g e = refl
number_ext (suc n) f g e =
    ap₂ (λ (a b : ℕ). a * 2 ^ word_bits + b % 2 ^ word_bits) (number_ext n (λ i. f (suc i)) (λ i. g (suc i)) (λ i lt. e (suc i) (omega arith))) (e 0 (omega arith))

pub number-none : (n : ℕ) (f : ℕ → ℕ) → ((i : ℕ) → i < n → f i ≡ 0) → as_number n f ≡ 0
unfolding as_number
number-none zero f e = refl
number-none (suc n) f e =
    ap₂ (λ (a b : ℕ). a * 2 ^ word_bits + b % 2 ^ word_bits) (number-none n (λ i. f (suc i)) (λ i lt. e (suc i) (omega arith))) (e 0 (omega arith))

-- an operation that works bit by bit on the words does so on the members
module _ (g : Bool → Bool → Bool) (none : g false false ≡ false) where
  pub word_wise : (n : ℕ) (f h k : ℕ → ℕ) → ((i u : ℕ) → i < n → u < word_bits → member (k i) u ≡ g (member (f i) u) (member (h i) u))
      → member (as_number n k) ≡ (λ t. g (member (as_number n f) t) (member (as_number n h) t))
  word_wise n f h k e =
      words_are n k (λ t. g (member (as_number n f) t) (member (as_number n h) t))
      (λ i u li lu. e i u li lu ∙ ap₂ g (sym (bit_at n f i u li lu)) (sym (bit_at n h i u li lu)))
      (λ t le. ap₂ g (number-high n f t le) (number-high n h t le) ∙ none)

-- a change of bit u of word i is one of the member i * 64 + u
module _ (g : Bool → Bool → Bool) (keep : (b : Bool) → g false b ≡ b) where
  same_place : (i u v : ℕ) → eqb v u ≡ eqb (i * word_bits + v) (i * word_bits + u)
  same_place i u v = at (ℕ_discrete v u)
    where
      at : Dec (v ≡ u) → eqb v u ≡ eqb (i * word_bits + v) (i * word_bits + u)
      at (yes p) = eq-eqb v u p ∙ sym (eq-eqb (i * word_bits + v) (i * word_bits + u) (omega arith))
      at (no q) = ne_eqb v u q ∙ sym (ne_eqb (i * word_bits + v) (i * word_bits + u) (λ r. q (omega arith)))

  pub word_put : (n : ℕ) (f h : ℕ → ℕ) (i u : ℕ) → i < n → u < word_bits → ((v : ℕ) → member (h i) v ≡ g (eqb v u) (member (f i) v))
      → ((j : ℕ) → j < n → j ≢ i → h j ≡ f j) → member (as_number n h) ≡ (λ k. g (eqb k (i * word_bits + u)) (member (as_number n f) k))
  word_put n f h i u li lu here other =
      words_are n h (λ k. g (eqb k (i * word_bits + u)) (member (as_number n f) k)) (λ j v lj lv. at j v lj lv (ℕ_discrete j i))
      (λ k le. ap₂ g (ne_eqb k (i * word_bits + u) (λ e. omega arith)) (number-high n f k le) ∙ keep false)
    where
      at : (j v : ℕ) → j < n → v < word_bits → Dec (j ≡ i) → member (h j) v ≡ g (eqb (j * word_bits + v) (i * word_bits + u)) (member (as_number n f) (j * word_bits + v))
      at j v lj lv (yes e) =
          ap (λ (k : ℕ). member (h k) v) e ∙ here v
          ∙ ap₂ g (same_place i u v ∙ ap (λ (k : ℕ). eqb (k * word_bits + v) (i * word_bits + u)) (sym e)) (ap (λ (k : ℕ). member (f k) v) (sym e) ∙ sym (bit_at n f j v lj lv))
      at j v lj lv (no ne) =
          ap (λ (x : ℕ). member x v) (other j lj ne) ∙ sym (bit_at n f j v lj lv) ∙ sym (keep (member (as_number n f) (j * word_bits + v)))
          ∙ ap (λ b. g b (member (as_number n f) (j * word_bits + v))) (sym (ne_eqb (j * word_bits + v) (i * word_bits + u) (λ r. ne (omega arith))))

-- the lowest member is the lowest of the first word that has one
pub number_lowest : (n : ℕ) (f : ℕ → ℕ) (i u : ℕ) → i < n → u < word_bits → ((j v : ℕ) → j < i → member (f j) v ≡ false) → Lowest (member (f i)) u
    → Lowest (member (as_number n f)) (i * word_bits + u)
number_lowest n f i u li lu none l = record { here = bit_at n f i u li lu ∙ l.here; before = λ k lt. at k lt (ℕ_discrete (k / word_bits) i) }
  where
    at : (k : ℕ) → k < i * word_bits + u → Dec (k / word_bits ≡ i) → member (as_number n f) k ≡ false
    at k lt d =
        let s : k / word_bits * word_bits + k % word_bits ≡ k = omega arith in
        ap (member (as_number n f)) (sym s) ∙ bit_at n f (k / word_bits) (k % word_bits) (omega arith) (omega arith)
        ∙ elim d [ yes e ↦ ap (λ (j : ℕ). member (f j) (k % word_bits)) e ∙ l.before (k % word_bits) (omega arith) | no ne ↦ none (k / word_bits) (k % word_bits) (omega arith) ]

-- a walk takes the lowest member away
module _ (n : ℕ) (f h : ℕ → ℕ) (i u : ℕ) (li : i < n) (lu : u < word_bits) (none : (j v : ℕ) → j < i → member (f j) v ≡ false) (l : Lowest (member (f i)) u)
    (here : member (h i) ≡ without_member u (member (f i))) (other : (j : ℕ) → j < n → j ≢ i → h j ≡ f j) where
  taken : member (as_number n h) ≡ without_member (i * word_bits + u) (member (as_number n f))
  taken = word_put (λ e b. b && not e) and-true n f h i u li lu (λ v. ap (λ X. X v) here) other

  pub number-drop : (t : ℕ) → Lowest (member (as_number n f)) t → member (as_number n h) ≡ without_member t (member (as_number n f))
  number-drop t k = taken ∙ ap (λ (m : ℕ). without_member m (member (as_number n f))) (lowest_unique (member (as_number n f)) (i * word_bits + u) t (number_lowest n f i u li lu none l) k)

  pub number-less : as_number n h < as_number n f
  number-less =
      without-less (n * word_bits) (i * word_bits + u) (as_number n f) (as_number n h) (number_lt n f) (number_lt n h) (λ k. ap (λ X. X k) taken)
      (number_lowest n f i u li lu none l).here

-- the members of the words together
pub words_size : (n m : ℕ) (f : ℕ → ℕ) → m ≤ n → size (m * word_bits) (member (as_number n f)) ≡ sum m (λ i. size word_bits (member (f i)))
unfolding sum
words_size n zero f le = refl
words_size n (suc m) f le =
    ap (λ (k : ℕ). size k (member (as_number n f))) (equation (suc m * word_bits) (m * word_bits + word_bits) (omega arith))
    ∙ sum-join (m * word_bits) word_bits (λ t. when (member (as_number n f) t) 1)
    ∙ ap₂ ◌+◌ (words_size n m f (omega arith))
    (sum_ext word_bits (λ u. when (member (as_number n f) (m * word_bits + u)) 1) (λ u. when (member (f m) u) 1) (λ u lt. ap (λ b. when b 1) (bit_at n f m u (omega arith) lt)))
    ∙ add_comm (sum m (λ i. size word_bits (member (f i)))) (size word_bits (member (f m)))
