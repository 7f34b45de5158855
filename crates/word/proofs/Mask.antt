-- Masks and the operations on their digits.
-- Assumes nothing.
use mathlib.Core.Path.{◌≡◌, refl, sym, ap, ap₂, ◌∙◌, subst, fun_ext}
use mathlib.Core.Bool.{Bool, true, false, cond, not, ◌&&◌, ◌||◌, and-true, and-false, or-false, true≢false}
use mathlib.Core.Logic.{◌⊎◌, inl, inr, ⊎_elim, ◌≢◌}
use native.Mathlib.Decide.{dec_lt}
use borrow.Author.Tests.{eqb-true, eqb-false, lt-ltb, le-ltb, le-leb, lt-leb, eq-eqb, ne_eqb}
use Prim.Native.Nat.{ℕ, zero, suc, ◌+◌, ◌-◌, ◌*◌, ◌/◌, ◌%◌, ◌^◌, ◌≤◌, ◌<◌, zero-le, suc-le-suc, min, max}
use native.Mathlib.Nat.{mod-lt, zero-lt-suc, le_of_suc-le-suc, not-suc-le-zero, one-mul, pow-suc, div-one, le_antisymm, lt_of_not-le, lt_irrefl, sub-zero, eq-or-lt_of_le, zero-mul}
use native.Mathlib.Numerals.{one-add}
use native.Mathlib.Omega.{arith}
use lib.Dec.{eqb, ltb, leb, leb→le, T, eqb-zero-suc, eqb-suc-zero, eqb-suc-suc, lit<}
use lib.Arith.{digits_div, digits_mod, lt-one}
use lib.Pow.{shr-shr, shl_exact, pow_pos, ones_lt}
use lib.Bits.{bit_and, bit_or, and_step, or_step, and_self, and_le_r}
use mir.Val.{bool_byte}
use lib.Count.{ones, ones_step, count_trailing_zeros}
use Rattle.simulation.specs.Sum.{sum, when}
use Rattle.simulation.proofs.Finite.Tests.{is_true, and_left, and_right}
use Rattle.simulation.proofs.Finite.Sums.{sum_first, sum_ext, sum-zero, sum_change}
use Rattle.word.specs.Mask.{Test, member, only, up_to, without_member, either, both, except, part, from_place, size, Lowest, bit, with_bit, word_bits}

two_pos : zero < 2
two_pos = zero-lt-suc 1

digit : (x : ℕ) → x % 2 < 2
digit x = mod-lt x two_pos

-- what holds of the digits 0 and 1 holds of any two digits
digits2 : (P : ℕ → ℕ → Type 0) → P 0 0 → P 0 1 → P 1 0 → P 1 1 → (a b : ℕ) → a < 2 → b < 2 → P a b
digits2 P p q r s zero zero ha hb = p
digits2 P p q r s zero (suc zero) ha hb = q
digits2 P p q r s zero (suc (suc b)) ha hb = absurd (not-suc-le-zero (le_of_suc-le-suc (le_of_suc-le-suc hb)))
digits2 P p q r s (suc zero) zero ha hb = r
digits2 P p q r s (suc zero) (suc zero) ha hb = s
digits2 P p q r s (suc zero) (suc (suc b)) ha hb = absurd (not-suc-le-zero (le_of_suc-le-suc (le_of_suc-le-suc hb)))
digits2 P p q r s (suc (suc a)) b ha hb = absurd (not-suc-le-zero (le_of_suc-le-suc (le_of_suc-le-suc ha)))

-- an operation that works digit by digit does so on the members
module _ (op : ℕ → ℕ → ℕ) (f : ℕ → ℕ → ℕ) (g : Bool → Bool → Bool)
    (step : (a b : ℕ) → op a b ≡ op (a / 2) (b / 2) * 2 + f (a % 2) (b % 2))
    (small : (a b : ℕ) → a < 2 → b < 2 → f a b < 2)
    (agree : (a b : ℕ) → a < 2 → b < 2 → eqb (f a b) 1 ≡ g (eqb a 1) (eqb b 1)) where
  low : (a b : ℕ) → op a b % 2 ≡ f (a % 2) (b % 2)
  low a b = ap (λ (n : ℕ). n % 2) (step a b) ∙ digits_mod (op (a / 2) (b / 2)) (small (a % 2) (b % 2) (digit a) (digit b))

  rest : (a b : ℕ) → op a b / 2 ≡ op (a / 2) (b / 2)
  rest a b = ap (λ (n : ℕ). n / 2) (step a b) ∙ digits_div (op (a / 2) (b / 2)) (small (a % 2) (b % 2) (digit a) (digit b))

  member_op : (a b t : ℕ) → member (op a b) t ≡ g (member a t) (member b t)
  unfolding member
  member_op a b zero = ap (λ (n : ℕ). eqb n 1) (low a b) ∙ agree (a % 2) (b % 2) (digit a) (digit b)
  member_op a b (suc t) = ap (λ (n : ℕ). member n t) (rest a b) ∙ member_op (a / 2) (b / 2) t

min-small : (a b : ℕ) → a < 2 → b < 2 → min a b < 2
min-small = digits2 (λ a b. min a b < 2) (lit< tt) (lit< tt) (lit< tt) (lit< tt)

max-small : (a b : ℕ) → a < 2 → b < 2 → max a b < 2
max-small = digits2 (λ a b. max a b < 2) (lit< tt) (lit< tt) (lit< tt) (lit< tt)

pub member_and : (a b t : ℕ) → member (bit_and a b) t ≡ (member a t && member b t)
member_and = member_op bit_and min ◌&&◌ and_step min-small (digits2 (λ a b. eqb (min a b) 1 ≡ (eqb a 1 && eqb b 1)) refl refl refl refl)

pub member_or : (a b t : ℕ) → member (bit_or a b) t ≡ (member a t || member b t)
member_or = member_op bit_or max ◌||◌ or_step max-small (digits2 (λ a b. eqb (max a b) 1 ≡ (eqb a 1 || eqb b 1)) refl refl refl refl)

pub member-none : (t : ℕ) → member 0 t ≡ false
unfolding member
member-none zero = refl
member-none (suc t) = member-none t

-- halving brings each digit one place down
half_shift : (x t : ℕ) → x / 2 ^ suc t ≡ x / 2 / 2 ^ t
half_shift x t = ap (λ (k : ℕ). x / 2 ^ k) (sym (one-add t)) ∙ sym (shr-shr x 1 t)

-- the digit that a shift brings to the lowest place
pub member_shift : (x t : ℕ) → eqb (x / 2 ^ t % 2) 1 ≡ member x t
unfolding member
member_shift x zero = ap (λ (n : ℕ). eqb (n % 2) 1) (div-one x)
member_shift x (suc t) = ap (λ (n : ℕ). eqb (n % 2) 1) (half_shift x t) ∙ member_shift (x / 2) t

half_lt : {x : ℕ} (k : ℕ) → x < 2 ^ suc k → x / 2 < 2 ^ k
half_lt {x} k h = let h' : x < 2 ^ k * 2 = subst (λ (n : ℕ). x < n) (pow-suc 2 k) h in omega arith

-- no member at or past the width
pub member-high : (k x t : ℕ) → x < 2 ^ k → k ≤ t → member x t ≡ false
unfolding member
member-high zero x t h le = ap (λ (n : ℕ). member n t) (lt-one h) ∙ member-none t
member-high (suc k) x zero h le = absurd (not-suc-le-zero le)
member-high (suc k) x (suc t) h le = member-high k (x / 2) t (half_lt k h) (le_of_suc-le-suc le)

pow_half : (t : ℕ) → 2 ^ suc t / 2 ≡ 2 ^ t
pow_half t = let e = pow-suc 2 t in omega arith

pow_even : (t : ℕ) → 2 ^ suc t % 2 ≡ 0
pow_even t = let e = pow-suc 2 t in omega arith

pub member-only : (t k : ℕ) → member (2 ^ t) k ≡ only t k
unfolding member
member-only zero zero = refl
member-only zero (suc k) = member-none k ∙ sym (eqb-suc-zero k)
member-only (suc t) zero = ap (λ (n : ℕ). eqb n 1) (pow_even t) ∙ sym (eqb-zero-suc t)
member-only (suc t) (suc k) = ap (λ (n : ℕ). member n k) (pow_half t) ∙ member-only t k ∙ sym (eqb-suc-suc k t)

-- the digits of the complement
not_digit : (a : ℕ) → a < 2 → eqb (1 - a) 1 ≡ not (eqb a 1)
not_digit a h = digits2 (λ a b. eqb (1 - a) 1 ≡ not (eqb a 1)) refl refl refl refl a a h h

pub member_not : (k x t : ℕ) → x < 2 ^ k → t < k → member ((2 ^ k - 1) - x) t ≡ not (member x t)
unfolding member
member_not zero x t h lt = absurd (not-suc-le-zero lt)
member_not (suc k) x zero h lt =
    let e = pow-suc 2 k in
    let low : ((2 ^ suc k - 1) - x) % 2 ≡ 1 - x % 2 = omega arith in
    ap (λ (n : ℕ). eqb n 1) low ∙ not_digit (x % 2) (digit x)
member_not (suc k) x (suc t) h lt =
    let e = pow-suc 2 k in
    let half : ((2 ^ suc k - 1) - x) / 2 ≡ (2 ^ k - 1) - x / 2 = omega arith in
    ap (λ (n : ℕ). member n t) half ∙ member_not k (x / 2) t (half_lt k h) (le_of_suc-le-suc lt)

-- the count of ones is the number of members
one_or_none : (a : ℕ) → a < 2 → a ≡ cond (eqb a 1) 1 0
one_or_none a h = digits2 (λ a b. a ≡ cond (eqb a 1) 1 0) refl refl refl refl a a h h

ones_none : ones 0 ≡ 0
unfolding ones
ones_none = refl

pub ones_size : (k x : ℕ) → x < 2 ^ k → ones x ≡ size k (member x)
unfolding member sum
ones_size zero x h = ap ones (lt-one h) ∙ ones_none
ones_size (suc k) x h =
    ones_step x ∙ ap₂ (λ (a b : ℕ). a + b) (one_or_none (x % 2) (digit x)) (ones_size k (x / 2) (half_lt k h)) ∙ sym (sum_first k (λ t. when (member x t) 1))

-- the lowest member
tz_odd : (k x : ℕ) → x % 2 ≡ 1 → count_trailing_zeros (suc k) x ≡ 0
unfolding count_trailing_zeros
tz_odd k x e = rw e

tz_even : (k x : ℕ) → x % 2 ≡ 0 → count_trailing_zeros (suc k) x ≡ suc (count_trailing_zeros k (x / 2))
unfolding count_trailing_zeros
tz_even k x e = rw e

lowest_odd : (x : ℕ) → x % 2 ≡ 1 → Lowest (member x) 0
unfolding member
lowest_odd x e = record { here = ap (λ (n : ℕ). eqb n 1) e; before = λ k lt. absurd (not-suc-le-zero lt) }

before_even : (x t : ℕ) → x % 2 ≡ 0 → Lowest (member (x / 2)) t → (k : ℕ) → k < suc t → member x k ≡ false
unfolding member
before_even x t e l zero lt = ap (λ (n : ℕ). eqb n 1) e
before_even x t e l (suc k) lt = l.before k (le_of_suc-le-suc lt)

lowest_even : (x t : ℕ) → x % 2 ≡ 0 → Lowest (member (x / 2)) t → Lowest (member x) (suc t)
unfolding member
lowest_even x t e l = record { here = l.here; before = before_even x t e l }

pub lowest_of : (k x : ℕ) → x < 2 ^ k → 0 < x → (count_trailing_zeros k x < k) × Lowest (member x) (count_trailing_zeros k x)
lowest_of zero x h pos = let e = lt-one h in absurd (lt_irrefl 0 (subst (λ (n : ℕ). 0 < n) e pos))
lowest_of (suc k) x h pos = go (λ p. lowest_of k (x / 2) (half_lt k h) p) (x % 2) refl (digit x)
  where
    go : (0 < x / 2 → (count_trailing_zeros k (x / 2) < k) × Lowest (member (x / 2)) (count_trailing_zeros k (x / 2)))
        → (d : ℕ) → x % 2 ≡ d → d < 2 → (count_trailing_zeros (suc k) x < suc k) × Lowest (member x) (count_trailing_zeros (suc k) x)
    go ih zero e lt =
        let r = ih (omega arith) in
        rw (tz_even k x e) (suc-le-suc r.0, lowest_even x (count_trailing_zeros k (x / 2)) e r.1)
    go ih (suc zero) e lt = rw (tz_odd k x e) (zero-lt-suc k, lowest_odd x e)
    go ih (suc (suc d)) e lt = absurd (not-suc-le-zero (le_of_suc-le-suc (le_of_suc-le-suc lt)))

-- a mask that is not 0 has a member
pub some-member : (n x : ℕ) → x < 2 ^ n → x ≢ 0 → (t : ℕ) × (member x t ≡ true)
some-member n x h d = let l = lowest_of n x h (omega arith) in (_, l.1.here)

-- a set has one lowest member
pub lowest_unique : (X : Test) (t u : ℕ) → Lowest X t → Lowest X u → t ≡ u
lowest_unique X t u a b = le_antisymm (first X t u a b) (first X u t b a)
  where
    first : (X : Test) (t u : ℕ) → Lowest X t → Lowest X u → t ≤ u
    first X t u a b = le_of_suc-le-suc (lt_of_not-le (λ lt. true≢false (sym b.here ∙ a.before u lt)))

-- a member makes the mask positive
member_pos : (x t : ℕ) → member x t ≡ true → 0 < x
member_pos zero t e = absurd (true≢false (sym e ∙ member-none t))
member_pos (suc x) t e = zero-lt-suc x

odd_digit : (x : ℕ) → eqb (x % 2) 1 ≡ true → x % 2 ≡ 1
odd_digit x e = eqb-true (x % 2) 1 e

even_digit : (x : ℕ) → eqb (x % 2) 1 ≡ false → x % 2 ≡ 0
even_digit x e = let f = eqb-false (x % 2) 1 e in let d = digit x in omega (arith, f)

-- x & (x - 1) is x without its lowest member
pub drop_lowest : (t x : ℕ) → Lowest (member x) t → (k : ℕ) → member (bit_and x (x - 1)) k ≡ without_member t (member x) k
unfolding member
drop_lowest zero x l zero =
    let o = odd_digit x l.here in
    let e : (x - 1) % 2 ≡ 0 = omega arith in
    member_and x (x - 1) 0 ∙ ap (λ (n : ℕ). eqb (x % 2) 1 && eqb n 1) e ∙ and-false (eqb (x % 2) 1) ∙ sym (and-false (eqb (x % 2) 1))
drop_lowest zero x l (suc k) =
    let o = odd_digit x l.here in
    let e : (x - 1) / 2 ≡ x / 2 = omega arith in
    member_and x (x - 1) (suc k) ∙ ap (λ (n : ℕ). member (x / 2) k && member n k) e ∙ sym (member_and (x / 2) (x / 2) k)
    ∙ ap (λ (n : ℕ). member n k) (and_self (x / 2)) ∙ sym (and-true (member (x / 2) k)) ∙ ap (λ b. member (x / 2) k && not b) (sym (eqb-suc-zero k))
drop_lowest (suc t) x l zero =
    member_and x (x - 1) 0 ∙ ap (λ b. b && eqb ((x - 1) % 2) 1) (l.before 0 (zero-lt-suc t)) ∙ ap (λ b. b && not (eqb 0 (suc t))) (sym (l.before 0 (zero-lt-suc t)))
drop_lowest (suc t) x l (suc k) =
    let o = even_digit x (l.before 0 (zero-lt-suc t)) in
    let p = member_pos (x / 2) t l.here in
    let e : (x - 1) / 2 ≡ x / 2 - 1 = omega arith in
    let l' : Lowest (member (x / 2)) t = record { here = l.here; before = λ j lt. l.before (suc j) (suc-le-suc lt) } in
    member_and x (x - 1) (suc k) ∙ ap (λ (n : ℕ). member (x / 2) k && member n k) e ∙ sym (member_and (x / 2) (x / 2 - 1) k)
    ∙ drop_lowest t (x / 2) l' k ∙ ap (λ b. member (x / 2) k && not b) (sym (eqb-suc-suc k t))

pub drop_lowest_lt : (x : ℕ) → 0 < x → bit_and x (x - 1) < x
drop_lowest_lt x pos = let h = and_le_r x (x - 1) in omega arith

pub below_or_not : (k n : ℕ) → (k < n) ⊎ (n ≤ k)
below_or_not k n = elim (dec_lt k n) [ yes p ↦ inl p | no q ↦ inr (le_of_suc-le-suc (lt_of_not-le q)) ]

-- every number below k
pub member_ones : (k t : ℕ) → member (2 ^ k - 1) t ≡ up_to k t
member_ones k t = ⊎_elim
    (λ lt. ap (λ (x : ℕ). member x t) (sym (sub-zero (2 ^ k - 1))) ∙ member_not k 0 t (pow_pos k) lt ∙ ap not (member-none t) ∙ sym (lt-ltb t k lt))
    (λ le. member-high k (2 ^ k - 1) t (ones_lt k) le ∙ sym (le-ltb t k le))
    (below_or_not t k)

-- what the operations of a mask do, as tests
pub none_is : member 0 ≡ (λ t. false)
none_is = fun_ext member-none

pub power_is : (t : ℕ) → t < word_bits → 1 * 2 ^ t % 2 ^ word_bits ≡ 2 ^ t
power_is t lt = shl_exact 1 t word_bits (lit< tt) (omega arith) ∙ one-mul (2 ^ t)

pub only-is : (t : ℕ) → t < word_bits → member (1 * 2 ^ t % 2 ^ word_bits) ≡ only t
only-is t lt = fun_ext (λ k. ap (λ (n : ℕ). member n k) (power_is t lt) ∙ member-only t k)

pub up_to-is : (n : ℕ) → n < word_bits → member (1 * 2 ^ n % 2 ^ word_bits - 1) ≡ up_to n
up_to-is n lt = fun_ext (λ k. ap (λ (m : ℕ). member (m - 1) k) (power_is n lt) ∙ member_ones n k)

pub either_is : (a b : ℕ) → member (bit_or a b) ≡ either (member a) (member b)
either_is a b = fun_ext (member_or a b)

pub both_is : (a b : ℕ) → member (bit_and a b) ≡ both (member a) (member b)
both_is a b = fun_ext (member_and a b)

pub except-is : (x y : ℕ) → x < 2 ^ word_bits → y < 2 ^ word_bits → member (bit_and x ((2 ^ word_bits - 1) - y)) ≡ except (member x) (member y)
except-is x y hx hy = fun_ext (λ k. member_and x ((2 ^ word_bits - 1) - y) k ∙ at k)
  where
    at : (k : ℕ) → (member x k && member ((2 ^ word_bits - 1) - y) k) ≡ (member x k && not (member y k))
    at k = ⊎_elim
        (λ lt. ap (λ b. member x k && b) (member_not word_bits y k hy lt))
        (λ le. let z = member-high word_bits x k hx le in ap (λ b. b && member ((2 ^ word_bits - 1) - y) k) z ∙ ap (λ b. b && not (member y k)) (sym z))
        (below_or_not k word_bits)

pub without_is : (x y t : ℕ) → x < 2 ^ word_bits → y < 2 ^ word_bits → member y ≡ only t → member (bit_and x ((2 ^ word_bits - 1) - y)) ≡ without_member t (member x)
without_is x y t hx hy e = except-is x y hx hy ∙ ap (λ X. except (member x) X) e

-- a digit as a number, as the code takes it
pub bit_is : (x t : ℕ) → x / 2 ^ t % 2 ≡ bit (member x) t
bit_is x t = one_or_none (x / 2 ^ t % 2) (digit (x / 2 ^ t)) ∙ ap (λ b. when b 1) (member_shift x t)

-- a test's outcome as a number, as a cast makes it
pub flag_is : (b : Bool) → bool_byte b ≡ when b 1
flag_is true = refl
flag_is false = refl

pub one-is : (c : Bool) → eqb (when c 1) 1 ≡ c
one-is true = refl
one-is false = refl

-- a number joins where its digit says so
pub with_bit-is : (x t b : ℕ) → t < word_bits → b < 2 → member (bit_or (b * 2 ^ t % 2 ^ word_bits) x) ≡ with_bit t b (member x)
with_bit-is x t zero lt h =
    either_is (0 * 2 ^ t % 2 ^ word_bits) x
    ∙ fun_ext (λ k. ap (λ (n : ℕ). member (n % 2 ^ word_bits) k || member x k) (zero-mul (2 ^ t)) ∙ ap (λ c. c || member x k) (member-none k ∙ sym (and-false (eqb k t))))
with_bit-is x t (suc zero) lt h =
    either_is (1 * 2 ^ t % 2 ^ word_bits) x
    ∙ fun_ext (λ k. ap (λ c. c || member x k) (ap (λ X. X k) (only-is t lt) ∙ sym (and-true (eqb k t))))
with_bit-is x t (suc (suc b)) lt h = absurd (not-suc-le-zero (le_of_suc-le-suc (le_of_suc-le-suc h)))

-- masks with the same members are equal
same_digit : (a b : ℕ) → a < 2 → b < 2 → eqb a 1 ≡ eqb b 1 → a ≡ b
same_digit = digits2 (λ a b. eqb a 1 ≡ eqb b 1 → a ≡ b) (λ e. refl) (λ e. absurd (true≢false (sym e))) (λ e. absurd (true≢false e)) (λ e. refl)

pub same-mask : (k x y : ℕ) → x < 2 ^ k → y < 2 ^ k → ((t : ℕ) → t < k → member x t ≡ member y t) → x ≡ y
unfolding member
same-mask zero x y hx hy e = lt-one hx ∙ sym (lt-one hy)
same-mask (suc k) x y hx hy e =
    let low : x % 2 ≡ y % 2 = same_digit (x % 2) (y % 2) (digit x) (digit y) (e 0 (zero-lt-suc k)) in
    let high : x / 2 ≡ y / 2 = same-mask k (x / 2) (y / 2) (half_lt k hx) (half_lt k hy) (λ t lt. e (suc t) (suc-le-suc lt)) in
    omega arith

pub mask_by_members : (k x y : ℕ) → x < 2 ^ k → y < 2 ^ k → member x ≡ member y → x ≡ y
mask_by_members k x y hx hy e = same-mask k x y hx hy (λ t _. ap (λ X. X t) e)

-- a mask that lacks one of the members of another is less
pub without-less : (k t x y : ℕ) → x < 2 ^ k → y < 2 ^ k → ((u : ℕ) → member y u ≡ without_member t (member x) u) → member x t ≡ true → y < x
unfolding member
without-less k zero x y hx hy e h =
    let o = odd_digit x h in
    let z = even_digit y (e 0 ∙ and-false (eqb (x % 2) 1)) in
    let half : y / 2 ≡ x / 2 =
    same-mask k (y / 2) (x / 2) (omega arith) (omega arith)
    (λ u _. e (suc u) ∙ ap (λ b. member (x / 2) u && not b) (eqb-suc-zero u) ∙ and-true (member (x / 2) u)) in
    omega arith
without-less k (suc t) x y hx hy e h =
    let low : y % 2 ≡ x % 2 =
    same_digit (y % 2) (x % 2) (digit y) (digit x) (e 0 ∙ ap (λ b. eqb (x % 2) 1 && not b) (eqb-zero-suc t) ∙ and-true (eqb (x % 2) 1)) in
    let less : y / 2 < x / 2 =
    without-less k t (x / 2) (y / 2) (omega arith) (omega arith)
    (λ u. e (suc u) ∙ ap (λ b. member (x / 2) u && not b) (eqb-suc-suc u t)) h in
    omega arith

-- a mask without members is 0, and one that has none from n on is below 2 ^ n
pub no_member : (k x : ℕ) → x < 2 ^ k → ((t : ℕ) → t < k → member x t ≡ false) → x ≡ 0
no_member k x h e = same-mask k x 0 h (pow_pos k) (λ t lt. e t lt ∙ sym (member-none t))

pub below_power : (k n x : ℕ) → x < 2 ^ k → ((t : ℕ) → n ≤ t → member x t ≡ false) → x < 2 ^ n
unfolding member
below_power k zero x h e = let z : x ≡ 0 = no_member k x h (λ t lt. e t zero-le) in subst (λ (m : ℕ). m < 1) (sym z) (lit< tt)
below_power zero (suc n) x h e = subst (λ (m : ℕ). m < 2 ^ suc n) (sym (lt-one h)) (pow_pos (suc n))
below_power (suc k) (suc n) x h e =
    let r : x / 2 < 2 ^ n = below_power k n (x / 2) (half_lt k h) (λ t le. e (suc t) (suc-le-suc le)) in
    let p = pow-suc 2 n in
    omega arith

-- a member's number is below the width
pub member_below : (k x t : ℕ) → x < 2 ^ k → member x t ≡ true → t < k
member_below k x t h e = ⊎_elim (λ lt. lt) (λ le. absurd (true≢false (sym e ∙ member-high k x t h le))) (below_or_not t k)

-- a mask that is built number by number: after n numbers it has those below n that pass
order : (k n : ℕ) → (k < n) ⊎ ((k ≡ n) ⊎ (n < k))
order k n = ⊎_elim (λ lt. inl lt) (λ le. ⊎_elim (λ e. inr (inl (sym e))) (λ gt. inr (inr gt)) (eq-or-lt_of_le le)) (below_or_not k n)

part-next : (X : Test) (n k : ℕ) → part (n + 1) X k ≡ ((eqb k n && X n) || part n X k)
part-next X n k = at (order k n)
  where
    at : (k < n) ⊎ ((k ≡ n) ⊎ (n < k)) → (ltb k (n + 1) && X k) ≡ ((eqb k n && X n) || (ltb k n && X k))
    at (inl lt) = rw (lt-ltb k (n + 1) (omega arith), ne_eqb k n (λ e. omega arith), lt-ltb k n lt)
    at (inr (inl e)) =
        ap (λ b. b && X k) (lt-ltb k (n + 1) (omega arith)) ∙ ap X e ∙ sym (or-false (X n))
        ∙ ap₂ (λ a b. (a && X n) || (b && X k)) (sym (eq-eqb k n e)) (sym (le-ltb k n (omega arith)))
    at (inr (inr gt)) = rw (le-ltb k (n + 1) (omega arith), ne_eqb k n (λ e. omega arith), le-ltb k n (omega arith))

pub part-start : (X : Test) → member 0 ≡ part 0 X
part-start X = fun_ext (λ k. member-none k ∙ ap (λ b. b && X k) (sym (le-ltb k 0 zero-le)))

pub part-bit : (X : Test) (n x y b : ℕ) → member x ≡ part n X → b ≡ bit X n → member y ≡ with_bit n b (member x) → member y ≡ part (n + 1) X
part-bit X n x y b e h f =
    f ∙ ap (λ Y. with_bit n b Y) e ∙ fun_ext (λ k. sym (part-next X n k ∙ ap (λ c. (eqb k n && c) || part n X k) (sym (ap (λ (m : ℕ). eqb m 1) h ∙ one-is (X n)))))

-- a walk over the members, lowest first: what is left has the members from n on
pub walk_start : (X : Test) → X ≡ from_place 0 X
walk_start X = fun_ext (λ k. ap (λ b. b && X k) (sym (le-leb 0 k zero-le)))

module _ (X : Test) (n t x : ℕ) (left : member x ≡ from_place n X) (l : Lowest (member x) t) where
  walk_here : (leb n t && X t) ≡ true
  walk_here = sym (ap (λ Y. Y t) left) ∙ l.here

  -- the lowest of what is left is a member from n on, and there is none between
  pub walk_member : X t ≡ true
  walk_member = is_true (X t) (and_right (leb n t) (X t) (subst T (sym walk_here) tt))

  pub walk_from : n ≤ t
  walk_from = leb→le n t (and_left (leb n t) (X t) (subst T (sym walk_here) tt))

  pub walk_between : (k : ℕ) → n ≤ k → k < t → X k ≡ false
  walk_between k le lt = ap (λ b. b && X k) (sym (le-leb n k le)) ∙ sym (ap (λ Y. Y k) left) ∙ l.before k lt

  pub walk_next : (y : ℕ) → member y ≡ without_member t (member x) → member y ≡ from_place (t + 1) X
  walk_next y e = e ∙ fun_ext (λ k. at k (order k t))
    where
      at : (k : ℕ) → (k < t) ⊎ ((k ≡ t) ⊎ (t < k)) → (member x k && not (eqb k t)) ≡ (leb (t + 1) k && X k)
      at k (inl lt) = rw (l.before k lt, lt-leb (t + 1) k (omega arith))
      at k (inr (inl e)) = rw (eq-eqb k t e, lt-leb (t + 1) k (omega arith)) (and-false (member x k))
      at k (inr (inr gt)) =
          rw (ne_eqb k t (λ e. omega arith), le-leb (t + 1) k (omega arith))
          (and-true (member x k) ∙ ap (λ Y. Y k) left ∙ ap (λ b. b && X k) (le-leb n k (omega (arith, walk_from))))

pub walk_end : (X : Test) (n : ℕ) → member 0 ≡ from_place n X → (k : ℕ) → n ≤ k → X k ≡ false
walk_end X n e k le = ap (λ b. b && X k) (sym (le-leb n k le)) ∙ sym (ap (λ Y. Y k) e) ∙ member-none k

-- sizes
pub size_none : (n : ℕ) → size n (member 0) ≡ 0
size_none n = sum_ext n (λ k. when (member 0 k) 1) (λ k. 0) (λ k _. ap (λ b. when b 1) (member-none k)) ∙ sum-zero n

pub size-without : (n t : ℕ) (X : Test) → t < n → X t ≡ true → size n X ≡ suc (size n (without_member t X))
size-without n t X lt e =
    let other : (k : ℕ) → k < n → k ≢ t → when (X k) 1 ≡ when (X k && not (eqb k t)) 1 = λ k _ ne. ap (λ b. when b 1) (sym (ap (λ b. X k && not b) (ne_eqb k t ne) ∙ and-true (X k))) in
    let here : when (X t && not (eqb t t)) 1 ≡ 0 = ap (λ b. when (X t && not b) 1) (eq-eqb t t refl) ∙ ap (λ b. when b 1) (and-false (X t)) in
    omega (arith, sum_change n (λ k. when (X k) 1) (λ k. when (X k && not (eqb k t)) 1) t lt other, here, ap (λ b. when b 1) e)
