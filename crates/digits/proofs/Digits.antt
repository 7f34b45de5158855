-- Laws of numbers in base ten.
-- Assumes nothing.
use Rattle.std.proofs.Common.{◌≡◌, refl, sym, ◌∙◌, [], ◌∷◌, ◌++◌, ℕ, zero, suc, ◌+◌, ◌/◌, ◌%◌, ◌≤◌, ◌<◌, ◌^◌, length, length-append, arith}
use native.Mathlib.Nat.{lt_of_not-le, pow-suc}
use native.Mathlib.Decide.{dec_lt}
use borrow.Author.Tests.{lt-ltb, le-ltb}
use Rattle.digits.specs.Digits.{digits, decimal}

module _ (most n : ℕ) where
  digits_last : n < 10 → digits (suc most) n ≡ (48 + n) ∷ []
  unfolding digits
  digits_last lt = rw (lt-ltb n 10 lt, digits) refl

  digits_more : 10 ≤ n → digits (suc most) n ≡ digits most (n / 10) ++ ((48 + n % 10) ∷ [])
  unfolding digits
  digits_more le = rw (le-ltb n 10 le, digits) refl

-- more places than digits change nothing
digits_same : (a b n : ℕ) → n < a → n < b → digits a n ≡ digits b n
digits_same zero b n la lb = absurd (omega arith)
digits_same (suc a) zero n la lb = absurd (omega arith)
digits_same (suc a) (suc b) n la lb =
    elim (dec_lt n 10) [
      | yes lt ↦ digits_last a n lt ∙ sym (digits_last b n lt)
      | no not ↦
          let le : 10 ≤ n = omega (arith, lt_of_not-le not) in
          rw (digits_more a n le, digits_more b n le, digits_same a b (n / 10) (omega arith) (omega arith)) refl
    ]

pub decimal-last : (n : ℕ) → n < 10 → decimal n ≡ (48 + n) ∷ []
unfolding decimal
decimal-last n lt = digits_last n n lt

pub decimal-more : (n : ℕ) → 10 ≤ n → decimal n ≡ decimal (n / 10) ++ ((48 + n % 10) ∷ [])
unfolding decimal
decimal-more n le = rw (digits_more n n le, digits_same n (suc (n / 10)) (n / 10) (omega arith) (omega arith)) refl

-- a number below a power of ten has no more digits than its exponent
pub decimal-short : (k n : ℕ) → n < 10 ^ suc k → length (decimal n) ≤ suc k
decimal-short zero n lt = rw (decimal-last n lt) (omega arith)
decimal-short (suc k) n lt =
    elim (dec_lt n 10) [
      | yes small ↦ rw (decimal-last n small) (omega arith)
      | no not ↦
          let le : 10 ≤ n = omega (arith, lt_of_not-le not) in
          rw (decimal-more n le) (omega (arith, length-append {A = ℕ}, decimal-short k (n / 10) (omega (arith, pow-suc 10 (suc k)))))
    ]
