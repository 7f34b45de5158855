-- A set of numbers as a test, and as a mask: t is a member where digit t is one.
-- Assumes nothing.
use Rattle.std.specs.Prelude.{◌≡◌, Bool, true, false, not, ◌&&◌, ◌||◌, ℕ, zero, suc, ◌/◌, ◌%◌, ◌<◌, eqb, leb, ltb}
use Rattle.simulation.specs.Sum.{sum, when}

-- the bits of a word
abbrev pub word_bits : ℕ
word_bits = 64

abbrev pub Test : Type 0
Test = ℕ → Bool

-- the digits, lowest first
unfoldable pub member : ℕ → Test
member x zero = eqb (x % 2) 1
member x (suc t) = member (x / 2) t

abbrev pub only : ℕ → Test
only t k = eqb k t

abbrev pub up_to : ℕ → Test
up_to n k = ltb k n

abbrev pub with_member : ℕ → Test → Test
with_member t X k = eqb k t || X k

abbrev pub without_member : ℕ → Test → Test
without_member t X k = X k && not (eqb k t)

-- t too if b is 1
abbrev pub with_bit : ℕ → ℕ → Test → Test
with_bit t b X k = (eqb k t && eqb b 1) || X k

abbrev pub either : Test → Test → Test
either X Y k = X k || Y k

abbrev pub both : Test → Test → Test
both X Y k = X k && Y k

abbrev pub except : Test → Test → Test
except X Y k = X k && not (Y k)

-- 1 for a member, else 0
abbrev pub bit : Test → ℕ → ℕ
bit X t = when (X t) 1

-- those that pass below n, and those that pass from n on: what a loop has gathered, and what it has left
abbrev pub part : ℕ → Test → Test
part n X k = ltb k n && X k

abbrev pub from_place : ℕ → Test → Test
from_place n X k = leb n k && X k

-- how many numbers below n pass
abbrev pub size : ℕ → Test → ℕ
size n X = sum n (λ k. when (X k) 1)

-- t passes, and no number below it does
pub record Lowest (X : Test) (t : ℕ) : Type 0 where
  pub here : X t ≡ true
  pub before : (k : ℕ) → k < t → X k ≡ false
