-- The relation of a round out of ranks: the digits that the code takes.
-- Assumes nothing.
use mathlib.Core.Path.{◌≡◌, sym, ◌∙◌, ap, ap₂}
use mathlib.Core.Bool.{◌||◌}
use mathlib.Core.Logic.{◌⊎◌, inl, inr}
use Prim.Native.Nat.{ℕ, ◌+◌, ◌-◌, ◌/◌, ◌%◌, ◌^◌, ◌<◌, ◌≤◌}
use native.Mathlib.Decide.{ℕ_discrete}
use native.Mathlib.Omega.{arith}
use lib.Dec.{eqb, leb}
use borrow.Author.Tests.{le-leb, lt-leb, eq-eqb, ne_eqb}
use Rattle.simulation.specs.Sum.{when}
use Rattle.relation.specs.Ranks.{lasts}
use Rattle.word.proofs.Mask.{below_or_not}

-- a rank of 0 alone leaves the digit 16
pub kept_digit : (rank : ℕ) → rank < 65536 → (65536 - rank) / 2 ^ 16 % 2 ≡ when (eqb rank 0) 1
kept_digit rank small = at (ℕ_discrete rank 0)
  where
    at : Dec (rank ≡ 0) → (65536 - rank) / 2 ^ 16 % 2 ≡ when (eqb rank 0) 1
    at (yes z) = let one : (65536 - rank) / 2 ^ 16 % 2 ≡ 1 = omega arith in one ∙ sym (ap (λ b. when b 1) (eq-eqb rank 0 z))
    at (no n) = let none : (65536 - rank) / 2 ^ 16 % 2 ≡ 0 = omega (arith, n) in none ∙ sym (ap (λ b. when b 1) (ne_eqb rank 0 n))

-- the digit 17 is there unless the round is above the rank, which counts as 2 ^ 16 where it is 0
module _ (r rank : ℕ) (round-small : r < 65536) (rank-small : rank < 65536) where
  abbrev shifted : ℕ
  shifted = ((rank + 65535) % 65536 + (131073 - r)) / 2 ^ 17

  pub lasts_digit : shifted % 2 ≡ when (lasts r rank) 1
  lasts_digit = at (ℕ_discrete rank 0) (below_or_not rank r)
    where
      at : Dec (rank ≡ 0) → (rank < r) ⊎ (r ≤ rank) → shifted % 2 ≡ when (lasts r rank) 1
      at (yes z) o =
          let last : (rank + 65535) % 65536 ≡ 65535 = ap (λ (n : ℕ). (n + 65535) % 65536) z in
          let one : shifted ≡ 1 = omega arith in
          ap (λ (n : ℕ). n % 2) one ∙ sym (ap (λ b. when (b || leb r rank) 1) (eq-eqb rank 0 z))
      at (no n) (inl lt) =
          let none : shifted ≡ 0 = omega (arith, n) in
          ap (λ (n : ℕ). n % 2) none ∙ sym (ap₂ (λ a b. when (a || b) 1) (ne_eqb rank 0 n) (lt-leb r rank lt))
      at (no n) (inr ge) =
          let one : shifted ≡ 1 = omega (arith, n) in
          ap (λ (n : ℕ). n % 2) one ∙ sym (ap₂ (λ a b. when (a || b) 1) (ne_eqb rank 0 n) (le-leb r rank ge))
