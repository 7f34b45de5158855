-- The largest rank and the number of zeros, as the library's functions on lists give them.
-- Assumes nothing.
use Rattle.std.proofs.Common.{◌≡◌, refl, List, [], ◌∷◌, ℕ, ◌≤◌, max, eqb, length, sum_by, unwrap_or, arith}
use Prim.Native.Nat.{zero-le}
use Rattle.std.specs.List.{fold, reduce}
use Rattle.std.proofs.lemmas.Grind.{common_steps}
use Rattle.simulation.specs.Sum.{when}
use Rattle.simulation.specs.Round.{maximum, zeros}
use Rattle.simulation.proofs.Finite.Sums.{one-most}

fold-max : (x : ℕ) (xs : List ℕ) → fold max x xs ≡ max x (maximum xs)
unfolding maximum
fold-max x [] = omega arith
fold-max x (y ∷ xs) = omega (arith, fold-max (max x y) xs)

pub largest : (xs : List ℕ) → unwrap_or (reduce max xs) 0 ≡ maximum xs
unfolding maximum
largest [] = refl
largest (x ∷ xs) = fold-max x xs

-- 1 for a rank of 0
abbrev pub one : ℕ → ℕ
one rank = when (eqb rank 0) 1

pub zeros-counted : (xs : List ℕ) → sum_by one xs ≡ zeros xs
unfolding zeros
zeros-counted [] = refl
zeros-counted (x ∷ xs) = grind (arith, common_steps, zeros-counted xs)

pub zeros-most : (xs : List ℕ) → zeros xs ≤ length xs
unfolding zeros
zeros-most [] = zero-le
zeros-most (x ∷ xs) = omega (arith, zeros-most xs, one-most (eqb x 0))
