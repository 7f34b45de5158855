-- What a call reports of the ranks: the list of all of them, the count of rounds and the count of kept pairs. For any two tables.
-- Assumes nothing.
use mathlib.Core.Path.{◌≡◌, refl, sym, ap, ◌∙◌}
use mathlib.Core.List.{List, [], ◌∷◌, ◌++◌}
use Prim.Native.Nat.{ℕ, zero, suc, ◌+◌, ◌*◌, ◌≤◌, ◌<◌, zero-le}
use native.Mathlib.Nat.{not-suc-le-zero, le_of_suc-le-suc, zero-add, add-zero, add-suc, suc-add, suc-mul, zero-mul, max-le}
use native.Mathlib.Omega.{arith}
use lib.Dec.{eqb}
use lib.ListN.{length, get_or, length-append, get_or-append}
use lib.Seq.{get_or-append-add}
use Rattle.simulation.specs.Sum.{sum, below, concat, when}
use Rattle.simulation.specs.Table.{Table, states_of}
use Rattle.simulation.specs.Round.{pairs, rank, rank_list, maximum, zeros}
use Rattle.simulation.proofs.Finite.Sums.{sum_ext, sum_shift, members}
use Rattle.simulation.proofs.Finite.Lists.{below_length, below_at}
use Rattle.simulation.proofs.Simulation.Ranks.{rank_law}

-- lists of q numbers each, one after the other
module _ (q : ℕ) (g : ℕ → List ℕ) (same : (s : ℕ) → length (g s) ≡ q) where
  rows-length : (i p : ℕ) → length (concat (below i p g)) ≡ p * q
  unfolding concat below
  rows-length i zero = sym (zero-mul q)
  rows-length i (suc p) = length-append (g i) (concat (below (suc i) p g)) ∙ omega (arith, same i, rows-length (suc i) p, suc-mul p q)

  rows_at : (i p s t : ℕ) → s < p → t < q → get_or (concat (below i p g)) (s * q + t) 0 ≡ get_or (g (i + s)) t 0
  unfolding concat below
  rows_at i zero s t a b = absurd (not-suc-le-zero a)
  rows_at i (suc p) zero t a b =
      ap (λ (k : ℕ). get_or (g i ++ concat (below (suc i) p g)) k 0) (omega (arith, zero-mul q))
      ∙ get_or-append (g i) (concat (below (suc i) p g)) 0 t (omega (arith, same i))
      ∙ ap (λ (j : ℕ). get_or (g j) t 0) (sym (add-zero i))
  rows_at i (suc p) (suc s) t a b =
      ap (λ (k : ℕ). get_or (g i ++ concat (below (suc i) p g)) k 0) (omega (arith, suc-mul s q, same i))
      ∙ get_or-append-add (g i) (concat (below (suc i) p g)) (s * q + t) 0
      ∙ rows_at (suc i) p s t (le_of_suc-le-suc a) b
      ∙ ap (λ (j : ℕ). get_or (g j) t 0) (suc-add i s ∙ sym (add-suc i s))

-- the largest number of a list
maximum-append : (xs ys : List ℕ) (c : ℕ) → maximum xs ≤ c → maximum ys ≤ c → maximum (xs ++ ys) ≤ c
unfolding maximum
maximum-append [] ys c a b = b
maximum-append (x ∷ xs) ys c a b = max-le (omega arith) (maximum-append xs ys c (omega arith) b)

maximum-below : (f : ℕ → ℕ) (i n c : ℕ) → ((k : ℕ) → i ≤ k → k < i + n → f k ≤ c) → maximum (below i n f) ≤ c
unfolding maximum below
maximum-below f i zero c h = zero-le
maximum-below f i (suc n) c h = max-le (h i (omega arith) (omega arith)) (maximum-below f (suc i) n c (λ k a b. h k (omega arith) (omega arith)))

maximum-rows : (g : ℕ → List ℕ) (i n c : ℕ) → ((k : ℕ) → i ≤ k → k < i + n → maximum (g k) ≤ c) → maximum (concat (below i n g)) ≤ c
unfolding maximum concat below
maximum-rows g i zero c h = zero-le
maximum-rows g i (suc n) c h =
    maximum-append (g i) (concat (below (suc i) n g)) c (h i (omega arith) (omega arith)) (maximum-rows g (suc i) n c (λ k a b. h k (omega arith) (omega arith)))

maximum-at : (xs : List ℕ) (k : ℕ) → get_or xs k 0 ≤ maximum xs
unfolding maximum
maximum-at [] k = zero-le
maximum-at (x ∷ xs) zero = omega arith
maximum-at (x ∷ xs) (suc k) = omega (arith, maximum-at xs k)

-- how many numbers of a list are 0
zeros-append : (xs ys : List ℕ) → zeros (xs ++ ys) ≡ zeros xs + zeros ys
unfolding zeros
zeros-append [] ys = sym (zero-add (zeros ys))
zeros-append (x ∷ xs) ys = omega (arith, zeros-append xs ys)

zeros-below : (f : ℕ → ℕ) (i n : ℕ) → zeros (below i n f) ≡ sum n (λ k. when (eqb (f (i + k)) 0) 1)
unfolding zeros below sum
zeros-below f i zero = refl
zeros-below f i (suc n) = omega (arith, zeros-below f (suc i) n, sum_shift (λ k. when (eqb (f k) 0) 1) i n)

zeros-rows : (g : ℕ → List ℕ) (i n : ℕ) → zeros (concat (below i n g)) ≡ sum n (λ k. zeros (g (i + k)))
unfolding zeros concat below sum
zeros-rows g i zero = refl
zeros-rows g i (suc n) = omega (arith, zeros-append (g i) (concat (below (suc i) n g)), zeros-rows g (suc i) n, sum_shift (λ k. zeros (g k)) i n)

module _ (M N : Table) where
  abbrev row : ℕ → List ℕ
  row s = below 0 (states_of N) (rank M N s)

  row-length : (s : ℕ) → length (row s) ≡ states_of N
  row-length s = below_length (rank M N s) 0 (states_of N)

  list_is : rank_list M N ≡ concat (below 0 (states_of M) row)
  unfolding rank_list
  list_is = refl

  pub rank_list-length : length (rank_list M N) ≡ pairs M N
  rank_list-length = ap length list_is ∙ rows-length (states_of N) row row-length 0 (states_of M)

  pub rank_list-at : (s t : ℕ) → s < states_of M → t < states_of N → get_or (rank_list M N) (s * states_of N + t) 0 ≡ rank M N s t
  rank_list-at s t a b =
      ap (λ (l : List ℕ). get_or l (s * states_of N + t) 0) list_is
      ∙ rows_at (states_of N) row row-length 0 (states_of M) s t a b
      ∙ ap (λ (j : ℕ). get_or (row j) t 0) (zero-add s)
      ∙ below_at 0 (rank M N s) (states_of N) t b

  -- the count of rounds is the largest rank
  pub rounds_above : (s t : ℕ) → s < states_of M → t < states_of N → rank M N s t ≤ maximum (rank_list M N)
  rounds_above s t a b = omega (arith, rank_list-at s t a b, maximum-at (rank_list M N) (s * states_of N + t))

  pub rounds-least : (c : ℕ) → ((s t : ℕ) → s < states_of M → t < states_of N → rank M N s t ≤ c) → maximum (rank_list M N) ≤ c
  rounds-least c h =
      let m : maximum (concat (below 0 (states_of M) row)) ≤ c =
      maximum-rows row 0 (states_of M) c (λ s _ a. maximum-below (rank M N s) 0 (states_of N) c (λ t _ b. h s t (omega arith) (omega arith))) in
      omega (arith, ap maximum list_is)

  pub rounds-pairs : maximum (rank_list M N) ≤ pairs M N
  rounds-pairs = rounds-least (pairs M N) (λ s t a b. (rank_law M N s t a b).bound)

  -- the kept pairs, row by row
  pub kept-count : zeros (rank_list M N) ≡ sum (states_of M) (λ s. members (states_of N) (λ t. eqb (rank M N s t) 0))
  kept-count =
      ap zeros list_is
      ∙ zeros-rows row 0 (states_of M)
      ∙ sum_ext (states_of M) (λ s. zeros (row (0 + s))) (λ s. members (states_of N) (λ t. eqb (rank M N s t) 0)) (λ s _.
      ap (λ (j : ℕ). zeros (row j)) (zero-add s)
      ∙ zeros-below (rank M N s) 0 (states_of N)
      ∙ sum_ext (states_of N) _ _ (λ t _. ap (λ (j : ℕ). when (eqb (rank M N s j) 0) 1) (zero-add t)))
