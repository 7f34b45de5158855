-- How long the text can be.
-- Assumes nothing.
use Rattle.std.proofs.Common.{◌≡◌, Bool, true, false, cond, List, [], ◌∷◌, ℕ, zero, suc, ◌+◌, ◌*◌, ◌^◌, ◌≤◌, ◌<◌, max, length, length-append, get_or, take, arith}
use native.Mathlib.Nat.{suc-mul, mul-le-mul_right}
use lib.Dec.{eqb}
use Prim.Native.Nat.{zero-le}
use Rattle.std.specs.Prelude.{Option, Some, None}
use Rattle.simulation.specs.Limits.{most_states}
use Rattle.simulation.specs.Round.{maximum, zeros}
use Rattle.report.specs.Text.{word_rounds, word_kept, word_yes, word_no, word_row, word_tables, word_refused, space, pieces, pair_line, ranks_text, row_line, rows_text, yes?, summary_line, bytes_text, tree_line, tree_or_refusal, tree_text, tree_size, refused_text, report_text, answer_text, text_bound}
use Rattle.digits.specs.Digits.{labelled}
use Rattle.report.proofs.Counting.{zeros-most}
use Rattle.digits.proofs.Digits.{decimal-short}

-- each piece is at most k long
pieces-short : (f : ℕ → List ℕ) (n k : ℕ) → ((i : ℕ) → i < n → length (f i) ≤ k) → length (pieces f n) ≤ n * k
unfolding pieces
pieces-short f zero k h = zero-le
pieces-short f (suc n) k h = omega (arith, length-append {A = ℕ}, pieces-short f n k (λ i lt. h i (omega arith)), h n (omega arith), suc-mul n k)

labelled-short : (word : List ℕ) (n k : ℕ) → n < 10 ^ suc k → length (labelled word n) ≤ length word + suc k
labelled-short word n k lt = omega (arith, length-append {A = ℕ}, decimal-short k n lt)

pair_short : (word : List ℕ) (a b k : ℕ) → a < 10 ^ suc k → b < 10 ^ suc k → length (pair_line word a b) ≤ length word + suc k + 1 + suc k + 1
unfolding pair_line
pair_short word a b k la lb = omega (arith, length-append {A = ℕ}, labelled-short word a k la, labelled-short space b k lb)

pub refused_short : (table number : ℕ) → table < 2 ^ 32 → number < 2 ^ 32 → length (refused_text table number) ≤ 30
refused_short table number lt ln = omega (arith, pair_short word_refused table number 9 (omega arith) (omega arith))

maximum-short : (ranks : List ℕ) (n : ℕ) → 0 < n → ((i : ℕ) → get_or ranks i 0 < n) → maximum ranks < n
unfolding maximum
maximum-short [] n pos h = pos
maximum-short (x ∷ xs) n pos h = omega (arith, h 0, maximum-short xs n pos (λ i. h (suc i)))

module _ (ranks : List ℕ) (small : (i : ℕ) → get_or ranks i 0 < 2 ^ 16) where
  ranks-short : (from q : ℕ) → length (ranks_text ranks from q) ≤ q * 6
  unfolding ranks_text
  ranks-short from q = pieces-short (λ t. labelled space (get_or ranks (from + t) 0)) q 6 (λ t _. labelled-short space (get_or ranks (from + t) 0) 4 (omega (arith, small (from + t))))

  row-short : (q s : ℕ) → s < most_states → length (row_line ranks q s) ≤ 8 + 6 * q
  unfolding row_line
  row-short q s ls = simp length-append (omega (arith, labelled-short word_row s 2 (omega arith), ranks-short (s * q) q))

  rows_short : (p q : ℕ) → p ≤ most_states → length (rows_text ranks q p) ≤ p * (8 + 6 * q)
  unfolding rows_text
  rows_short p q lp = pieces-short (row_line ranks q) p (8 + 6 * q) (λ s lt. row-short q s (omega arith))

verdict-short : (good : Bool) → length (cond good word_yes word_no) ≤ 4
verdict-short true = omega arith
verdict-short false = omega arith

summary_short : (rounds kept : ℕ) (good : Bool) → rounds < 100000 → kept < 100000 → length (summary_line rounds kept good) ≤ 36
unfolding summary_line
summary_short rounds kept good lr lk =
    simp length-append (omega (arith, labelled-short word_rounds rounds 4 lr, labelled-short word_kept kept 4 lk, verdict-short good))

bytes-short : (bytes : List ℕ) → length (bytes_text bytes) ≤ 3 * length bytes
unfolding bytes_text
bytes-short [] = zero-le
bytes-short (b ∷ bs) = omega (arith, length-append {A = ℕ}, bytes-short bs)

tree_short : (good : Bool) (tree : Option (List ℕ)) → length (tree_text good tree) ≤ max 16 (5 + 3 * tree_size tree)
unfolding tree_text tree_or_refusal tree_line
tree_short true tree = zero-le
tree_short false None = omega arith
tree_short false (Some bytes) = simp length-append (omega (arith, bytes-short bytes))

-- the whole text, for tables within the limits
pub report_short : (p q : ℕ) (ranks : List ℕ) (tree : Option (List ℕ)) → p ≤ most_states → q ≤ most_states → p * q ≡ length ranks → ((i : ℕ) → get_or ranks i 0 < 2 ^ 16)
    → length (report_text p q ranks tree) ≤ text_bound p q (tree_size tree)
unfolding report_text
report_short p q ranks tree lp lq e small =
    let kept : zeros ranks < 100000 = omega (arith, zeros-most ranks, mul-le-mul_right q lp) in
    omega (
      arith,
      length-append {A = ℕ},
      pair_short word_tables p q 2 (omega arith) (omega arith),
      rows_short ranks small p q lp,
      summary_short (maximum ranks) (zeros ranks) (yes? ranks) (omega (arith, maximum-short ranks (2 ^ 16) (omega arith) small)) kept,
      tree_short (yes? ranks) tree,
    )

-- no text is empty: each begins with a word
pair_some : (word : List ℕ) (a b : ℕ) → length word ≤ length (pair_line word a b)
unfolding pair_line
pair_some word a b = simp length-append (omega arith)

pub some-text : (table number written p q : ℕ) (ranks tree : List ℕ) → 0 < length (answer_text table number written p q ranks tree)
unfolding answer_text report_text
some-text table number written p q ranks tree = go (eqb table 0)
  where
    go : (c : Bool) → 0 < length (cond c (report_text p q (take (p * q) ranks) (cond (eqb number 23) None (Some (take written tree)))) (refused_text table number))
    go true = simp length-append (omega (arith, pair_some word_tables p q))
    go false = omega (arith, pair_some word_refused table number)
