-- Supplies, demands and zeros: the flow that sends nothing.
-- Assumes nothing.
use mathlib.Core.Path.{◌≡◌, refl, sym, ap, ◌∙◌, subst}
use mathlib.Core.List.{List, [], ◌∷◌}
use Prim.Native.Nat.{ℕ, ◌+◌, ◌*◌, ◌≤◌, ◌<◌, ◌^◌}
use native.Mathlib.Nat.{mul_comm, mul-le-mul_right, mul-le-mul_left}
use native.Mathlib.Omega.{arith}
use lib.ListN.{length, get_or}
use Rattle.std.proofs.lemmas.List.Sums.{sum_by-cons}
use Rattle.std.specs.Prelude.{sum as list_sum}
use Rattle.simulation.specs.Limits.{most_states, most_total}
use Rattle.simulation.specs.Fit.{weight, total}
use Rattle.simulation.proofs.Finite.Sums.{sum_first, sum_mono, sum_mul, sum_term}
use Rattle.relation.specs.Rows.{row_of, height}
use Rattle.matrix.specs.Matrix.{row_sum, column_sum}
use Rattle.matrix.specs.Problem.{Given}
use Rattle.matrix.specs.Flow.{missing, Flow, Preserves}
use Rattle.greedy.specs.Start.{Supplies, Begun, Balanced}
use Rattle.matrix.proofs.MatrixLaws.{row_sum-none, column-none}
use Rattle.matrix.proofs.MaskedLaws.{mask-zero}

total_more : (w : ℕ) (ws : List ℕ) → total (w ∷ ws) ≡ w + total ws
unfolding total
total_more w ws = sum_first (length ws) (weight (w ∷ ws))

-- a total is the sum of the list
pub total_sum : (ws : List ℕ) → total ws ≡ list_sum ws
unfolding total
total_sum [] = refl
total_sum (w ∷ ws) = total_more w ws ∙ ap (λ n. w + n) (total_sum ws) ∙ sym (sum_by-cons (λ n. n) w ws)

pub supplies-is : {ws a : List ℕ} {t t' n n' : ℕ} → t ≡ t' → n ≡ n' → Supplies ws t n a → Supplies ws t' n' a
supplies-is {ws} {a} {t' = t'} {n = n} e f s = subst (λ (m : ℕ). Supplies ws t' m a) f (subst (λ (t : ℕ). Supplies ws t n a) e s)

-- a supply fits 32 bits
pub supply-fits : (v t : ℕ) → v ≤ most_total → t ≤ most_total → v * t < 2 ^ 32
supply-fits v t h l = omega (arith, mul-le-mul_right t h, mul-le-mul_left most_total l)

pub weight_le : (ws : List ℕ) (i : ℕ) → i < length ws → weight ws i ≤ total ws
unfolding total
weight_le ws i h = sum_term (length ws) (weight ws) i h

module _ {ws vs x₀ x a b : List ℕ} (s : Begun ws vs x₀ x a b) where
  no_row : (i : ℕ) → i < length ws → row_sum (length vs) x i ≡ 0
  no_row i h = row_sum-none (length vs) i x (λ j l. s.cleared.zero i j h l)

  no-column : (j : ℕ) → j < length vs → column_sum (length ws) x j ≡ 0
  no-column j h = column-none (length ws) j x (λ i l. s.cleared.zero i j l h)

  -- nothing is sent
  pub begun : {rel : List ℕ} (senders : List ℕ) → Given ws vs rel x₀ → length x ≡ length x₀ → length ws ≤ length a → length vs ≤ length b → most_states ≤ height senders
      → ((j : ℕ) → row_of senders j ≡ 0) → Flow (length ws) (length vs) rel x a b senders
  begun senders g lx la lb lu u = record {
    sized = record { few_rows = g.few_rows; few_columns = g.few_columns; masks = g.masks; cells = omega (arith, g.cells); supplies = la; demands = lb; columns = lu };
    supported = record { support = λ i j h l n. absurd (n (s.cleared.zero i j h l)) };
    small = record { fits = λ i h. omega (arith, no_row i h, s.supplies.supply i h, supply-fits (weight ws i) (total vs) (omega (arith, weight_le ws i h, g.total_ws)) g.total_vs) };
    used = record { column = λ j h. mask-zero (λ i l. s.cleared.zero i j l h) (u j); none = λ j h. u j };
  }

  pub balanced : {x' a' b' : List ℕ} → Preserves (length ws) (length vs) x a b x' a' b' → Balanced ws vs x' a' b'
  balanced k = record {
    sent = λ i h. omega (arith, k.sent i h, no_row i h, s.supplies.supply i h);
    taken = λ j h. omega (arith, k.taken j h, no-column j h, s.demands.supply j h);
  }

-- what the columns lack fits 32 bits
pub missing-fits : {ws vs rel x₀ x a b : List ℕ} → Given ws vs rel x₀ → Balanced ws vs x a b → missing (length vs) b < 2 ^ 32
unfolding missing total
missing-fits {ws} {vs} {b = b} g k = omega (
  arith,
  supply-fits (total ws) (total vs) g.total_ws g.total_vs,
  sum_mono (length vs) (λ j. get_or b j 0) (λ j. total ws * weight vs j) (λ j h. omega (arith, k.taken j h, mul_comm (weight vs j) (total ws))),
  sum_mul (length vs) (total ws) (weight vs),
)
