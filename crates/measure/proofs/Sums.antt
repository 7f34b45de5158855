-- The lengths of a set of pairs, added up.
-- Assumes nothing.
use Rattle.form.specs.declared.tables.Tables.{Tables}
use mathlib.Core.Path.{◌≡◌, refl, sym, ap, ◌∙◌}
use mathlib.Core.Bool.{not, ◌&&◌, and-true, and-false}
use mathlib.Core.List.{List}
use Prim.Native.Nat.{ℕ, ◌+◌, ◌*◌, ◌≤◌, ◌<◌}
use native.Mathlib.Omega.{arith}
use lib.Dec.{T}
use lib.ListN.{get_or}
use borrow.Author.Tests.{eq-eqb, ne_eqb}
use Rattle.simulation.specs.Sum.{sum, when}
use Rattle.simulation.specs.Table.{states_of}
use Rattle.simulation.proofs.Finite.Sums.{sum_ext, sum-zero, sum_change}
use Rattle.form.specs.Tables.{contract_table}
use Rattle.word.specs.Mask.{Test, member, without_member, Lowest}
use Rattle.word.proofs.Mask.{member-none}
use Rattle.counting.proofs.Pairs.{member-holds, without_in}
use Rattle.measure.specs.Lengths.{set_length, SumGiven}

-- a sum over the members of a set: its lowest member, and the others
sum_lowest : (n : ℕ) (f : ℕ → ℕ) (X : Test) (t : ℕ) → t < n → Lowest X t
    → sum n (λ k. when (X k) (f k)) ≡ f t + sum n (λ k. when (without_member t X k) (f k))
sum_lowest n f X t lt l =
    omega (
      arith,
      sum_change n (λ k. when (X k) (f k)) (λ k. when (without_member t X k) (f k)) t lt
          (λ k _ d. ap (λ b. when b (f k)) (sym (ap (λ b. X k && not b) (ne_eqb k t d) ∙ and-true (X k)))),
      ap (λ b. when b (f t)) l.here,
      ap (λ b. when b (f t)) (ap (λ b. X t && not b) (eq-eqb t t refl) ∙ and-false (X t)),
    )

-- ---- the loop that adds up

-- the sum so far and the lengths of the members left are 1 and the lengths of all
pub record SumLoop (tables : Tables) (lengths : List ℕ) (s members len left : ℕ) : Type 0 where
  pub total : len + set_length (states_of (contract_table tables)) lengths s (member left) ≡ 1 + set_length (states_of (contract_table tables)) lengths s (member members)
  pub kept : (t : ℕ) → T (member left t) → T (member members t)

module _ {tables : Tables} {lengths : List ℕ} {s members len left : ℕ} (g : SumGiven tables lengths s members) (l : SumLoop tables lengths s members len left)
    {t : ℕ} (low : Lowest (member left) t) where
  -- the lowest member left is a state, and its length can be added
  pub sum_inside : t < states_of (contract_table tables)
  sum_inside = g.inside t (l.kept t (member-holds low))

  sum_turn : set_length (states_of (contract_table tables)) lengths s (member left)
      ≡ get_or lengths (s * states_of (contract_table tables) + t) 0 + set_length (states_of (contract_table tables)) lengths s (without_member t (member left))
  sum_turn = sum_lowest (states_of (contract_table tables)) (λ k. get_or lengths (s * states_of (contract_table tables) + k) 0) (member left) t sum_inside low

  pub sum_fits : (r : ℕ) → r ≡ get_or lengths (s * states_of (contract_table tables) + t) 0 → len + r ≤ 1 + set_length (states_of (contract_table tables)) lengths s (member members)
  sum_fits r e = omega (arith, l.total, sum_turn)

  -- it is added and is no longer left
  pub sum-next : (r : ℕ) {left' : ℕ} → r ≡ get_or lengths (s * states_of (contract_table tables) + t) 0 → member left' ≡ without_member t (member left)
      → SumLoop tables lengths s members (len + r) left'
  sum-next r {left'} e el =
      record {
        total = omega (arith, l.total, sum_turn, ap (set_length (states_of (contract_table tables)) lengths s) el);
        kept = λ u h. l.kept u (without_in t left u el h);
      }

-- when none is left, all are added
pub sum-end : {tables : Tables} {lengths : List ℕ} {s members len left : ℕ} → SumLoop tables lengths s members len left → left ≡ 0
    → len ≡ 1 + set_length (states_of (contract_table tables)) lengths s (member members)
sum-end {tables} {lengths} {s} {left = left} l z =
    let n = states_of (contract_table tables) in
    let none : set_length n lengths s (member left) ≡ 0 =
    ap (λ (k : ℕ). set_length n lengths s (member k)) z ∙ sum_ext n _ (λ k. 0) (λ k _. ap (λ b. when b (get_or lengths (s * n + k) 0)) (member-none k)) ∙ sum-zero n in
    omega (arith, l.total)
