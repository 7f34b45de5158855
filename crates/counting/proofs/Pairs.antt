-- The number of a pair, the place of a pair that is not kept, and a set without a member.
-- Assumes nothing.
use Rattle.form.specs.declared.tables.Tables.{Tables}
use mathlib.Core.Path.{◌≡◌, sym, ap, ◌∙◌, subst}
use mathlib.Core.Bool.{not, ◌&&◌, and-true}
use mathlib.Core.List.{List}
use mathlib.Core.Logic.{◌≢◌}
use Prim.Native.Nat.{ℕ, suc, ◌+◌, ◌*◌, ◌/◌, ◌%◌, ◌≤◌, ◌<◌}
use native.Mathlib.Nat.{suc-mul, mul-le-mul_right, div-add-mod'}
use native.Mathlib.Omega.{arith}
use lib.Arith.{digits_div, digits_mod}
use lib.Dec.{T}
use lib.ListN.{length}
use borrow.Author.Tests.{ne_eqb}
use Rattle.simulation.specs.Limits.{most_states}
use Rattle.simulation.specs.Table.{states_of}
use Rattle.simulation.specs.Round.{pairs}
use Rattle.simulation.proofs.Finite.Tests.{and_left}
use Rattle.form.specs.Tables.{first_form, first_table, contract_table, BothLoaded}
use Rattle.form.proofs.FormLaws.{limits}
use Rattle.form.proofs.Contract.{contract-few}
use Rattle.word.specs.Mask.{Test, member, without_member, Lowest}
use Rattle.relate.specs.Ranked.{RanksRight}
use Rattle.choice.specs.Choice.{Lost}
use Rattle.choice.proofs.Choices.{pair_place}
use Rattle.counting.specs.Pair.{number, row, column}

-- two pairs with the same number are the same
pub same_pair : (s t u v n : ℕ) → t < n → v < n → s * n + t ≡ u * n + v → (s ≡ u) × (t ≡ v)
same_pair s t u v n a b e = (
  sym (digits_div s a) ∙ ap (λ (k : ℕ). k / n) e ∙ digits_div u b,
  sym (digits_mod s a) ∙ ap (λ (k : ℕ). k % n) e ∙ digits_mod u b,
)

-- a pair's number is below the number of pairs
pub place-below : (s t m n : ℕ) → s < m → t < n → s * n + t < m * n
place-below s t m n a b = let row : suc s * n ≤ m * n = mul-le-mul_right n a in omega (arith, suc-mul s n)

module _ (tables : Tables) (P : ℕ → ℕ → Type 0) (s t : ℕ) where
  -- what holds at a pair holds at its number's row and column
  pub at-number : t < states_of (contract_table tables) → P s t → P (row tables (number tables s t)) (column tables (number tables s t))
  at-number b h = subst (λ (u : ℕ). P u (column tables (number tables s t))) (sym (digits_div s b)) (subst (P s) (sym (digits_mod s b)) h)

  -- and what holds at the row and the column of a pair's number holds at the pair
  pub from-number : (p : ℕ) → t < states_of (contract_table tables) → p ≡ number tables s t → P (row tables p) (column tables p) → P s t
  from-number p b e h = subst (λ (u : ℕ). P u t) (ap (row tables) e ∙ digits_div s b) (subst (P (row tables p)) (ap (column tables) e ∙ digits_mod s b) h)

-- ---- a pair that is not kept

module _ {tables : Tables} {s t : ℕ} (p : Lost tables s t) where
  -- its number is below the number of pairs
  pub lost-place : number tables s t < pairs (first_table tables) (contract_table tables)
  lost-place = place-below s t (states_of (first_table tables)) (states_of (contract_table tables)) p.left p.right

  -- its states are below the largest count of states
  pub lost-low : BothLoaded tables → (s < most_states) × (t < most_states)
  lost-low b = (omega (arith, p.left, (limits (first_form tables) b.first).states-few), omega (arith, p.right, contract-few tables b))

  -- what asking for its number, and for its rank, rests on
  pub number_asked : BothLoaded tables → BothLoaded tables × (s < most_states) × (t < most_states)
  number_asked b = let low = lost-low b in (b, low.0, low.1)

  pub rank_asked : {ranks : List ℕ} → RanksRight tables ranks → BothLoaded tables × (s < most_states) × (t < most_states) × (number tables s t < length ranks)
  rank_asked g = let low = lost-low g.loaded in (g.loaded, low.0, low.1, pair_place g p.left p.right)

-- the same for a pair that is given by its number
pub number-place : (tables : Tables) (p : ℕ) → Lost tables (row tables p) (column tables p) → p < pairs (first_table tables) (contract_table tables)
number-place tables p l = subst (λ (k : ℕ). k < pairs (first_table tables) (contract_table tables)) (div-add-mod' p (states_of (contract_table tables))) (lost-place l)

-- ---- sets

-- a set's lowest member is a member
pub member-holds : {X : Test} {t : ℕ} → Lowest X t → T (X t)
member-holds l = subst T (sym l.here) tt

-- a member of a set without t is a member, and so is each member but t of the set without t
pub without_in : {Z : Test} (t X u : ℕ) → Z ≡ without_member t (member X) → T (Z u) → T (member X u)
without_in t X u e h = and_left (member X u) _ (subst (λ (Z : Test). T (Z u)) e h)

pub without_other : {Z : Test} {t : ℕ} (X : ℕ) (u : ℕ) → Z ≡ without_member t (member X) → u ≢ t → T (member X u) → T (Z u)
without_other {t = t} X u e d h = subst T (sym (ap (λ (X : Test). X u) e ∙ ap (λ b. member X u && not b) (ne_eqb u t d) ∙ and-true (member X u))) h
