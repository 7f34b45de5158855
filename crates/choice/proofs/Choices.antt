-- What holds of the transition chosen for a pair, by its number.
-- Assumes nothing.
use Rattle.form.specs.declared.tables.Tables.{Tables}
use mathlib.Core.Path.{◌≡◌, ap, ap₂, ◌∙◌, subst}
use mathlib.Core.Bool.{Bool, not}
use mathlib.Core.List.{List}
use Prim.Native.Nat.{ℕ, suc, ◌+◌, ◌-◌, ◌*◌, ◌≤◌, ◌<◌, pred}
use native.Mathlib.Nat.{suc-mul, mul-le-mul_right}
use native.Mathlib.Omega.{arith}
use lib.Dec.{T}
use lib.ListN.{length, get_or}
use Rattle.simulation.specs.Table.{Transition, Table, weights, target_at, states_of, steps}
use Rattle.simulation.specs.Sum.{when}
use Rattle.simulation.specs.Round.{related, round, rank}
use Rattle.simulation.specs.Tree.{before, chosen, set_of}
use Rattle.simulation.specs.Demands.{Sound}
use Rattle.simulation.proofs.Finite.Sums.{when_split}
use Rattle.simulation.proofs.Trees.Sets.{apart_some}
use Rattle.simulation.proofs.Trees.Choice.{chosen-target, below-rank}
use Rattle.form.specs.Form.{Loaded, transitions_of}
use Rattle.form.specs.Tables.{first_form, first_table, contract_table, first_step, BothLoaded}
use Rattle.form.proofs.FormLaws.{start-bound, weights-length, sound}
use Rattle.form.proofs.Contract.{contract_sound}
use Rattle.relation.specs.Ranks.{lasts}
use Rattle.relate.specs.Ranked.{RanksRight}
use Rattle.relate.proofs.Laws.{lasts-round}
use Rattle.choice.specs.Choice.{Lost, Choice}

module _ (tables : Tables) (l : Loaded (first_form tables)) (s t j : ℕ) (in_range : s < states_of (first_table tables)) (w : Choice tables s t j) where
  pub choice-number : j < transitions_of (first_form tables)
  choice-number = omega (arith, w.high, start-bound (first_form tables) l (s + 1) (omega arith))

  pub choice_width : length (first_step tables j).entries ≡ length (chosen (first_table tables) (contract_table tables) s t).entries
  choice_width = ap (λ (m : Transition). length m.entries) w.is

-- where a pair's rank stands
module _ {tables : Tables} {ranks : List ℕ} (g : RanksRight tables ranks) {s t : ℕ} (a : s < states_of (first_table tables)) (b : t < states_of (contract_table tables)) where
  pub pair_place : s * states_of (contract_table tables) + t < length ranks
  pair_place =
      let row : suc s * states_of (contract_table tables) ≤ states_of (first_table tables) * states_of (contract_table tables) = mul-le-mul_right (states_of (contract_table tables)) a in
      omega (arith, row, suc-mul s (states_of (contract_table tables)), g.enough)

-- 1 if the round before round r does not relate two states, by their rank
module _ {tables : Tables} {ranks : List ℕ} (g : RanksRight tables ranks) (r u v : ℕ) (later : 0 < r) (a : u < states_of (first_table tables)) (b : v < states_of (contract_table tables)) where
  abbrev kept : Bool
  kept = related (round (first_table tables) (contract_table tables) (pred r)) u v

  pub pair_lost : {k w : ℕ} → k ≡ get_or ranks (u * states_of (contract_table tables) + v) 0 → w ≡ when (lasts r k) 1
      → 1 - w ≡ when (not (related (round (first_table tables) (contract_table tables) (pred r)) u v)) 1
  pair_lost {k} {w} h e =
      let q : r ≡ suc (pred r) = omega arith in
      let is : lasts r k ≡ kept = ap₂ lasts q (h ∙ g.ranked u v a b) ∙ lasts-round (first_table tables) (contract_table tables) u v a b (pred r) in
      let one : w ≡ when kept 1 = e ∙ ap (λ (x : Bool). when x 1) is in
      omega (arith, when_split kept 1)

-- a set holds states of the second table
pub set-in_range : (M N : Table) → Sound N → (s t i t' : ℕ) → T (set_of M N s t i t') → t' < states_of N
set-in_range M N sound s t i t' h =
    let r = apart_some (before M N s t) (chosen M N s t) (steps N t) i t' h in
    let p = r.2 in
    subst (λ (u : ℕ). u < states_of N) p.target (sound.target_bound t r.0 p.place r.1 p.bound)

-- a pair met below a pair is not kept either, and its rank is lower
pub below-lost : (tables : Tables) → BothLoaded tables → (s t : ℕ) → Lost tables s t → (i t' : ℕ)
    → i < length (chosen (first_table tables) (contract_table tables) s t).entries → T (set_of (first_table tables) (contract_table tables) s t i t')
    → Lost tables (target_at (chosen (first_table tables) (contract_table tables) s t) i) t'
    × (rank (first_table tables) (contract_table tables) (target_at (chosen (first_table tables) (contract_table tables) s t) i) t' < rank (first_table tables) (contract_table tables) s t)
below-lost tables l s t p i t' b h =
    let M = first_table tables in
    let N = contract_table tables in
    let own = sound (first_form tables) l.first in
    let c : i < length (weights (chosen M N s t)) = omega (arith, weights-length (chosen M N s t)) in
    let d = set-in_range M N (contract_sound tables l) s t i t' h in
    let q = below-rank M N own s t p.left p.right p.fell i t' c d h in
    (record { left = chosen-target M N own s t p.left p.right p.fell i c; right = d; fell = q.0 }, q.1)
