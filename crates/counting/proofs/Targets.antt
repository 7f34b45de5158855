-- The targets of the transition chosen for a pair, and the pairs below it.
-- Assumes nothing.
use Rattle.form.specs.declared.tables.Tables.{Tables}
use mathlib.Core.Path.{◌≡◌, sym, ap, ap₂, ◌∙◌, subst}
use mathlib.Core.List.{List}
use Prim.Native.Nat.{ℕ, ◌+◌, ◌*◌, ◌≤◌, ◌<◌}
use native.Mathlib.Nat.{mul-le-mul_right, suc-mul}
use native.Mathlib.Omega.{arith}
use lib.Dec.{T}
use lib.ListN.{length, get_or}
use Rattle.simulation.specs.Limits.{most_states}
use Rattle.simulation.specs.Sum.{sum, when}
use Rattle.simulation.specs.Table.{Transition, Table, targets, target_at, states_of}
use Rattle.simulation.specs.Round.{pairs, rank}
use Rattle.simulation.specs.Tree.{chosen, set_of}
use Rattle.simulation.specs.Length.{head_length, one_length, pair_length}
use Rattle.simulation.proofs.Finite.Sums.{sum_ext}
use Rattle.simulation.proofs.Trees.Length.{pair_length-step}
use Rattle.form.specs.Form.{transitions_of}
use Rattle.form.specs.Tables.{first_form, first_table, contract_table, first_step, BothLoaded}
use Rattle.form.proofs.FormLaws.{sound}
use Rattle.word.specs.Mask.{Test, member}
use Rattle.relation.specs.Rows.{row_of}
use Rattle.choice.specs.Choice.{Lost, Choice, SetsChosen}
use Rattle.relate.proofs.Places.{targets-count, target-state, target_small, few_places}
use Rattle.choice.proofs.Choices.{choice-number, choice_width, below-lost}

-- a pair that is not kept, and the number of the transition chosen for it
pub record ChoiceGiven (tables : Tables) (s t j : ℕ) : Type 0 where
  pub loaded : BothLoaded tables
  pub lost : Lost tables s t
  pub choice : Choice tables s t j

module _ {tables : Tables} {s t j : ℕ} (g : ChoiceGiven tables s t j) where
  abbrev M : Table
  M = first_table tables

  abbrev N : Table
  N = contract_table tables

  -- the first table has a transition of that number
  pub step-number : j < transitions_of (first_form tables)
  step-number = choice-number tables g.loaded.first s t j g.lost.left g.choice

  width : length (first_step tables j).entries ≡ length (chosen M N s t).entries
  width = choice_width tables g.loaded.first s t j g.lost.left g.choice

  module _ {ts : List ℕ} (et : ts ≡ targets (first_step tables j)) where
    -- the targets that are read are those of the chosen transition, and as many
    pub targets-are : (i : ℕ) → get_or ts i 0 ≡ target_at (chosen M N s t) i
    targets-are i = ap (λ (l : List ℕ). get_or l i 0) et ∙ ap (λ (m : Transition). target_at m i) g.choice.is

    pub count-is : length ts ≡ length (chosen M N s t).entries
    count-is = targets-count (first_form tables) j g.loaded.first step-number ts et ∙ width

    -- they are few
    pub few-targets : length ts ≤ most_states
    few-targets = omega (arith, few_places (first_form tables) j g.loaded.first step-number, targets-count (first_form tables) j g.loaded.first step-number ts et)

    -- each is a state of the first table, is low and has a whole row of pairs
    pub state-at : (i : ℕ) → i < length ts → get_or ts i 0 < states_of M
    state-at = target-state (first_form tables) j g.loaded.first step-number ts et

    pub state-low : (i : ℕ) → i < length ts → get_or ts i 0 < most_states
    state-low = target_small (first_form tables) j g.loaded.first step-number ts et

    pub state-row : (i : ℕ) → i < length ts → get_or ts i 0 * states_of N + states_of N ≤ pairs M N
    state-row i b = omega (arith, mul-le-mul_right (states_of N) (state-at i b), suc-mul (get_or ts i 0) (states_of N))

    module _ {sets : List ℕ} (z : SetsChosen tables s t sets) where
      -- the mask at a target's place holds its set
      pub set_at : (i : ℕ) → i < length ts → member (row_of sets i) ≡ set_of M N s t i
      set_at i b = z.set i (omega (arith, count-is))

      -- a pair of a target and a member of its set is not kept either, and its rank is lower
      pub child-lost : (i v : ℕ) → i < length ts → T (member (row_of sets i) v) → Lost tables (get_or ts i 0) v × (rank M N (get_or ts i 0) v < rank M N s t)
      child-lost i v b h =
          subst (λ (u : ℕ). Lost tables u v × (rank M N u v < rank M N s t)) (sym (targets-are i))
          (below-lost tables g.loaded s t g.lost i v (omega (arith, count-is)) (subst (λ (X : Test). T (X v)) (set_at i b) h))

      -- the pair's length: a code and a count, and for each target a state, a weight, a count and the lengths of its set
      pub length-parts : pair_length M N s t ≡ head_length + sum (length ts) (λ i. 4 + sum (states_of N) (λ v. when (member (row_of sets i) v) (pair_length M N (get_or ts i 0) v)))
      unfolding one_length
      length-parts =
          pair_length-step M N (sound (first_form tables) g.loaded.first) s t g.lost.left g.lost.right g.lost.fell
          ∙ ap (λ (n : ℕ). head_length + sum n (λ i. 4 + sum (states_of N) (λ v. when (set_of M N s t i v) (pair_length M N (target_at (chosen M N s t) i) v)))) (sym count-is)
          ∙ ap (◌+◌ head_length) (sum_ext (length ts) _ _ (λ i b. ap (◌+◌ 4) (sum_ext (states_of N) _ _ (λ v _.
          ap₂ (λ (X : Test) (u : ℕ). when (X v) (pair_length M N u v)) (sym (set_at i b)) (sym (targets-are i))))))
