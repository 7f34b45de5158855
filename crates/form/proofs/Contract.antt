-- The listed codes of a form, and the contract: the second table completed for the codes of the first.
-- Assumes nothing.
use mathlib.Core.Path.{◌≡◌, sym, ◌∙◌}
use mathlib.Core.Bool.{Bool, true, false, not, ◌&&◌}
use mathlib.Core.List.{List}
use Prim.Native.Nat.{ℕ, ◌+◌, ◌-◌, ◌≤◌, ◌<◌}
use Rattle.std.specs.Prelude.{Result, Ok, Err, MatchResult, is_ok}
use native.Mathlib.Decide.{dec_lt}
use native.Mathlib.Omega.{arith}
use lib.Dec.{T, eqb}
use lib.ListN.{length, get_or}
use Rattle.simulation.specs.Sum.{any_of}
use Rattle.simulation.specs.Limits.{most_codes, most_states, most_pairs}
use Rattle.simulation.specs.Table.{Transition, weights, target_at, states_of, steps}
use Rattle.simulation.specs.Round.{Relation, related, fits_step, pairs}
use Rattle.simulation.specs.Tree.{apart}
use Rattle.simulation.specs.Demands.{Sound}
use Rattle.simulation.specs.Complete.{lists, self_loop, all_related}
use Rattle.simulation.proofs.Finite.Tests.{is_true, is_false}
use Rattle.simulation.proofs.Finite.Lists.{below_at, below_length}
use Rattle.simulation.proofs.Complete.Codes.{lists_at, lists_by, lists-same}
use Rattle.simulation.proofs.Complete.Tables.{OwnCodes, AddedStep, complete_sound, added-step, search_added}
use Rattle.simulation.proofs.Complete.Loops.{matched-added, apart-added}
use Rattle.form.specs.Form.{at, actions_from, listed_from, transitions_of, transition_at, table_of, Loaded}
use Rattle.form.specs.declared.tables.Tables.{Tables}
use Rattle.form.specs.Tables.{first_form, second_form, first_table, second_table, contract_table, first_step, BothLoaded}
use Rattle.form.proofs.FormLists.{ascends}
use Rattle.form.proofs.Completed as completed
use Rattle.form.proofs.Sound.{shaped_codes}
use Rattle.form.proofs.FormLaws.{by_state, sound, positive-at, limits, pairs-bound}

-- what a search in ascending codes finds
pub lists-searched : (codes : List ℕ) (c : ℕ) (r : Result ℕ ℕ)
    → MatchResult r (λ i. (i < length codes) × (get_or codes i 0 ≡ c))
    (λ i. (i ≤ length codes) × ((k : ℕ) → k < i → get_or codes k 0 < c) × ((k : ℕ) → i ≤ k → k < length codes → c < get_or codes k 0))
    → is_ok r ≡ lists codes c
lists-searched codes c (Ok i) h = sym (is_true (lists codes c) (lists-same codes (sym h.1) (lists_by codes i h.0)))
lists-searched codes c (Err i) h = sym (is_false (lists codes c) (λ t.
    let r = lists_at codes c t in
    elim (dec_lt r.0 i) [ yes lt ↦ omega (arith, h.1 r.0 lt, r.2) | no ge ↦ omega (arith, h.2 r.0 (omega (arith, ge)) r.1, r.2) ]))

module _ (f : List ℕ) where
  pub codes-count : length (table_of f).codes ≡ at f actions_from
  unfolding table_of
  codes-count = below_length (λ i. at f (listed_from + i)) 0 (at f actions_from)

  pub code_at : (i : ℕ) → i < at f actions_from → get_or (table_of f).codes i 0 ≡ at f (listed_from + i)
  unfolding table_of
  code_at i b = below_at 0 (λ i. at f (listed_from + i)) (at f actions_from) i b

  -- a code that is found, and one that is at no place
  pub lists-found : {i c : ℕ} → i < at f actions_from → at f (listed_from + i) ≡ c → lists (table_of f).codes c ≡ true
  lists-found {i} {c} b e =
      is_true (lists (table_of f).codes c) (lists-same (table_of f).codes (sym (code_at i b ∙ e)) (lists_by (table_of f).codes i (omega (arith, codes-count))))

  pub lists-missing : {c : ℕ} → ((i : ℕ) → i < at f actions_from → at f (listed_from + i) ≡ c → ⊥) → lists (table_of f).codes c ≡ false
  lists-missing {c} none =
      is_false (lists (table_of f).codes c)
      (λ t.
      let r = lists_at (table_of f).codes c t in
      let b : r.0 < at f actions_from = omega (arith, codes-count, r.1) in
      none r.0 b (sym (code_at r.0 b) ∙ sym r.2))

  module _ (l : Loaded f) where
    pub codes-few : at f actions_from ≤ most_codes
    codes-few = omega (arith, l.valid.codes.few, codes-count)

    pub listed_ascend : (i j : ℕ) → i ≤ j → j < length (table_of f).codes → get_or (table_of f).codes i 0 ≤ get_or (table_of f).codes j 0
    listed_ascend i j a b =
        let codes = (table_of f).codes in
        ascends (λ i. get_or codes i 0) (length codes - 1) (λ i c. omega (arith, l.valid.codes.ascending i (omega arith))) i j a (omega arith)

    -- the same by their places in the form
    pub codes_ascend : (i j : ℕ) → i ≤ j → j < at f actions_from → at f (listed_from + i) ≤ at f (listed_from + j)
    codes_ascend i j a b = omega (arith, listed_ascend i j a (omega (arith, codes-count)), code_at i (omega arith), code_at j b)

    pub own-codes : OwnCodes (table_of f)
    own-codes = shaped_codes (table_of f) l.valid.shape

    -- the code of a transition is listed
    pub own_code : (j : ℕ) → j < transitions_of f → T (lists (table_of f).codes (transition_at f j).code)
    own_code j b = by_state f l j b (λ m. T (lists (table_of f).codes m.code)) own-codes.listed

module _ (tables : Tables) where
  pub contract-states : states_of (contract_table tables) ≡ states_of (second_table tables)
  contract-states = completed.contract-states (first_table tables) (second_table tables)

  module _ (loaded : BothLoaded tables) where
    pub contract_sound : Sound (contract_table tables)
    contract_sound = complete_sound (first_table tables).codes (second_table tables) (sound (second_form tables) loaded.second)

    pub contract-few : states_of (contract_table tables) ≤ most_states
    contract-few = omega (arith, contract-states, (limits (second_form tables) loaded.second).states-few)

    pub contract-pairs : pairs (first_table tables) (contract_table tables) ≤ most_pairs
    contract-pairs = rw contract-states (pairs-bound (first_form tables) (second_form tables) loaded.first loaded.second)

    -- a transition of the first table whose code the second does not list: the one transition of each state that answers it
    module _ (j t : ℕ) (own : j < transitions_of (first_form tables)) (state : t < states_of (second_table tables))
        (missing : ¬ T (lists (second_table tables).codes (first_step tables j).code)) where
      abbrev from_first : T (lists (first_table tables).codes (first_step tables j).code)
      from_first = own_code (first_form tables) loaded.first j own

      abbrev listing : OwnCodes (second_table tables)
      listing = own-codes (second_form tables) loaded.second

      pub loop_of : AddedStep (first_table tables).codes (second_table tables) t (first_step tables j).code
      loop_of = added-step (first_table tables).codes (second_table tables) t (first_step tables j).code listing state from_first missing

      -- what only like-coded transitions pass is asked of it alone
      pub asked_added : (p : Transition → Bool) → ((n : Transition) → T (p n) → n.code ≡ (first_step tables j).code)
          → any_of p (steps (contract_table tables) t) ≡ p (self_loop t (first_step tables j).code)
      asked_added p like = search_added (first_table tables).codes (second_table tables) t (first_step tables j).code p like listing state from_first missing

      pub answered-added : (R : Relation) → any_of (fits_step R (first_step tables j)) (steps (contract_table tables) t) ≡ all_related R (first_step tables j) t
      answered-added R =
          matched-added R (first_step tables j) (first_table tables).codes (second_table tables) t listing state from_first missing (positive-at (first_form tables) loaded.first j own)

      pub apart_by-loop : (R : Relation) (i u : ℕ) → i < length (weights (first_step tables j))
          → apart R (first_step tables j) (steps (contract_table tables) t) i u ≡ (not (related R (target_at (first_step tables j) i) t) && eqb t u)
      apart_by-loop R i u b =
          apart-added R (first_step tables j) (first_table tables).codes (second_table tables) t listing state from_first missing (positive-at (first_form tables) loaded.first j own) i u b

  -- a code that the second table lists is answered by its own transitions
  module _ (m : Transition) (t : ℕ) (listed : T (lists (second_table tables).codes m.code)) where
    pub asked_listed : (p : Transition → Bool) → ((n : Transition) → T (p n) → n.code ≡ m.code)
        → any_of p (steps (contract_table tables) t) ≡ any_of p (steps (second_table tables) t)
    asked_listed = completed.asked_listed (first_table tables) (second_table tables) m t listed

    pub answered-listed : (R : Relation) → any_of (fits_step R m) (steps (contract_table tables) t) ≡ any_of (fits_step R m) (steps (second_table tables) t)
    answered-listed = completed.answered-listed (first_table tables) (second_table tables) m t listed

    pub apart_by-listed : (R : Relation) (i u : ℕ) → apart R m (steps (contract_table tables) t) i u ≡ apart R m (steps (second_table tables) t) i u
    apart_by-listed = completed.apart_by-listed (first_table tables) (second_table tables) m t listed
