-- The states of a set that do not answer a transition, by whether the second table lists its code.
-- Assumes nothing.
use Rattle.form.specs.declared.tables.Tables.{Tables}
use mathlib.Core.Path.{◌≡◌, refl, sym, ap, ◌∙◌, subst}
use mathlib.Core.Bool.{Bool, true, false, not, ◌&&◌}
use mathlib.Core.List.{List}
use Prim.Native.Nat.{ℕ, ◌<◌}
use native.Mathlib.Omega.{arith}
use lib.Dec.{T, T_not}
use lib.ListN.{length, get_or}
use Rattle.simulation.specs.Limits.{most_states}
use Rattle.simulation.specs.Sum.{all_of}
use Rattle.simulation.specs.Table.{targets, states_of}
use Rattle.simulation.specs.Round.{related}
use Rattle.simulation.specs.Complete.{lists, all_related}
use Rattle.simulation.proofs.Finite.Tests.{true_T, false_T, same_test}
use Rattle.simulation.proofs.Finite.Lists.{all_of-at, all_of_by}
use Rattle.simulation.proofs.Simulation.Relation.{relation-at}
use Rattle.word.specs.Mask.{Test, member, except}
use Rattle.relation.specs.Rows.{height}
use Rattle.relation.specs.Related.{holds}
use Rattle.form.specs.Form.{transitions_of}
use Rattle.form.specs.Tables.{first_form, first_table, second_table, contract_table, first_step, BothLoaded}
use Rattle.form.proofs.FormLaws.{distribution-at, targets-length}
use Rattle.form.proofs.Contract.{contract-states, contract-few, answered-listed, answered-added}
use Rattle.gather.specs.Places.{Places}
use Rattle.decision.specs.Fitting.{relation_of}
use Rattle.decision.proofs.Fitting.{places_of}
use Rattle.fit.specs.Held.{fits_listed, answered}
use Rattle.fit.specs.Known.{Lent}
use Rattle.dropping.specs.Falling.{StatesOnly}

-- two tests that agree on the elements of a list
pub all_alike : {A : Type 0} (F G : A → Bool) (d : A) (l : List A) → ((k : ℕ) → k < length l → F (get_or l k d) ≡ G (get_or l k d)) → all_of F l ≡ all_of G l
all_alike F G d l same =
    same_test (all_of F l) (all_of G l) (λ h. all_of_by G d l (λ k a. subst T (same k a) (all_of-at F d l h k a)))
    (λ h. all_of_by F d l (λ k a. subst T (sym (same k a)) (all_of-at G d l h k a)))

-- and on a set
on-set : (b : Bool) {x y : Bool} → (T b → x ≡ y) → (b && not x) ≡ (b && not y)
on-set true e = ap not (e tt)
on-set false e = refl

-- the second table lists the code of the transition j
abbrev pub code-listed : (tables : Tables) (j : ℕ) → Bool
code-listed tables j = lists (second_table tables).codes (first_step tables j).code

-- its targets have rows
pub target_places : {tables : Tables} {sets rows amounts ts : List ℕ} (j : ℕ) → Lent tables sets rows amounts → j < transitions_of (first_form tables) → ts ≡ targets (first_step tables j) → Places (height rows) ts
target_places {tables} {rows = rows} j h own e = subst (Places (height rows)) (sym e) (places_of (height rows) (first_form tables) h.loaded.first j own h.rows_room)

module _ (tables : Tables) (rows : List ℕ) (j near : ℕ) where
  -- those of near that do not answer it
  abbrev Unanswering : Test → Type 0
  Unanswering fallen = (t : ℕ) → fallen t ≡ (member near t && not (answered tables rows j t))

  -- a listed code: the transitions that are listed decide
  pub gone-listed : {fallen : Test} → code-listed tables j ≡ true → ((t : ℕ) → fallen t ≡ (member near t && not (fits_listed tables rows j t))) → Unanswering fallen
  gone-listed e h t = h t ∙ ap (λ (b : Bool). member near t && not b) (sym (answered-listed tables (first_step tables j) t (true_T e) (relation_of tables rows)))

  module _ (loaded : BothLoaded tables) (own : j < transitions_of (first_form tables)) where
    -- all its targets are related to the state t
    all_held : (t : ℕ) → t < states_of (contract_table tables) → all_related (relation_of tables rows) (first_step tables j) t ≡ all_of (λ s. holds rows s t) (targets (first_step tables j))
    unfolding all_related
    all_held t b =
        let m = first_step tables j in
        all_alike (λ s. related (relation_of tables rows) s t) (λ s. holds rows s t) 0 (targets m)
        (λ i a.
        relation-at (states_of (first_table tables)) (states_of (contract_table tables)) (holds rows)
        ((distribution-at (first_form tables) loaded.first j own).in_range i (omega (arith, targets-length m))) b)

    -- another: what all its targets are related to decides
    pub gone-added : {common fallen : Test} → code-listed tables j ≡ false → StatesOnly (contract_table tables) near
        → ((t : ℕ) → t < most_states → common t ≡ all_of (λ s. holds rows s t) (targets (first_step tables j))) → fallen ≡ except (member near) common → Unanswering fallen
    gone-added {common} e columns h d t = ap (λ (X : Test). X t) d ∙ on-set (member near t) at
      where
        at : T (member near t) → common t ≡ answered tables rows j t
        at m =
            let b = columns t m in
            h t (omega (arith, contract-few tables loaded)) ∙ sym (all_held t b)
            ∙ sym (answered-added tables loaded j t own (omega (arith, contract-states tables)) (T_not (code-listed tables j) (false_T e)) (relation_of tables rows))
