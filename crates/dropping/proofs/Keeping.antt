-- What is left of a row, transition by transition: the states that answer each one passed.
-- Assumes nothing.
use Rattle.form.specs.declared.tables.Tables.{Tables}
use mathlib.Core.Path.{◌≡◌, refl, sym, ap, ap₂, ◌∙◌, subst, fun_ext}
use mathlib.Core.Bool.{Bool, true, false, not, ◌&&◌, and-true, and-false, true≢false}
use mathlib.Core.List.{List}
use Prim.Native.Nat.{ℕ, ◌+◌, ◌≤◌, ◌<◌}
use native.Mathlib.Omega.{arith}
use lib.Dec.{T}
use Rattle.simulation.specs.Sum.{any_of}
use Rattle.simulation.specs.Table.{Transition, Table, states_of, steps}
use Rattle.simulation.specs.Round.{fits_step}
use Rattle.simulation.proofs.Finite.Tests.{is_true, true_T, is_false, same_test, both_true}
use Rattle.word.specs.Mask.{Test, member, both, except}
use Rattle.relation.specs.Rows.{row_of}
use Rattle.relation.specs.Related.{holds}
use Rattle.form.specs.Form.{Loaded, start_of}
use Rattle.form.specs.Tables.{first_form, first_table, contract_table}
use Rattle.decision.specs.Fitting.{relation_of}
use Rattle.fit.specs.Held.{matched, answered}
use Rattle.fit.proofs.Steps.{upto_next, one_fails, all_pass}
use Rattle.dropping.specs.Falling.{falls, Doubtless, StatesOnly}
use Rattle.dropping.proofs.Dropping.{with_both, related-row, falls-is}

-- of the set near those are left that pass each test from a to n
pub record Surviving (P : ℕ → Test) (near a n left : ℕ) : Type 0 where
  pub within : (t : ℕ) → member left t ≡ true → member near t ≡ true
  pub passed : (t : ℕ) → member left t ≡ true → (k : ℕ) → a ≤ k → k < n → P k t ≡ true
  pub stays : (t : ℕ) → member near t ≡ true → ((k : ℕ) → a ≤ k → k < n → P k t ≡ true) → member left t ≡ true

-- those that answer each transition of s up to n
abbrev pub Answering : (tables : Tables) (rows : List ℕ) (s near n left : ℕ) → Type 0
Answering tables rows s near n left = Surviving (answered tables rows) near (start_of (first_form tables) s) n left

pub kept-start : (P : ℕ → Test) (near a : ℕ) → Surviving P near a a near
kept-start P near a = record { within = λ t m. m; passed = λ t m k l u. absurd (omega arith); stays = λ t m h. m }

-- those that fail one test more are gone
pub kept_next : {P : ℕ → Test} {near a n left left' : ℕ} (fallen : ℕ) → a ≤ n → ((t : ℕ) → member fallen t ≡ (member left t && not (P n t)))
    → member left' ≡ except (member left) (member fallen) → Surviving P near a n left → Surviving P near a (n + 1) left'
kept_next {P} {near} {a} {n} {left} {left'} fallen le f e h =
    record {
      within = λ t m. h.within t (split t m).0;
      passed = λ t m. let b = split t m in upto_next (λ (k : ℕ). P k t) true a n (h.passed t b.0) refl b.1;
      stays = λ t m g. at t ∙ ap₂ ◌&&◌ (h.stays t m (λ k l u. g k l (omega arith))) (g n le (omega arith));
    }
  where
    spared : (a b : Bool) → (a && not (a && not b)) ≡ (a && b)
    spared true true = refl
    spared true false = refl
    spared false b = refl

    at : (t : ℕ) → member left' t ≡ (member left t && P n t)
    at t = ap (λ (X : Test). X t) e ∙ ap (λ (b : Bool). member left t && not b) (f t) ∙ spared (member left t) (P n t)

    split : (t : ℕ) → member left' t ≡ true → (member left t ≡ true) × (P n t ≡ true)
    split t m = both_true (member left t) (P n t) (sym (at t) ∙ m)

-- a part of a row has states of the second table only
pub kept-columns : (N : Table) {P : ℕ → Test} {near a n left : ℕ} (row doubt : ℕ) → StatesOnly N row → member near ≡ both (member row) (member doubt)
    → Surviving P near a n left → StatesOnly N left
kept-columns N row doubt columns e h t m =
    columns t (true_T (both_true (member row t) (member doubt t) (sym (ap (λ (X : Test). X t) e) ∙ h.within t (is_true _ m))).0)

-- the states that match the state s
abbrev matching : (tables : Tables) (rows : List ℕ) (s : ℕ) → Test
matching tables rows s = matched (first_table tables) (contract_table tables) (relation_of tables rows) s

-- all transitions of the state s are passed
module _ (tables : Tables) (rows : List ℕ) (loaded : Loaded (first_form tables)) (s : ℕ) (a : s < states_of (first_table tables)) where
  left_at : {near left : ℕ} → Answering tables rows s near (start_of (first_form tables) (s + 1)) left → (t : ℕ) → member left t ≡ (member near t && matching tables rows s t)
  left_at {near} {left} h t = go (matching tables rows s t) refl
    where
      answer : Transition → Bool
      answer m = any_of (fits_step (relation_of tables rows) m) (steps (contract_table tables) t)

      pass : matching tables rows s t ≡ true → (k : ℕ) → start_of (first_form tables) s ≤ k → k < start_of (first_form tables) (s + 1) → (b : Bool)
          → answered tables rows k t ≡ b → answered tables rows k t ≡ true
      pass e k l u true w = w
      pass e k l u false w = absurd (true≢false (sym e ∙ sym (one_fails (first_form tables) loaded s a answer k l u refl w)))

      go : (b : Bool) → matching tables rows s t ≡ b → member left t ≡ (member near t && b)
      go true e =
          same_test (member left t) (member near t) (λ m. true_T (h.within t (is_true (member left t) m)))
          (λ m. true_T (h.stays t (is_true (member near t) m) (λ k l u. pass e k l u (answered tables rows k t) refl)))
          ∙ sym (and-true (member near t))
      go false e =
          is_false (member left t) (λ m. true≢false (all_pass (first_form tables) loaded s a answer (h.passed t (is_true (member left t) m)) ∙ e))
          ∙ sym (and-false (member near t))

  -- those that are gone fall: outside doubt no pair does
  pub kept-end : {near left : ℕ} (doubt fallen : ℕ) → StatesOnly (contract_table tables) (row_of rows s)
      → Doubtless (first_table tables) (contract_table tables) (relation_of tables rows) s (member doubt)
      → member near ≡ both (holds rows s) (member doubt) → Answering tables rows s near (start_of (first_form tables) (s + 1)) left
      → member fallen ≡ except (member near) (member left) → member fallen ≡ falls (first_table tables) (contract_table tables) (relation_of tables rows) s
  kept-end {near} {left} doubt fallen columns sure e h d = fun_ext (λ t.
      ap (λ (X : Test). X t) d
      ∙ ap (λ (b : Bool). member near t && not b) (left_at h t)
      ∙ with_both (member near t) (matching tables rows s t)
      ∙ ap (λ (X : Test). X t && not (matching tables rows s t)) e
      ∙ doubted (holds rows s t) (member doubt t) (matching tables rows s t) (λ o m. sure t o (subst T (sym (related-row (first_table tables) (contract_table tables) rows s a columns t)) m))
      ∙ sym (falls-is (first_table tables) (contract_table tables) rows s a columns t))
    where
      doubted : (b c m : Bool) → (c ≡ false → T b → T m) → ((b && c) && not m) ≡ (b && not m)
      doubted true true m k = refl
      doubted true false true k = refl
      doubted true false false k = absurd (k refl tt)
      doubted false c m k = refl
