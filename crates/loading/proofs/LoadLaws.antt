-- A form that has the counts, the starts, the columns and the entries of accepted bytes holds their table without entries of weight 0, and is loaded.
-- Assumes nothing.
use Rattle.std.specs.Prelude.{Result, Ok}
use mathlib.Core.Path.{◌≡◌, refl, sym, ap, ap₂, ◌∙◌, subst}
use mathlib.Core.Logic.{inl, inr}
use mathlib.Core.List.{List, map}
use Prim.Native.Nat.{ℕ, ◌+◌, ◌-◌, ◌≤◌, ◌<◌}
use native.Mathlib.Decide.{dec_lt}
use native.Mathlib.Omega.{arith}
use lib.ListN.{length}
use Rattle.simulation.specs.Sum.{sum, below}
use Rattle.simulation.specs.Table.{Entry, Transition, steps, transition}
use Rattle.simulation.specs.Support.{support_step, supported}
use Rattle.simulation.proofs.Finite.Lists.{below_ext}
use Rattle.simulation.proofs.Finite.Sums.{sum_ext, sum_more, sum-none, sum_le}
use Rattle.simulation.proofs.Simulation.Steps.{step-state}
use Rattle.simulation.specs.Limits.{wide}
use Rattle.layout.specs.declared.refusals.Refusal.{Refusal}
use Rattle.layout.specs.Refusals.{number_of, PassesUnless}
use Rattle.layout.proofs.RefusalLaws.{number_positive}
use Rattle.form.specs.Valid.{Valid, AllPositive}
use Rattle.layout.specs.Bytes.{Octets, actions, code, states, count, transitions, size, state_start, entries, decoded_transition, table, refusal}
use Rattle.form.specs.Form.{form_size, states_from, actions_from, starts_from, entries_listed_from, codes_from, entry_starts_from, listed_from, at, count_of, start_of, transitions_of, entries_listed, entry_start, size_of, entry_at, transition_at, table_of, Loaded}
use Rattle.form.proofs.Lists.{map_below}
use Rattle.form.proofs.Support.{supported-valid, supported-positive}
use Rattle.loading.specs.Fill.{Counts, Columns, Between, support_of, support_start, SupportsUpTo, Loads, Reads}
use Rattle.layout.proofs.Bounds.{accepted_bounds}
use Rattle.layout.proofs.PlaceLaws.{state_count, step_count, transition-is, label_is, entry-count}
use Rattle.layout.proofs.ValidLaws.{valid}
use Rattle.loading.proofs.FillLaws.{between_trans, between_wider, between-beyond}
use Rattle.loading.proofs.SupportLaws.{support-size, support_start-few}

module _ (s : List ℕ) (octets : Octets s) (e : refusal wide s ≡ 0) where
  number_bound : (q : ℕ) → q < states wide s → state_start wide s q + count wide s q ≤ transitions wide s
  number_bound q l = omega (arith, sum_le q (states wide s) (count wide s) l, (accepted_bounds wide s e).of_transitions.counted)

  module _ (f : List ℕ) (h : Counts s f) (c : Columns s f) (u : SupportsUpTo s f (transitions wide s)) where
    -- where the entries of a transition begin, and how many there are
    start-same : (j : ℕ) → j ≤ transitions wide s → entry_start f j ≡ support_start s j
    start-same j l = go (dec_lt j (transitions wide s))
      where
        go : Dec (j < transitions wide s) → entry_start f j ≡ support_start s j
        go (yes m) = u.each.starts_are j m
        go (no m) = let q : j ≡ transitions wide s = omega arith in rw q u.last_is

    size_same : (j : ℕ) → j < transitions wide s → size_of f j ≡ length (support_of s j)
    size_same j l = omega (arith, start-same j (omega arith), start-same (j + 1) (omega arith), sum_more j (λ i. length (support_of s i)) refl)

    transition-same : (j : ℕ) → j < transitions wide s → transition_at f j ≡ support_step (decoded_transition wide s j)
    unfolding transition_at support_step
    transition-same j l =
        ap₂ (λ (a : ℕ) (es : List Entry). record { code = a; entries = es }) (c.codes_are j l ∙ sym (label_is wide s j))
        (ap₂ (λ (a n : ℕ). below a n (entry_at f)) (start-same j (omega arith)) (size_same j l) ∙ u.each.runs_are j l)

    table_same : table_of f ≡ supported (table wide s)
    unfolding table_of count_of supported table
    table_same =
        ap₂ (λ (cs : List ℕ) (ms : List (List Transition)). record { codes = cs; states = ms })
        (ap (λ (n : ℕ). below 0 n (λ i. at f (listed_from + i))) h.actions_are
        ∙ below_ext (λ i. at f (listed_from + i)) (code wide s) 0 (actions wide s) (λ i a b. c.listed_are i (omega arith)))
        (ap (λ (n : ℕ). below 0 n of_state) h.states_are ∙ below_ext of_state (λ q. map support_step (in_bytes q)) 0 (states wide s) (λ q a b. state-same q (omega arith))
        ∙ sym (map_below (map support_step) 0 (states wide s) in_bytes))
      where
        of_state : ℕ → List Transition
        of_state q = below (start_of f q) (start_of f (q + 1) - start_of f q) (transition_at f)

        in_bytes : ℕ → List Transition
        in_bytes q = below (state_start wide s q) (count wide s q) (decoded_transition wide s)

        state-same : (q : ℕ) → q < states wide s → of_state q ≡ map support_step (in_bytes q)
        state-same q l =
            let a = h.starts_are q (omega arith) in
            let more = sum_more q (count wide s) refl in
            let n : start_of f (q + 1) - start_of f q ≡ count wide s q = omega (arith, a, h.starts_are (q + 1) (omega arith)) in
            ap₂ (λ (a n : ℕ). below a n (transition_at f)) a n
            ∙ below_ext (transition_at f) (λ j. support_step (decoded_transition wide s j)) (state_start wide s q) (count wide s q) (λ j a b. transition-same j (omega (arith, number_bound q l)))
            ∙ sym (map_below support_step (state_start wide s q) (count wide s q) (decoded_transition wide s))

    -- how many entries a transition lists
    listed_same : (q k : ℕ) → k < length (steps (table wide s) q) → entries_listed f (start_of f q + k) ≡ length (transition (table wide s) q k).entries
    listed_same q k l =
        let at : q < states wide s = omega (arith, step-state (table wide s) q k l, state_count wide s) in
        let m : k < count wide s q = omega (arith, step_count wide s q at) in
        let j : state_start wide s q + k < transitions wide s = omega (arith, number_bound q at) in
        ap (λ (i : ℕ). entries_listed f (i + k)) (h.starts_are q (omega arith)) ∙ c.sizes_are (state_start wide s q + k) j
        ∙ sym (ap (λ (m : Transition). length m.entries) (transition-is wide s q k at m) ∙ entry-count wide s (state_start wide s q + k))

    loaded : form_size ≤ length f → Loaded f
    unfolding transitions_of count_of
    loaded room =
        let a = accepted_bounds wide s e in
        let all : transitions_of f ≡ transitions wide s = ap (start_of f) h.states_are ∙ h.starts_are (states wide s) (omega arith) ∙ sym a.of_transitions.counted in
        let listed : sum (transitions_of f) (entries_listed f) ≡ entries wide s =
        ap (λ (n : ℕ). sum n (entries_listed f)) all ∙ sum_ext (transitions wide s) (entries_listed f) (size wide s) c.sizes_are ∙ sym a.of_entries.counted in
        let last = ap (entry_start f) all ∙ u.last_is in
        record {
          room = room;
          from_zero = h.starts_are 0 (omega arith) ∙ sym (sum-none (count wide s));
          ordered = λ q l.
              let m : q < states wide s = omega (arith, h.states_are) in
              omega (arith, h.starts_are q (omega arith), h.starts_are (q + 1) (omega arith), sum_more q (count wide s) refl);
          few_transitions = omega (arith, a.of_transitions.few);
          entries_ordered = λ j l. omega (arith, start-same j (omega arith), start-same (j + 1) (omega arith), sum_more j (λ i. length (support_of s i)) refl);
          few_entries = omega (arith, last, support_start-few s (transitions wide s), a.of_entries.counted, a.of_entries.few);
          valid = subst (Valid wide) (sym table_same) (supported-valid wide (table wide s) (valid wide s octets e));
          positive = subst AllPositive (sym table_same) (supported-positive (table wide s));
          listed_enough = λ j l. omega (arith, size_same j (omega arith), c.sizes_are j (omega arith), support-size s j);
          few_listed = omega (arith, listed, a.of_entries.few);
        }

  -- what is written later leaves it alone
  counts-kept : {f f' : List ℕ} → Counts s f → Between entries_listed_from form_size f f' → Counts s f'
  unfolding start_of
  counts-kept h u =
      let a = accepted_bounds wide s e in
      record {
        states_are = u.kept states_from (inl (omega arith)) ∙ h.states_are;
        actions_are = u.kept actions_from (inl (omega arith)) ∙ h.actions_are;
        starts_are = λ q l. u.kept (starts_from + q) (inl (omega (arith, a.of_states.few))) ∙ h.starts_are q l;
      }

  columns-kept : {f f' : List ℕ} → Columns s f → Between entry_starts_from listed_from f f' → Columns s f'
  unfolding entries_listed
  columns-kept c u =
      let a = accepted_bounds wide s e in
      record {
        sizes_are = λ j l. u.kept (entries_listed_from + j) (inl (omega (arith, a.of_transitions.few))) ∙ c.sizes_are j l;
        codes_are = λ j l. u.kept (codes_from + j) (inl (omega (arith, a.of_transitions.few))) ∙ c.codes_are j l;
        listed_are = λ i l. u.kept (listed_from + i) (inr (omega arith)) ∙ c.listed_are i l;
      }

  -- the counts and starts, then the columns, then the entries
  pub loads : {f f₁ f₂ f₃ : List ℕ} → form_size ≤ length f
      → Counts s f₁ → Between 0 entries_listed_from f f₁
      → Columns s f₂ → Between entries_listed_from form_size f₁ f₂
      → SupportsUpTo s f₃ (transitions wide s) → Between entry_starts_from listed_from f₂ f₃
      → Loads s f f₃
  loads {f} {f₁} {f₂} {f₃} room h a c b u d =
      let later = between_trans b (between_wider entries_listed_from form_size d (omega arith) (omega arith)) in
      let h₃ = counts-kept h later in
      let c₃ = columns-kept c d in
      let all = between_trans (between_wider 0 form_size a (omega arith) (omega arith)) (between_wider 0 form_size later (omega arith) (omega arith)) in
      record {
        loaded = loaded f₃ h₃ c₃ u (omega (arith, all.long));
        same = table_same f₃ h₃ c₃ u;
        listed = listed_same f₃ h₃ c₃ u;
        long = all.long;
        beyond = between-beyond all;
      }

-- what reading the bytes tells of a form
pub read_refused : (s f : List ℕ) {r : Result (Unit {0}) Refusal} (e : Refusal) → refusal wide s ≡ number_of e → PassesUnless (refusal wide s) r → Reads s f r f
read_refused s f e h told =
    let p = number_positive e in
    record { told = told; accepted = λ q. absurd (omega arith); refused = λ q. refl }

pub read_accepted : (s f f' : List ℕ) → refusal wide s ≡ 0 → Loads s f f' → Reads s f (Ok tt) f'
read_accepted s f f' e l = record { told = e; accepted = λ p. l; refused = λ p. absurd (p e) }
