-- What reading returns, by the refusal of the bytes, and what it tells of them.
-- Assumes nothing.
use mathlib.Core.Path.{◌≡◌, sym, ◌∙◌, ap, ap₂}
use mathlib.Core.List.{List}
use Prim.Native.Nat.{ℕ, zero, suc, ◌+◌, ◌*◌, ◌<◌}
use native.Mathlib.Omega.{arith}
use lib.ListN.{length}
use Rattle.simulation.specs.Table.{Table, states_of}
use Rattle.simulation.proofs.Finite.Lists.{below_length}
use Rattle.form.specs.Items.{all_transitions, all_entries}
use Rattle.layout.specs.declared.refusals.Refusal.{Refusal}
use Rattle.layout.specs.Bytes.{actions, states_start, states, transitions_start, transitions, entries_start, entries, decoded_entry, refusal, table, Decoded, number, decode_as}
use Rattle.layout.specs.Refusals.{number_of}
use Rattle.layout.proofs.LayoutLaws.{transition-count, entries_in-order}
use Rattle.layout.proofs.PlaceLaws.{code-count, state_count}
use Rattle.layout.proofs.DecodeLaws.{decode-accepted, decode-refused, decode-told, number_is}
use Rattle.layout.proofs.RefusalLaws.{number_positive}
use Rattle.table.specs.declared.parts.Layout.{Layout}
use Rattle.table.specs.Layouts.{items, layout, layout_of}

module _ (w : ℕ) (s : List ℕ) where
  -- where the parts of an accepted table lie follows from the table
  pub layout_is : refusal w s ≡ 0 → layout w s ≡ layout_of w (table w s)
  unfolding layout_of table transitions_start entries_start
  layout_is e =
      let a : actions w s ≡ length (table w s).codes = sym (code-count w s) in
      let n : states w s ≡ states_of (table w s) = sym (state_count w s) in
      let m : transitions w s ≡ length (all_transitions (table w s)) = sym (transition-count w s e) in
      let es : entries w s ≡ length (all_entries (table w s)) = sym (ap length (entries_in-order w s e) ∙ below_length (decoded_entry w s) 0 (entries w s)) in
      let counts : states_start w s + 1 ≡ w + w * length (table w s).codes + 1 = ap (λ (k : ℕ). w + w * k + 1) a in
      let ts : transitions_start w s + 2 ≡ w + w * length (table w s).codes + 1 + states_of (table w s) + 2 = ap₂ (λ (c k : ℕ). c + k + 2) counts n in
      let ens : entries_start w s + 2 ≡ w + w * length (table w s).codes + 1 + states_of (table w s) + 2 + (w + 1) * length (all_transitions (table w s)) + 2 = ap₂ (λ (p k : ℕ). p + (w + 1) * k + 2) ts m in
      λ i. record { actions = a i; states = items (n i) (counts i); transitions = items (m i) (ts i); entries = items (es i) (ens i) }

  -- what an error of reading says, as the refusal of the bytes and as what they decode to
  pub decodes_refused : (e : Refusal) → refusal w s ≡ number_of e → decode_as w s ≡ Decoded.refused (number_of e)
  decodes_refused e h = go (number_of e) h (number_positive e)
    where
      go : (k : ℕ) → refusal w s ≡ k → 0 < k → decode_as w s ≡ Decoded.refused k
      go zero h p = absurd (omega arith)
      go (suc k) h p = decode-refused w s k h

  pub refused_as : {k : ℕ} → decode_as w s ≡ Decoded.refused k → refusal w s ≡ k
  refused_as e = sym (number_is w s) ∙ ap number e

  -- where the parts of accepted bytes lie
  pub record Located (t : Layout) : Type 0 where
    pub passed : refusal w s ≡ 0
    pub laid : t ≡ layout w s
    pub decodes : decode_as w s ≡ Decoded.accepted (table w s)

  pub located : {M : Table} {t : Layout} → decode_as w s ≡ Decoded.accepted M → t ≡ layout_of w M → Located t
  located {M} d l =
      let h = decode-told w s M d in
      record { passed = h.passed; laid = l ∙ sym (ap (layout_of w) h.table_is) ∙ sym (layout_is h.passed); decodes = decode-accepted w s h.passed }
