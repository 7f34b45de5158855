-- `table::reader::read` meets its contract: each section tells its part of the refusal.
-- Assumes nothing.
use Rattle.std.proofs.Common.{rules}
use mathlib.Core.Path.{◌≡◌, ◌∙◌}
use mathlib.Core.List.{List}
use Prim.Native.Nat.{ℕ}
use lib.Dec.{eqb}
use lib.ListN.{length}
use Rattle.layout.specs.declared.refusals.Refusal.{Refusal}
use Rattle.layout.specs.Bytes.{refuse◌unless◌, end, actions_refusal, states_refusal, transitions_refusal, entries_refusal, refusal, table, refused, decode_as}
use Rattle.layout.specs.Refusals.{number_of}
use Rattle.layout.proofs.SectionLaws.{then_zero}
use Rattle.layout.proofs.DecodeLaws.{decode-accepted}
use Rattle.layout.proofs.RefusalLaws.{told_first}
use Rattle.layout.proofs.Bounds.{refusal_is}
use Rattle.table.specs.declared.parts.Layout.{Layout}
use Rattle.table.specs.Layouts.{layout}
use Rattle.table.proofs.AnswerLaws.{layout_is, decodes_refused}
use Rattle.table.proofs.reader.read.Goals as goal
use Rattle.table.proofs.reader.read.Goals.{In_ok-unless}

module _ (w : ℕ) (s : List ℕ) where
  abbrev Refused : Refusal → Type 0
  Refused e = decode_as w s ≡ refused (number_of e)

  at_actions : (e : Refusal) → actions_refusal w s ≡ number_of e → Refused e
  at_actions e h = decodes_refused w s e (refusal_is w s ∙ told_first _ e (told_first _ e (told_first _ e (told_first _ e h))))

  module _ (a : actions_refusal w s ≡ 0) where
    at_states : (e : Refusal) → states_refusal w s ≡ number_of e → Refused e
    at_states e h = decodes_refused w s e (refusal_is w s ∙ told_first _ e (told_first _ e (told_first _ e (then_zero _ a ∙ h))))

    module _ (b : states_refusal w s ≡ 0) where
      at_transitions : (e : Refusal) → transitions_refusal w s ≡ number_of e → Refused e
      at_transitions e h = decodes_refused w s e (refusal_is w s ∙ told_first _ e (told_first _ e (then_zero _ (then_zero _ a ∙ b) ∙ h)))

      module _ (m : transitions_refusal w s ≡ 0) where
        at_entries : (e : Refusal) → entries_refusal w s ≡ number_of e → Refused e
        at_entries e h = decodes_refused w s e (refusal_is w s ∙ told_first _ e (then_zero _ (then_zero _ (then_zero _ a ∙ b) ∙ m) ∙ h))

        module _ (d : entries_refusal w s ≡ 0) {q : ℕ} (place : q ≡ end w s) where
          last : refusal w s ≡ refuse 2 unless eqb q (length s)
          last = rw place (refusal_is w s ∙ then_zero _ (then_zero _ (then_zero _ (then_zero _ a ∙ b) ∙ m) ∙ d))

          at_end : (e : Refusal) → refuse 2 unless eqb q (length s) ≡ number_of e → Refused e
          at_end e h = decodes_refused w s e (last ∙ h)

pub returns-in_err-actions : goal.returns-in_err-actions
returns-in_err-actions c =
    let t = c.args.s.now in
    let told = at_actions t.width t.bytes.now c.in_err-actions.field-0.0 c.in_err-actions.ensures in
    search rules

pub returns-in_err-states : goal.returns-in_err-states
returns-in_err-states c =
    let t = c.args.s.now in
    let told = at_states t.width t.bytes.now c.in_ok-actions.ensures.0 c.in_err-states.field-0.0 c.in_err-states.ensures in
    search rules

pub returns-in_err-transitions : goal.returns-in_err-transitions
returns-in_err-transitions c =
    let t = c.args.s.now in
    let told = at_transitions t.width t.bytes.now c.in_ok-actions.ensures.0 c.in_ok-states.ensures.0 c.in_err-transitions.field-0.0 c.in_err-transitions.ensures in
    search rules

pub returns-in_err-entries : goal.returns-in_err-entries
returns-in_err-entries c =
    let t = c.args.s.now in
    let told = at_entries t.width t.bytes.now c.in_ok-actions.ensures.0 c.in_ok-states.ensures.0 c.in_ok-transitions.ensures.0 c.in_err-entries.field-0.0 c.in_err-entries.ensures in
    search rules

pub returns-in_err-unless : goal.returns-in_err-unless
returns-in_err-unless c =
    let t = c.args.s.now in
    let n = c.in_ok-entries.ensures in
    let told = at_end t.width t.bytes.now c.in_ok-actions.ensures.0 c.in_ok-states.ensures.0 c.in_ok-transitions.ensures.0 n.0 n.1.cursor c.in_err-unless.field-0.0 c.in_err-unless.ensures in
    search rules

-- the layout that was read
abbrev read : In_ok-unless → Layout
read c = record { actions = c.in_ok-actions.actions; states = c.in_ok-states.states; transitions = c.in_ok-transitions.transitions; entries = c.in_ok-entries.entries }

laid : (c : In_ok-unless) → let t = c.args.s.now in read c ≡ layout t.width t.bytes.now
laid c =
    let n = c.in_ok-states.ensures.1 in
    let m = c.in_ok-transitions.ensures.1 in
    let e = c.in_ok-entries.ensures.1 in
    λ i. record {
      actions = c.in_ok-actions.ensures.1.count i;
      states = record { count = n.count i; at = n.from i };
      transitions = record { count = m.count i; at = m.from i };
      entries = record { count = e.count i; at = e.from i };
    }

pub returns : goal.returns
returns c =
    let t = c.args.s.now in
    let n = c.in_ok-entries.ensures in
    let passed = last t.width t.bytes.now c.in_ok-actions.ensures.0 c.in_ok-states.ensures.0 c.in_ok-transitions.ensures.0 n.0 n.1.cursor ∙ c.in_ok-unless.ensures in
    (table t.width t.bytes.now, decode-accepted t.width t.bytes.now passed, laid c ∙ layout_is t.width t.bytes.now passed)
