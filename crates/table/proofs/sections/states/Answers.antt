-- `table::sections::states` meets its contract: each step tells a part of the section's refusal.
-- Assumes nothing.
use Rattle.std.proofs.Common.{rules}
use mathlib.Core.Path.{◌≡◌, ◌∙◌}
use mathlib.Core.Bool.{◌&&◌}
use mathlib.Core.List.{List}
use Prim.Native.Nat.{ℕ, ◌+◌}
use lib.Dec.{leb, ltb}
use lib.ListN.{length}
use Rattle.simulation.specs.Limits.{most_states}
use Rattle.layout.specs.declared.refusals.Refusal.{Refusal}
use Rattle.layout.specs.Bytes.{◌then◌, refuse◌unless◌, byte, states_start, states, transitions_start, states_refusal}
use Rattle.layout.specs.Refusals.{number_of}
use Rattle.layout.proofs.SectionLaws.{then_zero}
use Rattle.layout.proofs.RefusalLaws.{told_first, refuse_both, told_count, told_rule, told_whole, told_items}
use Rattle.table.proofs.sections.states.Goals as goal

module _ (w : ℕ) (s : List ℕ) {p : ℕ} (start : p ≡ states_start w s) where
  at_count : (e : Refusal) → refuse 1 unless leb (p + 1) (length s) ≡ number_of e → states_refusal w s ≡ number_of e
  at_count e h = told_count _ _ _ _ e (rw start at h)

  module _ {n : ℕ} (present : refuse 1 unless leb (p + 1) (length s) ≡ 0) (is : n ≡ byte s p) where
    count : n ≡ states w s
    unfolding states
    count = rw start at is

    -- the count's own rule, in two tests
    rule : refuse 4 unless (ltb 0 (states w s) && leb (states w s) most_states) ≡ refuse 4 unless ltb 0 n then refuse 4 unless leb n most_states
    rule = rw (count, refuse_both)

    at_rule : (e : Refusal) → refuse 4 unless ltb 0 n then refuse 4 unless leb n most_states ≡ number_of e → states_refusal w s ≡ number_of e
    at_rule e h = told_rule _ _ _ _ (rw start at present) e (rule ∙ h)

    module _ {q : ℕ} (some : refuse 4 unless ltb 0 n ≡ 0) (few : refuse 4 unless leb n most_states ≡ 0) (place : q ≡ p + 1) where
      after : q + n ≡ states_start w s + 1 + states w s
      after = rw (place, start, count)

      at_items : (e : Refusal) → refuse 1 unless leb (q + n) (length s) ≡ number_of e → states_refusal w s ≡ number_of e
      at_items e h = told_whole _ _ _ _ (rw start at present) (rule ∙ then_zero _ some ∙ few) e (rw after at h)

      passed : refuse 1 unless leb (q + n) (length s) ≡ 0 → states_refusal w s ≡ 0
      passed h = told_items _ _ _ _ (rw start at present) (rule ∙ then_zero _ some ∙ few) (rw after at h)

pub returns-in_err-count : goal.returns-in_err-count
returns-in_err-count c =
    let t = c.args.s.now in
    let told = at_count t.width t.bytes.now c.requires c.in_err-count.field-0.0 c.in_err-count.ensures in
    search rules

pub returns-in_err-unless : goal.returns-in_err-unless
returns-in_err-unless c =
    let t = c.args.s.now in
    let n = c.in_ok-count.ensures in
    let e = c.in_err-unless.field-0.0 in
    let told = at_rule t.width t.bytes.now c.requires n.0 n.1.0 e (told_first _ e c.in_err-unless.ensures) in
    search rules

pub returns-in_err-unless-2 : goal.returns-in_err-unless-2
returns-in_err-unless-2 c =
    let t = c.args.s.now in
    let n = c.in_ok-count.ensures in
    let e = c.in_err-unless-2.field-0.0 in
    let told = at_rule t.width t.bytes.now c.requires n.0 n.1.0 e (then_zero _ c.in_ok-unless.ensures ∙ c.in_err-unless-2.ensures) in
    search rules

pub returns-in_err-at : goal.returns-in_err-at
returns-in_err-at c =
    let t = c.args.s.now in
    let n = c.in_ok-count.ensures in
    let told = at_items t.width t.bytes.now c.requires n.0 n.1.0 c.in_ok-unless.ensures c.in_ok-unless-2.ensures n.1.1 c.in_err-at.field-0.0 c.in_err-at.ensures in
    search rules

pub returns : goal.returns
unfolding transitions_start
returns c =
    let t = c.args.s.now in
    let n = c.in_ok-count.ensures in
    let i = c.in_ok-at.ensures in
    let from : c.in_ok-count.c.at ≡ states_start t.width t.bytes.now + 1 = rw c.requires at n.1.1 in (
      passed t.width t.bytes.now c.requires n.0 n.1.0 c.in_ok-unless.ensures c.in_ok-unless-2.ensures n.1.1 i.0,
      record {
        count = count t.width t.bytes.now c.requires n.0 n.1.0;
        from = i.1.0 ∙ from;
        cursor = i.1.1 ∙ after t.width t.bytes.now c.requires n.0 n.1.0 c.in_ok-unless.ensures c.in_ok-unless-2.ensures n.1.1;
      },
    )
