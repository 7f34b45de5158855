-- `table::sections::actions` meets its contract: each step tells a part of the section's refusal.
-- Assumes nothing.
use Rattle.std.proofs.Common.{rules}
use mathlib.Core.Path.{◌≡◌, sym, ◌∙◌, ap}
use mathlib.Core.List.{List}
use Prim.Native.Nat.{ℕ, pred, ◌+◌, ◌*◌}
use native.Mathlib.Nat.{zero-add, mul-le-mul_right}
use native.Mathlib.Omega.{arith}
use lib.Dec.{leb}
use lib.ListN.{length}
use borrow.Author.Tests.{leb-true}
use Rattle.simulation.specs.Limits.{most_codes}
use Rattle.layout.specs.declared.refusals.Refusal.{Refusal}
use Rattle.layout.specs.Bytes.{refuse◌unless◌, first, field, actions, states_start, code_refusal, actions_refusal}
use Rattle.layout.specs.Refusals.{number_of}
use Rattle.layout.proofs.SectionLaws.{accepted-holds}
use Rattle.layout.proofs.RefusalLaws.{told_count, told_rule, told_whole, told_items}
use Rattle.table.proofs.sections.actions.Goals as goal

module _ (w : ℕ) (s : List ℕ) {p : ℕ} (start : p ≡ 0) where
  begins : p + w ≡ w
  begins = rw (start, zero-add)

  at_count : (e : Refusal) → refuse 1 unless leb (p + w) (length s) ≡ number_of e → actions_refusal w s ≡ number_of e
  at_count e h = told_count _ _ _ _ e (rw begins at h)

  module _ {n : ℕ} (present : refuse 1 unless leb (p + w) (length s) ≡ 0) (is : n ≡ field w s p) where
    count : n ≡ actions w s
    unfolding actions
    count = rw start at is

    at_rule : (e : Refusal) → refuse 3 unless leb n most_codes ≡ number_of e → actions_refusal w s ≡ number_of e
    at_rule e h = told_rule _ _ _ _ (rw begins at present) e (rw count at h)

    module _ {q : ℕ} (few : refuse 3 unless leb n most_codes ≡ 0) (place : q ≡ p + w) where
      after : q + w * n ≡ states_start w s
      after = rw (place, begins, count)

      at_items : (e : Refusal) → refuse 1 unless leb (q + w * n) (length s) ≡ number_of e → actions_refusal w s ≡ number_of e
      at_items e h = told_whole _ _ _ _ (rw begins at present) (rw count at few) e (rw after at h)

      module _ (whole : refuse 1 unless leb (q + w * n) (length s) ≡ 0) where
        items : actions_refusal w s ≡ first 0 (pred n) (code_refusal w s)
        items =
            told_items _ _ _ _ (rw begins at present) (rw count at few) (rw after at whole)
            ∙ ap (λ (m : ℕ). first 0 (pred m) (code_refusal w s)) (sym count)

pub returns-in_err-n : goal.returns-in_err-n
returns-in_err-n c =
    let t = c.args.s.now in
    let told = at_count t.width t.bytes.now c.requires c.in_err-n.field-0.0 c.in_err-n.ensures in
    search rules

pub returns-in_err-unless : goal.returns-in_err-unless
returns-in_err-unless c =
    let t = c.args.s.now in
    let n = c.in_ok-n.ensures in
    let told = at_rule t.width t.bytes.now c.requires n.0 n.1.0 c.in_err-unless.field-0.0 c.in_err-unless.ensures in
    search rules

pub overflow_mul-s : goal.overflow_mul-s
overflow_mul-s c =
    let few = leb-true _ most_codes (accepted-holds 2 _ c.in_ok-unless.ensures) in
    let narrow = mul-le-mul_right c.in_ok-n.n c.args.s.now.coded.1 in
    omega arith

pub returns-in_err-c : goal.returns-in_err-c
returns-in_err-c c =
    let t = c.args.s.now in
    let n = c.in_ok-n.ensures in
    let told = at_items t.width t.bytes.now c.requires n.0 n.1.0 c.in_ok-unless.ensures n.1.1 c.in_err-c.field-0.0 c.in_err-c.ensures in
    search rules

pub returns-in_err-check_codes : goal.returns-in_err-check_codes
returns-in_err-check_codes c =
    let t = c.args.s.now in
    let n = c.in_ok-n.ensures in
    let told = items t.width t.bytes.now c.requires n.0 n.1.0 c.in_ok-unless.ensures n.1.1 c.in_ok-c.ensures.0 ∙ c.in_err-check_codes.ensures in
    search rules

pub returns : goal.returns
returns c =
    let t = c.args.s.now in
    let n = c.in_ok-n.ensures in (
      items t.width t.bytes.now c.requires n.0 n.1.0 c.in_ok-unless.ensures n.1.1 c.in_ok-c.ensures.0 ∙ c.in_ok-check_codes.ensures,
      record {
        count = count t.width t.bytes.now c.requires n.0 n.1.0;
        cursor = c.in_ok-c.ensures.1.1 ∙ after t.width t.bytes.now c.requires n.0 n.1.0 c.in_ok-unless.ensures n.1.1;
      },
    )
