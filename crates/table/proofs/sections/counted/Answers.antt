-- `table::sections::counted` meets its contract: each step tells a part of the section's refusal.
-- Assumes nothing.
use Rattle.std.proofs.Common.{rules}
use mathlib.Core.Path.{◌≡◌, ◌∙◌}
use mathlib.Core.Bool.{◌&&◌}
use mathlib.Core.List.{List}
use Prim.Native.Nat.{ℕ, ◌+◌, ◌*◌}
use lib.Dec.{leb, eqb}
use lib.ListN.{length}
use Rattle.layout.specs.declared.refusals.Refusal.{Refusal}
use Rattle.layout.specs.Bytes.{◌then◌, refuse◌unless◌, half}
use Rattle.layout.specs.Refusals.{number_of}
use Rattle.layout.proofs.SectionLaws.{then_zero}
use Rattle.layout.proofs.RefusalLaws.{told_first, refuse_both, told_count, told_rule, told_whole, told_items}
use Rattle.table.specs.Sections.{count_refusal}
use Rattle.table.proofs.sections.counted.Goals as goal

module _ (s : List ℕ) (p limit total k w : ℕ) where
  at_count : (e : Refusal) → refuse 1 unless leb (p + 2) (length s) ≡ number_of e → count_refusal s p limit total k w ≡ number_of e
  at_count e h = told_count _ _ _ _ e h

  module _ {n : ℕ} (present : refuse 1 unless leb (p + 2) (length s) ≡ 0) (is : n ≡ half s p) where
    -- the count's own rule, in two tests
    rule : refuse k unless (leb (half s p) limit && eqb (half s p) total) ≡ refuse k unless leb n limit then refuse k unless eqb n total
    rule = rw (is, refuse_both)

    at_rule : (e : Refusal) → refuse k unless leb n limit then refuse k unless eqb n total ≡ number_of e → count_refusal s p limit total k w ≡ number_of e
    at_rule e h = told_rule _ _ _ _ present e (rule ∙ h)

    module _ {q : ℕ} (few : refuse k unless leb n limit ≡ 0) (same : refuse k unless eqb n total ≡ 0) (place : q ≡ p + 2) where
      at_items : (e : Refusal) → refuse 1 unless leb (q + w * n) (length s) ≡ number_of e → count_refusal s p limit total k w ≡ number_of e
      at_items e h = told_whole _ _ _ _ present (rule ∙ then_zero _ few ∙ same) e (rw (place, is) at h)

      passed : refuse 1 unless leb (q + w * n) (length s) ≡ 0 → count_refusal s p limit total k w ≡ 0
      passed h = told_items _ _ _ _ present (rule ∙ then_zero _ few ∙ same) (rw (place, is) at h)

pub returns-in_err-count : goal.returns-in_err-count
returns-in_err-count c =
    let a = c.args in
    let told = at_count a.s.now a.c.at a.limit a.total (number_of a.refusal) a.width c.in_err-count.field-0.0 c.in_err-count.ensures in
    search rules

pub returns-in_err-unless : goal.returns-in_err-unless
returns-in_err-unless c =
    let a = c.args in
    let n = c.in_ok-count.ensures in
    let e = c.in_err-unless.field-0.0 in
    let told = at_rule a.s.now a.c.at a.limit a.total (number_of a.refusal) a.width n.0 n.1.0 e (told_first _ e c.in_err-unless.ensures) in
    search rules

pub returns-in_err-unless-2 : goal.returns-in_err-unless-2
returns-in_err-unless-2 c =
    let a = c.args in
    let n = c.in_ok-count.ensures in
    let e = c.in_err-unless-2.field-0.0 in
    let told = at_rule a.s.now a.c.at a.limit a.total (number_of a.refusal) a.width n.0 n.1.0 e (then_zero _ c.in_ok-unless.ensures ∙ c.in_err-unless-2.ensures) in
    search rules

pub returns-in_err-at : goal.returns-in_err-at
returns-in_err-at c =
    let a = c.args in
    let n = c.in_ok-count.ensures in
    let told = at_items a.s.now a.c.at a.limit a.total (number_of a.refusal) a.width n.0 n.1.0 c.in_ok-unless.ensures c.in_ok-unless-2.ensures n.1.1 c.in_err-at.field-0.0 c.in_err-at.ensures in
    search rules

pub returns : goal.returns
returns c =
    let a = c.args in
    let n = c.in_ok-count.ensures in
    let i = c.in_ok-at.ensures in
    let next : c.in_ok-count.c.at + a.width * c.in_ok-count.count ≡ a.c.at + 2 + a.width * half a.s.now a.c.at = rw (n.1.0, n.1.1) in (
      passed a.s.now a.c.at a.limit a.total (number_of a.refusal) a.width n.0 n.1.0 c.in_ok-unless.ensures c.in_ok-unless-2.ensures n.1.1 i.0,
      record { count = n.1.0; from = i.1.0 ∙ n.1.1; cursor = i.1.1 ∙ next },
    )
