-- `table::sections::entries` meets its contract: the count's reading and the items tell the section's refusal.
-- Assumes nothing.
use Rattle.std.proofs.Common.{rules}
use mathlib.Core.Path.{◌≡◌, sym, ◌∙◌, ap, ap₂}
use mathlib.Core.Bool.{◌&&◌}
use mathlib.Core.List.{List}
use Prim.Native.Nat.{ℕ, ◌+◌, ◌*◌, ◌≤◌, ◌<◌}
use native.Mathlib.Omega.{arith}
use lib.Dec.{leb, eqb}
use lib.ListN.{length}
use borrow.Author.Tests.{leb-true, eqb-true}
use Rattle.simulation.specs.Sum.{sum}
use Rattle.simulation.specs.Limits.{most_entries}
use Rattle.simulation.proofs.Finite.Tests.{both_true}
use Rattle.layout.specs.declared.refusals.Refusal.{Refusal}
use Rattle.layout.specs.Bytes.{first, half, states, transitions_start, transitions, size, size_from, entries_start, entries, end, run_refusal, entries_refusal}
use Rattle.layout.specs.Refusals.{number_of}
use Rattle.layout.proofs.SectionLaws.{accepted-holds, section-whole, section_past, section-before}
use Rattle.layout.proofs.RefusalLaws.{number_positive}
use Rattle.layout.proofs.Fields.{item_within}
use Rattle.layout.proofs.Bounds.{transitions_bounds}
use Rattle.table.specs.declared.parts.Items.{Items}
use Rattle.table.specs.Sections.{count_refusal, CountRead, TransitionsRead, EntriesRead}
use Rattle.table.proofs.sections.entries.Goals as goal

-- where the transitions m were read up to the place q, and k is the sum of their sizes
module _ (w : ℕ) (s : List ℕ) {m : Items} {q k : ℕ} (before : TransitionsRead w s m q) (sum_is : k ≡ sum m.count (size_from w s (m.at + w))) where
  sizes : m.at + w ≡ transitions_start w s + 2 + w
  sizes = ap (λ (a : ℕ). a + w) before.from

  total : k ≡ sum (transitions w s) (size w s)
  total = sum_is ∙ ap₂ (λ (n a : ℕ). sum n (size_from w s a)) before.count sizes

  own_is : count_refusal s (entries_start w s) most_entries (sum (transitions w s) (size w s)) 7 3 ≡ count_refusal s q most_entries k 7 3
  own_is = rw (before.cursor, total)

  at_count : (e : Refusal) → count_refusal s q most_entries k 7 3 ≡ number_of e → entries_refusal w s ≡ number_of e
  unfolding entries
  at_count e h =
      let p = number_positive e in
      section-before _ _ _ _ (own_is ∙ h) (λ z. omega arith)

  module _ (passed : count_refusal s q most_entries k 7 3 ≡ 0) {i : Items} {next : ℕ} (read : CountRead s q 3 i next) where
    here : EntriesRead w s i next
    unfolding entries end
    here = rw before.cursor at read

    items : {n : ℕ} → n ≡ states w s → entries_refusal w s ≡ first 0 m.count (run_refusal w s n (m.at + w) i.at)
    unfolding entries
    items n = section_past _ _ _ _ (own_is ∙ passed) ∙ (λ x. first 0 (sym before.count x) (run_refusal w s (sym n x) (sym sizes x) (sym here.from x)))

    within : i.at + 3 * sum m.count (size_from w s (m.at + w)) ≤ length s
    unfolding entries
    within =
        let y = section-whole _ _ _ _ (own_is ∙ passed) in
        let n = half s (entries_start w s) in
        let all = sum (transitions w s) (size w s) in
        let same : n ≡ all = eqb-true n all (both_true (leb n most_entries) (eqb n all) (accepted-holds 6 (leb n most_entries && eqb n all) y.rule_kept)).1 in
        let h = leb-true (entries_start w s + 2 + 3 * n) (length s) y.all_present in
        rw (here.from, sym sum_is, total) (omega arith)

pub overflow_add-sizes : goal.overflow_add-sizes
overflow_add-sizes c =
    let t = c.args.s.now in
    let b = transitions_bounds t.width t.bytes.now c.requires.transitions.0 in
    omega (arith, c.requires.transitions.1.from, t.coded.1)

pub sum_of-total-requires-clause-few : goal.sum_of-total-requires-clause-few
sum_of-total-requires-clause-few c =
    let b = transitions_bounds c.args.s.now.width c.args.s.now.bytes.now c.requires.transitions.0 in
    omega (arith, c.requires.transitions.1.count)

pub sum_of-total-requires-clause-within : goal.sum_of-total-requires-clause-within
sum_of-total-requires-clause-within c =
    let t = c.args.s.now in
    let b = transitions_bounds t.width t.bytes.now c.requires.transitions.0 in
    let m = c.requires.transitions.1 in
    λ i h. let n : i < transitions t.width t.bytes.now = omega (arith, m.count) in omega (arith, m.from, item_within (t.width + 1) i (transitions t.width t.bytes.now) n)

pub returns-in_err-items : goal.returns-in_err-items
returns-in_err-items c =
    let t = c.args.s.now in
    let told = at_count t.width t.bytes.now c.requires.transitions.1 c.sum_of-total.ensures c.in_err-items.field-0.0 c.in_err-items.ensures in
    search rules

pub check_entries-requires-clause-room : goal.check_entries-requires-clause-room
check_entries-requires-clause-room c =
    let t = c.args.s.now in
    let m = c.requires.transitions.1 in
    let b = transitions_bounds t.width t.bytes.now c.requires.transitions.0 in
    let sized = ap (◌*◌ (t.width + 1)) m.count in
    (omega (arith, m.count), omega (arith, m.from))

pub check_entries-requires-clause-within : goal.check_entries-requires-clause-within
check_entries-requires-clause-within c =
    let t = c.args.s.now in
    within t.width t.bytes.now c.requires.transitions.1 c.sum_of-total.ensures c.in_ok-items.ensures.0 c.in_ok-items.ensures.1

pub returns-in_err-check_entries : goal.returns-in_err-check_entries
returns-in_err-check_entries c =
    let t = c.args.s.now in
    let told = items t.width t.bytes.now c.requires.transitions.1 c.sum_of-total.ensures c.in_ok-items.ensures.0 c.in_ok-items.ensures.1 c.requires.states ∙ c.in_err-check_entries.ensures in
    search rules

pub returns : goal.returns
returns c =
    let t = c.args.s.now in
    let m = c.requires.transitions.1 in
    let i = c.in_ok-items.ensures in (
      items t.width t.bytes.now m c.sum_of-total.ensures i.0 i.1 c.requires.states ∙ c.in_ok-check_entries.ensures,
      here t.width t.bytes.now m c.sum_of-total.ensures i.0 i.1,
    )
