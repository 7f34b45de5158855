-- `table::sections::transitions` meets its contract: the count's reading and the items tell the section's refusal.
-- Assumes nothing.
use Rattle.std.proofs.Common.{rules}
use mathlib.Core.Path.{◌≡◌, sym, ◌∙◌, ap, ap₂}
use mathlib.Core.List.{List}
use Prim.Native.Nat.{ℕ, ◌+◌, ◌*◌, ◌≤◌}
use native.Mathlib.Omega.{arith}
use lib.ListN.{length}
use borrow.Author.Tests.{leb-true}
use Rattle.simulation.specs.Sum.{sum}
use Rattle.simulation.specs.Limits.{most_transitions}
use Rattle.layout.specs.declared.refusals.Refusal.{Refusal}
use Rattle.layout.specs.Bytes.{first, states, count, transitions_start, transitions, entries_start, transition_refusal, transitions_refusal}
use Rattle.layout.specs.Refusals.{number_of}
use Rattle.layout.proofs.SectionLaws.{section-whole, section_past, section-before}
use Rattle.layout.proofs.RefusalLaws.{number_positive}
use Rattle.layout.proofs.Bounds.{actions_bounds, states_bounds, sum_of_counts}
use Rattle.table.specs.declared.parts.Items.{Items}
use Rattle.table.specs.Sections.{count_refusal, CountRead, TransitionsRead}
use Rattle.table.proofs.sections.transitions.Goals as goal
use Rattle.table.proofs.sections.transitions.Goals.{After-sum_of-total}

module _ (w : ℕ) (s : List ℕ) {q k : ℕ} (place : q ≡ transitions_start w s) (total : k ≡ sum (states w s) (count w s)) where
  own_is : count_refusal s (transitions_start w s) most_transitions (sum (states w s) (count w s)) 5 (w + 1) ≡ count_refusal s q most_transitions k 5 (w + 1)
  own_is = rw (place, total)

  at_count : (e : Refusal) → count_refusal s q most_transitions k 5 (w + 1) ≡ number_of e → transitions_refusal w s ≡ number_of e
  unfolding transitions
  at_count e h =
      let p = number_positive e in
      section-before _ _ _ _ (own_is ∙ h) (λ z. omega arith)

  module _ (passed : count_refusal s q most_transitions k 5 (w + 1) ≡ 0) {i : Items} {next : ℕ} (read : CountRead s q (w + 1) i next) where
    here : TransitionsRead w s i next
    unfolding transitions entries_start
    here = rw place at read

    items : transitions_refusal w s ≡ first 0 i.count (λ j. transition_refusal w s (i.at + (w + 1) * j))
    unfolding transitions
    items =
        section_past _ _ _ _ (own_is ∙ passed)
        ∙ ap₂ (λ (p n : ℕ). first 0 n (λ j. transition_refusal w s (p + (w + 1) * j))) (sym here.from) (sym here.count)

    room : i.at + (w + 1) * i.count ≤ length s
    unfolding transitions
    room = rw (here.from, here.count) (leb-true _ (length s) (section-whole _ _ _ _ (own_is ∙ passed)).all_present)

total_is : (c : After-sum_of-total) → let t = c.args.s.now in c.sum_of-total.result ≡ sum (states t.width t.bytes.now) (count t.width t.bytes.now)
total_is c =
    let t = c.args.s.now in
    sum_of_counts t.width t.bytes.now c.requires.states.1.count c.requires.states.1.from c.sum_of-total.ensures

pub sum_of-total-requires-clause-few : goal.sum_of-total-requires-clause-few
sum_of-total-requires-clause-few c =
    let b = states_bounds c.args.s.now.width c.args.s.now.bytes.now c.requires.states.0 in
    omega (arith, c.requires.states.1.count)

pub sum_of-total-requires-clause-within : goal.sum_of-total-requires-clause-within
sum_of-total-requires-clause-within c =
    let b = states_bounds c.args.s.now.width c.args.s.now.bytes.now c.requires.states.0 in
    λ i h. omega (arith, c.requires.states.1.count, c.requires.states.1.from)

pub returns-in_err-items : goal.returns-in_err-items
returns-in_err-items c =
    let t = c.args.s.now in
    let told = at_count t.width t.bytes.now c.requires.states.1.cursor (total_is (goal.at.returns-in_err-items c).After-sum_of-total) c.in_err-items.field-0.0 c.in_err-items.ensures in
    search rules

pub check_transitions-requires-clause-codes : goal.check_transitions-requires-clause-codes
check_transitions-requires-clause-codes c =
    let t = c.args.s.now in
    let n = c.requires.codes.1 in
    let b = actions_bounds t.width t.bytes.now c.requires.codes.0 in
    let k = ap (◌*◌ t.width) n in
    (n, record { room = omega arith; ascend = rw n (section-whole _ _ _ _ c.requires.codes.0).items_pass })

pub check_transitions-requires-clause-room : goal.check_transitions-requires-clause-room
check_transitions-requires-clause-room c =
    let t = c.args.s.now in
    room t.width t.bytes.now c.requires.states.1.cursor (total_is (goal.at.check_transitions-requires-clause-room c).After-sum_of-total) c.in_ok-items.ensures.0 c.in_ok-items.ensures.1

pub returns-in_err-check_transitions : goal.returns-in_err-check_transitions
returns-in_err-check_transitions c =
    let t = c.args.s.now in
    let told = items t.width t.bytes.now c.requires.states.1.cursor (total_is (goal.at.returns-in_err-check_transitions c).After-sum_of-total) c.in_ok-items.ensures.0 c.in_ok-items.ensures.1 ∙ c.in_err-check_transitions.ensures in
    search rules

pub returns : goal.returns
returns c =
    let t = c.args.s.now in
    let total = total_is (goal.at.returns c).After-sum_of-total in (
      items t.width t.bytes.now c.requires.states.1.cursor total c.in_ok-items.ensures.0 c.in_ok-items.ensures.1 ∙ c.in_ok-check_transitions.ensures,
      here t.width t.bytes.now c.requires.states.1.cursor total c.in_ok-items.ensures.0 c.in_ok-items.ensures.1,
    )
