-- `items::items::check_entries` meets its contract. The loop's invariant: the transitions below j pass, and start is the number of their entries.
-- Assumes nothing.
use Rattle.std.proofs.Common.{rules}
use mathlib.Core.Path.{◌≡◌, ◌∙◌, ap}
use mathlib.Core.List.{List}
use Prim.Native.Nat.{ℕ, ◌+◌, ◌*◌, ◌≤◌}
use native.Mathlib.Omega.{arith}
use lib.ListN.{length}
use Rattle.simulation.specs.Sum.{sum}
use Rattle.simulation.proofs.Finite.Sums.{sum-none, sum_more, sum_le}
use Rattle.layout.specs.Bytes.{first, size_from, distribution_refusal, run_refusal}
use Rattle.layout.specs.Refusals.{number_of}
use Rattle.layout.proofs.Laws.{items_none, items_more, items_here, items_all}
use Rattle.layout.proofs.RefusalLaws.{number_positive}
use Rattle.items.proofs.items.check_entries.Goals as goal
use Rattle.items.proofs.items.check_entries.Goals.{After-byte_at-size}

-- the entries of the transition j lie within the bytes
within : (c : After-byte_at-size) → let a = c.args in a.at + 3 * (c.loop-j.start + c.byte_at-size.result) ≤ length a.s.now.bytes.now
within c =
    let a = c.args in
    let more = sum_le c.loop-j.j a.m (size_from a.s.now.width a.s.now.bytes.now a.sizes) (omega arith) in
    omega arith

-- what is found among the entries of the transition j is its refusal
judged : (w : ℕ) (s : List ℕ) (n q p j : ℕ) {size start : ℕ} → size ≡ size_from w s q j → start ≡ sum j (size_from w s q)
    → run_refusal w s n q p j ≡ distribution_refusal s n (p + 3 * start) size
unfolding run_refusal
judged w s n q p j e f = rw (e, f)

pub loop-j-init : goal.loop-j-init
loop-j-init c = (items_none _ _, sum-none _)

pub overflow_mul-start : goal.overflow_mul-start
overflow_mul-start c = omega (arith, within (goal.at.overflow_mul-start c).After-byte_at-size)

pub overflow_add-at : goal.overflow_add-at
overflow_add-at c = omega (arith, within (goal.at.overflow_add-at c).After-byte_at-size)

pub check_distribution-requires : goal.check_distribution-requires
check_distribution-requires c = omega (arith, within (goal.at.check_distribution-requires c).After-byte_at-size)

pub returns-in_err-check_distribution : goal.returns-in_err-check_distribution
returns-in_err-check_distribution c =
    let a = c.args in
    let e = c.in_err-check_distribution.field-0.0 in
    let here = judged _ _ a.n a.sizes a.at c.loop-j.j c.byte_at-size.ensures.is c.loop-j.invariant.1 in
    let told : first 0 a.m (run_refusal a.s.now.width a.s.now.bytes.now a.n a.sizes a.at) ≡ number_of e =
    items_here _ _ _ c.loop-j.invariant.0 (omega arith) (here ∙ c.in_err-check_distribution.ensures) (number_positive e) in
    search rules

pub overflow_add-start : goal.overflow_add-start
overflow_add-start c = omega (arith, within (goal.at.overflow_add-start c).After-byte_at-size)

pub loop-j-preserved : goal.loop-j-preserved
loop-j-preserved c =
    let a = c.args in
    let here = judged _ _ a.n a.sizes a.at c.loop-j.j c.byte_at-size.ensures.is c.loop-j.invariant.1 in
    let more = ap (λ (z : ℕ). c.loop-j.start + z) c.byte_at-size.ensures.is ∙ sum_more c.loop-j.j _ c.loop-j.invariant.1 in
    (items_more _ _ _ c.loop-j.invariant.0 (omega arith) (here ∙ c.in_ok-check_distribution.ensures), more)

pub returns : goal.returns
returns c = items_all _ _ _ c.loop-j.invariant.0 (omega arith)
