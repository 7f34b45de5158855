-- `items::items::check_distribution` meets its contract. The loop's invariant: the entries below k pass, and total is the sum of their weights.
-- Assumes nothing.
use Rattle.std.proofs.Common.{rules}
use mathlib.Core.Path.{◌≡◌, sym, ◌∙◌, ap}
use mathlib.Core.Bool.{Bool}
use mathlib.Core.List.{List}
use Prim.Native.Nat.{ℕ, ◌+◌, ◌*◌, ◌<◌}
use native.Mathlib.Omega.{arith}
use lib.Dec.{leb, ltb}
use borrow.Author.Tests.{leb-true}
use Rattle.simulation.specs.Limits.{most_total}
use Rattle.simulation.proofs.Finite.Sums.{sum-none, sum_more}
use Rattle.layout.specs.Bytes.{◌then◌, refuse◌unless◌, half, target_right, weight_from, total_from, weight_right, entry_refusal, distribution_refusal}
use Rattle.layout.specs.declared.refusals.Refusal.{Refusal}
use Rattle.layout.specs.Refusals.{number_of}
use Rattle.layout.proofs.Laws.{ItemsPass, items_none, items_more, items_here, items_all}
use Rattle.layout.proofs.SectionLaws.{then_zero, accepted-holds}
use Rattle.layout.proofs.RefusalLaws.{number_positive, told_first}
use Rattle.items.proofs.items.check_distribution.Goals as goal

module _ (s : List ℕ) (n p k : ℕ) where
  -- the entry's refusal, by the total before it and its weight
  judged : {right : Bool} {total weight : ℕ} → right ≡ target_right s n p k → total ≡ total_from s p k → weight ≡ half s (p + 3 * k + 1)
      → entry_refusal s n p k ≡ refuse 9 unless right then refuse 10 unless leb (total + weight) most_total
  unfolding entry_refusal weight_right
  judged {total = total} r a b =
      let grown = ap (λ (w : ℕ). total + w) b ∙ sum_more k (weight_from s p) a in
      rw (r, grown)

pub loop-k-init : goal.loop-k-init
loop-k-init c = record { pass = items_none _ _; sum = sum-none _; small = omega arith }

-- the entry at k is refused
refused_here : (s : List ℕ) (n p size k : ℕ) (e : Refusal) → ItemsPass size (entry_refusal s n p) k → k < size → entry_refusal s n p k ≡ number_of e
    → distribution_refusal s n p size ≡ number_of e
unfolding distribution_refusal
refused_here s n p size k e h l here = told_first _ e (items_here _ _ k h l here (number_positive e))

pub returns-in_err-unless : goal.returns-in_err-unless
returns-in_err-unless c =
    let a = c.args in
    let h = c.loop-k.invariant in
    let e = c.in_err-unless.field-0.0 in
    let here = judged a.s.now a.n a.at c.loop-k.k c.target_right-right.ensures h.sum c.half_at-total.ensures.is in
    let told = refused_here a.s.now a.n a.at a.size c.loop-k.k e h.pass c.loop-k-test.true (here ∙ told_first _ e c.in_err-unless.ensures) in
    search rules

pub returns-in_err-unless-2 : goal.returns-in_err-unless-2
returns-in_err-unless-2 c =
    let a = c.args in
    let h = c.loop-k.invariant in
    let e = c.in_err-unless-2.field-0.0 in
    let here = judged a.s.now a.n a.at c.loop-k.k c.target_right-right.ensures h.sum c.half_at-total.ensures.is in
    let told = refused_here a.s.now a.n a.at a.size c.loop-k.k e h.pass c.loop-k-test.true (here ∙ then_zero _ c.in_ok-unless.ensures ∙ c.in_err-unless-2.ensures) in
    search rules

pub loop-k-preserved : goal.loop-k-preserved
loop-k-preserved c =
    let a = c.args in
    let h = c.loop-k.invariant in
    let here = judged a.s.now a.n a.at c.loop-k.k c.target_right-right.ensures h.sum c.half_at-total.ensures.is in
    let small = leb-true _ most_total (accepted-holds 9 _ c.in_ok-unless-2.ensures) in
    record {
      pass = items_more _ _ _ h.pass (omega arith) (here ∙ then_zero _ c.in_ok-unless.ensures ∙ c.in_ok-unless-2.ensures);
      sum = ap (λ (w : ℕ). c.loop-k.total + w) c.half_at-total.ensures.is ∙ sum_more c.loop-k.k _ h.sum;
      small = small;
    }

pub returns : goal.returns
unfolding distribution_refusal
returns c =
    let a = c.args in
    let all : c.loop-k.k ≡ a.size = omega arith in
    let total : total_from a.s.now a.at a.size ≡ c.loop-k.total = sym (rw all at c.loop-k.invariant.sum) in
    let passed = then_zero _ (items_all a.size (entry_refusal a.s.now a.n a.at) _ c.loop-k.invariant.pass c.loop-k-test.false) in
    rw (passed ∙ ap (λ (m : ℕ). refuse 10 unless ltb 0 m) total) c.unless-2.ensures
