-- `Trail::pass_row` meets its contract. Assumes nothing.
use mathlib.Core.Path.{sym, ap, ◌∙◌, subst}
use Prim.Native.Nat.{ℕ, ◌+◌, ◌*◌, ◌≤◌, ◌<◌}
use native.Mathlib.Omega.{arith}
use native.Mathlib.Nat.{mul-le-mul, le_of_lt}
use lib.ListN.{length, get_or}
use Rattle.simulation.specs.Limits.{most_states, most_pairs}
use Rattle.form.proofs.Contract.{contract-few}
use Rattle.set.proofs.Walks.{begun}
use Rattle.counting.proofs.Pairs.{rank_asked}
use Rattle.passing.proofs.Walks.{RowAt, row-start, low-lost, low-rank, low_pair, row-over, row_next, row-end}
use Rattle.passing.proofs.Trail.pass_row.Goals as goal
use Rattle.passing.proofs.Trail.pass_row.Goals.{After-width}

-- where the ranks of the row begin
base_small : (d : After-width) → d.args.s * d.width.result ≤ most_pairs
base_small d =
    let few : d.width.result ≤ most_states = omega (arith, d.width.ensures, contract-few d.args.tables.now d.requires.0.given.given.ranked.loaded) in
    mul-le-mul (le_of_lt d.requires.1) few

pub overflow_mul-base : goal.overflow_mul-base
overflow_mul-base c = omega (arith, base_small (goal.at.overflow_mul-base c).After-width)

pub overflow_add-base : goal.overflow_add-base
overflow_add-base c = omega (arith, base_small (goal.at.overflow_add-base c).After-width, c.in-Some.ensures.steps.state)

pub offset_bounds-ranks-base : goal.offset_bounds-ranks-base
offset_bounds-ranks-base c = omega (arith, base_small (goal.at.offset_bounds-ranks-base c).After-width, c.in-Some.ensures.steps.state)

pub bounds-ranks-base : goal.bounds-ranks-base
bounds-ranks-base c =
    subst (λ (n : ℕ). c.args.s * n + c.in-Some.t < length c.args.ranks.now) (sym c.width.ensures)
    (rank_asked (low-lost c.loop-t.invariant c.in-Some.ensures.steps.lowest) c.requires.0.given.given.ranked).3

pub loop-t-init : goal.loop-t-init
loop-t-init c =
    let a = c.args in
    begun (RowAt a.tables.now a.ranks.now a.rank a.s a.self.now a.self.now) c.into_iter-t-iterator.ensures.into_iter_gives (row-start c.requires.0 c.pairs-t-items.ensures)

pub pass_pair-requires : goal.pass_pair-requires
pass_pair-requires c =
    let a = c.args in
    let low = c.in-Some.ensures.steps.lowest in
    low_pair c.loop-t.invariant low (sym (low-rank c.loop-t.invariant low (ap (λ (n : ℕ). get_or a.ranks.now (a.s * n + c.in-Some.t) 0) c.width.ensures)) ∙ c.if-ranks-base.true)

pub loop-t-preserved-then-ranks-base : goal.loop-t-preserved-then-ranks-base
loop-t-preserved-then-ranks-base c = row_next c.loop-t.invariant _ _ c.in-Some.ensures.steps.left c.pass_pair.ensures

pub loop-t-preserved : goal.loop-t-preserved
loop-t-preserved c =
    let a = c.args in
    let step = c.in-Some.ensures.steps in
    row-over c.loop-t.invariant _ _ step.left
    (λ e. c.if-ranks-base.false (low-rank c.loop-t.invariant step.lowest (ap (λ (n : ℕ). get_or a.ranks.now (a.s * n + c.in-Some.t) 0) c.width.ensures) ∙ e))

pub returns : goal.returns
returns c = row-end c.loop-t.invariant c.in-None.ensures.steps.0 c.pairs.ensures c.close_row-self.ensures
