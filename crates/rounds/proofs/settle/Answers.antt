-- `rounds::settle` meets its contract: the rows that are not left are settled. Assumes nothing.
use mathlib.Core.Path.{◌≡◌, sym, ap, ◌∙◌, subst}
use mathlib.Core.List.{List}
use Prim.Native.Nat.{ℕ, ◌*◌, ◌≤◌, ◌<◌}
use native.Mathlib.Nat.{mul-le-mul_right}
use native.Mathlib.Omega.{arith}
use lib.ListN.{get_or}
use Rattle.simulation.specs.Limits.{most_states}
use Rattle.word.specs.Mask.{member, except}
use Rattle.set.specs.Words.{mask}
use Rattle.set.proofs.Sets.{except_of}
use Rattle.set.proofs.Walks.{begun}
use Rattle.relation.specs.Rows.{row_of, height}
use Rattle.rounds.specs.Rounds.{marked, Settled}
use Rattle.rounds.proofs.Settling.{passed, settled_none, settled_next, settled_all}
use Rattle.rounds.proofs.settle.Goals as goal
use Rattle.rounds.proofs.settle.Goals.{In-Some}

pub loop-s-init : goal.loop-s-init
loop-s-init c =
    let a = c.args in
    let lost = a.marks.now.lost.now in
    begun (λ n. Settled a.q a.k (passed lost n) a.rows.now a.rows.now a.ranks.now a.ranks.now) c.into_iter-s-iterator.ensures.into_iter_gives
    (settled_none lost (mask a.fell) c.requires.2)

pub overflow_mul-s : goal.overflow_mul-s
overflow_mul-s c =
    let m : c.in-Some.s * c.args.q ≤ most_states * c.args.q = mul-le-mul_right c.args.q (omega (arith, c.in-Some.ensures.steps.state)) in
    omega (arith, m, c.requires.1)

pub mark_row-requires : goal.mark_row-requires
mark_row-requires c =
    λ t m. omega (arith, (c.requires.3 c.in-Some.s t (ap (λ (n : ℕ). member n t) (sym c.get-row.ensures) ∙ m)).1)

-- the row of the lowest member
row_room : (c : In-Some) → c.in-Some.s < height c.loop-s.rows
row_room c = omega (arith, c.in-Some.ensures.steps.state, c.requires.0)

pub get-requires : goal.get-requires
get-requires c = row_room (goal.at.get-requires c).In-Some

pub put-requires : goal.put-requires
put-requires c = row_room (goal.at.put-requires c).In-Some

pub loop-s-preserved : goal.loop-s-preserved
loop-s-preserved c =
    let x = c.difference in
    let a = c.args in
    let i = c.loop-s in
    let s = c.in-Some.s in
    let step = c.in-Some.ensures.steps in
    let lost = a.marks.now.lost.now in
    let ranks = c.mark_row.new.ranks in
    let row = c.get-row.ensures in
    let e = except_of c.get.ensures (member (mask c.get-row.result)) x.ensures ∙ ap (λ (n : ℕ). except (member (row_of i.rows s)) (member n)) row in
    let n = subst (λ (n : ℕ). (i' : ℕ) → get_or ranks i' 0 ≡ marked (member n) (s * a.q) a.k i.ranks i') row c.mark_row.ensures in
    subst (λ (l : List ℕ). Settled a.q a.k (passed lost (mask c.next.new.self.left)) a.rows.now l a.ranks.now ranks) (sym c.put.ensures)
    (settled_next lost (mask i.s-iterator.left) _ ranks x.result (row_room (goal.at.loop-s-preserved c).In-Some) step.lowest.here
    step.left (λ t y. (c.requires.3 s t y).0) n e i.invariant)

pub returns : goal.returns
returns c = settled_all c.args.marks.now.lost.now _ c.in-None.ensures.steps.0 c.loop-s.invariant
