-- `passing::add_children` meets its contract: the pairs of the targets passed are added. Assumes nothing.
use mathlib.Core.Path.{ap₂, ◌∙◌}
use Prim.Native.Nat.{ℕ}
use Rattle.word.specs.Mask.{member, either}
use Rattle.passing.proofs.Listing.{children_start, target_row, set-row, children_next, children_end}
use Rattle.passing.proofs.add_children.Goals as goal

pub loop-i-init : goal.loop-i-init
loop-i-init c = let a = c.args in children_start a.targets.now a.sets.now a.todo.now _

pub get-requires : goal.get-requires
get-requires c = set-row c.requires c.loop-i.invariant c.loop-i-test.true

pub get-requires-in-loop-i : goal.get-requires-in-loop-i
get-requires-in-loop-i c = target_row c.requires c.loop-i.invariant c.loop-i-test.true

pub put-requires : goal.put-requires
put-requires c = target_row c.requires c.loop-i.invariant c.loop-i-test.true

pub loop-i-preserved : goal.loop-i-preserved
loop-i-preserved c =
    let e = c.union-joined.ensures ∙ ap₂ (λ (m n : ℕ). either (member m) (member n)) c.get.ensures c.get-in-loop-i.ensures in
    children_next c.requires c.loop-i.invariant c.loop-i-test.true c.union-joined.result c.put.ensures e c.insert-all.ensures

pub returns : goal.returns
returns c = children_end c.loop-i.invariant c.loop-i-test.false
