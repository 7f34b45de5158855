-- `augment::push` meets its contract: what is moved is what the path can carry. Assumes nothing.
use mathlib.Core.Path.{ap}
use mathlib.Core.List.{List}
use Prim.Native.Nat.{ℕ, ◌<◌}
use Rattle.std.specs.Borrow.{MutBor}
use native.Mathlib.Omega.{arith}
use borrow.Author.Rules.{rules}
use lib.ListN.{length}
use Rattle.set.specs.Words.{mask}
use Rattle.matrix.specs.Held.{held}
use Rattle.search.specs.Links.{from, via}
use Rattle.augment.proofs.PushLaws.{Column, Load, path_row, path_safe, path_root, path_some, path_column, path_load, load_movable, pushed}
use Rattle.augment.proofs.push.Goals as goal
use Rattle.augment.proofs.push.Goals.{After-carry-c, After-lowest-j, After-min-d, Start}

-- the column that was chosen
column : (c : After-lowest-j) → Column c.args.rel.now (held c.args.flow.now) (mask c.args.ends.free) c.args.path.row c.lowest-j.result
column c =
    let h = c.requires in
    path_column h.0 h.1 h.2.reaches c.get.ensures c.intersection.ensures c.lowest-j.ensures.1

root-row : (c : After-carry-c) → c.carry-c.result.row < length c.args.flow.now.supply.now
root-row c = let h = c.requires in path_root h.0 h.1 h.2.reaches c.carry-c.ensures.0

-- what is moved
load : (c : After-min-d) → let a = c.args in
    Load a.rel.now (held a.flow.now) (mask a.ends.short) (mask a.ends.free) (from a.links.now) (via a.links.now)
    c.requires.2.reached a.path.row a.path.depth c.lowest-j.result c.carry-c.result.row c.min-d.result
load c =
    let h = c.requires in
    path_load h.0 h.1 h.2.reaches (path_column h.0 h.1 h.2.reaches c.get.ensures c.intersection.ensures c.lowest-j.ensures.1) c.carry-c.ensures.0 c.carry-c.ensures.1 (search rules)

pub get-requires : goal.get-requires
get-requires c = let h = c.requires in omega (arith, path_row h.0 h.1 h.2.reaches)

pub lowest-j-requires : goal.lowest-j-requires
lowest-j-requires c =
    let h = c.requires in
    path_some h.0 h.1 h.2.reaches c.get.ensures c.intersection.ensures

pub carry-c-requires : goal.carry-c-requires
carry-c-requires c = let h = c.requires in path_safe h.0 h.1 h.2.reaches

pub shift-requires : goal.shift-requires
shift-requires c = let l = load (goal.at.shift-requires c).After-min-d in (path_safe l.flow l.ends l.found, load_movable l)

pub offset_bounds-flow-i : goal.offset_bounds-flow-i
offset_bounds-flow-i c = omega (arith, root-row (goal.at.offset_bounds-flow-i c).After-carry-c)

pub bounds-flow-i : goal.bounds-flow-i
bounds-flow-i c = root-row (goal.at.bounds-flow-i c).After-carry-c

pub offset_bounds-flow-i-2 : goal.offset_bounds-flow-i-2
offset_bounds-flow-i-2 c = let l = load (goal.at.offset_bounds-flow-i-2 c).After-min-d in omega arith

pub bounds-flow-i-2 : goal.bounds-flow-i-2
bounds-flow-i-2 c =
    let l = load (goal.at.bounds-flow-i-2 c).After-min-d in
    omega (arith, l.row, c.deduct.ensures.same_lists.0.same_length, ap (λ (x : MutBor (List ℕ)). length x.now) c.shift.ensures.same_left.0)

pub marked-requires : goal.marked-requires
marked-requires c = let l = load (goal.at.marked-requires c).After-min-d in omega arith

pub deduct-requires : goal.deduct-requires
deduct-requires c =
    let l = load (goal.at.deduct-requires c).After-min-d in
    let s = c.shift.ensures.same_left in
    rw (s.0, s.1) (l.row, l.column.below, l.within-row, l.within-column)

pub returns-clause-pushed : goal.returns-clause-pushed
returns-clause-pushed c =
    let s = c.shift.ensures in
    let e = c.deduct.ensures in
    let sent = rw s.same_left.0 at e.deducted.0 in
    let taken = rw s.same_left.1 at e.deducted.1 in
    let same_supply = rw s.same_left.0 at e.same_lists.0.same_length in
    let same_demand = rw s.same_left.1 at e.same_lists.1.same_length in
    rw (e.same_matrix.0, e.same_matrix.1) (pushed (load (goal.at.returns-clause-pushed c).After-min-d) s.moved sent taken
    s.same_lists.0.same_length same_supply same_demand s.same_lists.1.same_length c.marked.ensures c.marked-2.ensures)
