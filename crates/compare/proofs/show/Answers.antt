-- `compare::show` meets its contract: with the ranks filled in, what is shown of the pair is what the call does.
-- Assumes nothing.
use mathlib.Core.Path.{refl}
use native.Mathlib.Omega.{arith}
use Rattle.std.proofs.lemmas.Result.{err_from_is_err_and}
use Rattle.compare.proofs.Comparing.{ranked-after, lost-after, is-kept, is-fallen, kept-refused, flow-after, tree-after}
use Rattle.compare.proofs.show.Goals as goal

pub returns-in_err-a : goal.returns-in_err-a
returns-in_err-a c =
    let p = err_from_is_err_and c.from_residual.result c.from_residual.ensures.1 in
    rw (p.1, p.2) (flow-after c.requires c.in_err-a.ensures (kept-refused c.requires c.in_err-a.ensures))

pub returns-then-a-eq0 : goal.returns-then-a-eq0
returns-then-a-eq0 c =
    flow-after c.requires c.in_ok-a.ensures (is-kept c.requires c.in_ok-a.ensures c.if-a-eq0.true)

pub show_tree-requires : goal.show_tree-requires
show_tree-requires c =
    let p = c.requires in
    let r = c.in_ok-a.ensures in
    (ranked-after p r.ranks_are, lost-after p r c.if-a-eq0.false, omega arith)

pub returns : goal.returns
returns c =
    let r = c.in_ok-a.ensures in
    tree-after c.requires r refl (is-fallen c.requires r c.if-a-eq0.false) c.show_tree.ensures
