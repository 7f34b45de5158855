-- `search::search` meets its contract: level by level, and each level but the last reaches a row more. Assumes nothing.
use mathlib.Core.Path.{sym, subst}
use Prim.Native.Nat.{ℕ}
use native.Mathlib.Omega.{arith}
use Rattle.set.specs.Words.{mask}
use Rattle.set.proofs.Sets.{mask_lt, is_none, is_some}
use Rattle.search.specs.Links.{from, via}
use Rattle.search.proofs.SearchLaws.{Frontier, frontier_none, frontier_next, frontier_end, frontier_rows, unreached_most, unreached_falls}
use Rattle.search.proofs.search.Goals as goal

pub loop-ends-init : goal.loop-ends-init
loop-ends-init c =
    let a = c.args in
    let s = mask a.ends.short in
    let l = a.links.now in
    (subst (λ (n : ℕ). Frontier a.rel.now a.senders.now s (mask a.ends.free) (from l) (via l) s s n 0) (sym c.empty.ensures) frontier_none, omega (arith, unreached_most s))

pub hit-requires : goal.hit-requires
hit-requires c = frontier_rows c.requires c.loop-ends.invariant.0

pub level-next-requires : goal.level-next-requires
level-next-requires c =
    let h = c.requires in
    let f = c.loop-ends.invariant.0 in
    (h.columns, frontier_rows h f, f.closed)

pub overflow_add-depth : goal.overflow_add-depth
overflow_add-depth c = omega (arith, c.loop-ends.invariant.1)

pub loop-ends-smaller : goal.loop-ends-smaller
loop-ends-smaller c =
    let n = is_some {m = mask c.loop-ends.rows} c.is_empty.ensures c.loop-ends-test.true in
    omega (arith, n, unreached_falls _ _ (mask c.difference-rows.result) (mask_lt c.difference-rows.result) c.level-next.ensures.grows.kept c.difference-rows.ensures)

pub loop-ends-preserved : goal.loop-ends-preserved
loop-ends-preserved c = let v = c.loop-ends.invariant in
    (frontier_next _ _ _ v.0 c.in_default.ensures c.level-next.ensures c.difference-rows.ensures, omega (arith, v.1, loop-ends-smaller c))

pub returns : goal.returns
returns c = frontier_end (is_none c.is_empty.ensures c.loop-ends-test.false) c.loop-ends.invariant.0
