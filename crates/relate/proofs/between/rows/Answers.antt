-- `between::rows` meets its contract. The loop's invariant: the rows passed are written. Assumes nothing.
use mathlib.Core.Path.{subst, sym}
use Prim.Native.Nat.{◌+◌}
use native.Mathlib.Omega.{arith}
use Rattle.relate.proofs.Laws.{Done, done_next}
use Rattle.relate.proofs.between.rows.Goals as goal

pub loop-i-preserved : goal.loop-i-preserved
loop-i-preserved c = let a = c.args in (
  omega arith,
  subst (Done a.ranks.now a.width a.r a.mt.now a.nt.now a.rel.now (c.loop-i.i + 1)) (sym c.put.ensures)
      (done_next a.ranks.now a.width a.r a.mt.now a.nt.now a.rel.now c.loop-i.i c.row.result c.loop-i.rel (omega arith) c.loop-i.invariant.1 c.row.ensures),
)
