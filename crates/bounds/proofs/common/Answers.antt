-- `bounds::common` meets its contract: `every` has what the targets passed are all related to. Assumes nothing.
use native.Mathlib.Omega.{arith}
use Rattle.bounds.proofs.Covering.{common_end}
use Rattle.bounds.proofs.common.Goals as goal

pub returns : goal.returns
returns c =
    let a = c.args in
    common_end a.rows.now a.from.now (omega arith) c.loop-s.invariant.0 c.loop-s.invariant.1
