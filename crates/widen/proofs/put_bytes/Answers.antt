-- `widen::put_bytes` meets its contract: a piece for each byte.
-- Assumes nothing.
use mathlib.Core.Path.{ap}
use native.Mathlib.Omega.{arith}
use lib.ListN.{length}
use Rattle.simulation.proofs.Finite.Lists.{below_length}
use Rattle.layout.specs.Bytes.{byte}
use Rattle.buffer.proofs.Buffer.{store}
use Rattle.widen.proofs.Pieces.{storing_start, storing_next, storing_on, storing_end, run-pieces}
use Rattle.widen.proofs.put_bytes.Goals as goal

pub loop-i-init : goal.loop-i-init
loop-i-init c =
    let a = c.args in
    storing_start (omega (arith, ap length (run-pieces a.s.now a.from a.n), below_length (byte a.s.now) a.from a.n))

pub loop-i-preserved : goal.loop-i-preserved
loop-i-preserved c =
    let lt = c.loop-i-test.true in
    storing_on lt (omega arith) (store (storing_next c.loop-i.invariant lt))

pub returns : goal.returns
returns c =
    let s = c.args in
    storing_end c.loop-i.invariant c.loop-i-test.false (omega arith) (run-pieces s.s.now s.from s.n)
