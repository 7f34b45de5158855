-- `Flow::add` meets its contract. Assumes nothing.
use native.Mathlib.Omega.{arith}
use Rattle.matrix.proofs.MatrixLaws.{put_adds}
use Rattle.matrix.proofs.flow.Flow.add.Goals as goal

pub returns-clause-added : goal.returns-clause-added
returns-clause-added c = let e = c.put.ensures.put in (put_adds e.0 (omega arith), e.1)
