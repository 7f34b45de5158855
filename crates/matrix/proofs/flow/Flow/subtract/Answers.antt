-- `Flow::subtract` meets its contract. Assumes nothing.
use native.Mathlib.Omega.{arith}
use Rattle.matrix.proofs.MatrixLaws.{put_takes}
use Rattle.matrix.proofs.flow.Flow.subtract.Goals as goal

pub returns-clause-taken : goal.returns-clause-taken
returns-clause-taken c = let e = c.put.ensures.put in (put_takes e.0 (omega arith), e.1)
