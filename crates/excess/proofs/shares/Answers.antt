-- `excess::shares` meets its contract: the weights passed are scaled. Assumes nothing.
use native.Mathlib.Omega.{arith}
use Rattle.excess.proofs.Parts.{share_room, scaled_next}
use Rattle.excess.proofs.shares.Goals as goal

pub overflow_mul-shares : goal.overflow_mul-shares
overflow_mul-shares c = omega (arith, share_room c.args.t c.args.weights.now c.requires.1 c.loop-i.i)

pub loop-i-preserved : goal.loop-i-preserved
loop-i-preserved c = scaled_next (omega arith) c.loop-i.invariant
