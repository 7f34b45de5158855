-- `decision::flow_within` meets its contract. Assumes nothing.
use native.Mathlib.Omega.{arith}
use Rattle.decision.proofs.flow_within.Goals as goal

pub whole_as_slice-flow_over : goal.whole_as_slice-flow_over
whole_as_slice-flow_over g c = omega (arith, c.requires.1)
