-- `decision::by_flow` meets its contract: there are rows enough for the targets. Assumes nothing.
use native.Mathlib.Omega.{arith}
use Rattle.decision.proofs.Fitting.{first_places}
use Rattle.decision.proofs.by_flow.Goals as goal

pub flow_within-requires-2 : goal.flow_within-requires-2
flow_within-requires-2 c = (c.requires, omega arith, (first_places c.requires).few)
