-- `transport::improve` meets its contract: each turn lacks less and is one path more. Assumes nothing.
use lib.ListN.{length}
use Rattle.set.specs.Words.{mask}
use Rattle.matrix.specs.Flow.{missing}
use Rattle.matrix.specs.Held.{held, SameLists}
use Rattle.transport.proofs.Growing.{Growing}
use Rattle.transport.proofs.improve.Given as goal

abbrev pub invariant-loop-path : goal.invariant-loop-path
invariant-loop-path l = Growing l.rel (held l.initial.flow) (held l.flow) l.paths (mask l.ends.short) (mask l.ends.free) × SameLists l.initial.flow l.flow

-- a demand's list keeps its length, so the columns at the start are counted
abbrev pub decreases-loop-path : goal.decreases-loop-path
decreases-loop-path l = missing (length l.initial.flow.demand.now) l.flow.demand.now
