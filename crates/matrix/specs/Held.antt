-- A flow of the code as a partial flow.
-- Assumes nothing.
use Rattle.matrix.specs.Flow.{Partial, partial}
use Rattle.matrix.specs.Lists.{SameList}
use Rattle.matrix.specs.declared.flow.Flow.{Flow}

-- by the lists that it holds
abbrev pub held : Flow → Partial
held f = partial f.amounts.now f.supply.now f.demand.now f.senders.now

-- it holds the same lists
pub record SameLists (f g : Flow) : Type 0 where
  pub amounts : SameList f.amounts g.amounts
  pub supply : SameList f.supply g.supply
  pub demand : SameList f.demand g.demand
  pub senders : SameList f.senders g.senders
