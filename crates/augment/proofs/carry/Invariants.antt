-- `augment::carry` meets its contract: root and least amount of what is left of the path are those of the whole. Assumes nothing.
use Prim.Native.Nat.{◌-◌}
use Rattle.search.specs.Links.{from, via}
use Rattle.augment.proofs.StepLaws.{Carrying}
use Rattle.augment.proofs.carry.Given as goal

abbrev pub invariant-loop : goal.invariant-loop
invariant-loop l = Carrying (from l.links) (via l.links) l.flow.amounts.now l.depth l.r l.most (l.depth - l.counter) l.row l.amount
