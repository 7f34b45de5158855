-- `augment::shift` meets its contract: a move along what is left of the path makes a move along the whole. Assumes nothing.
use mathlib.Core.Path.{◌≡◌}
use Prim.Native.Nat.{◌-◌}
use Rattle.matrix.specs.Lists.{SameList}
use Rattle.search.specs.Links.{from, via}
use Rattle.augment.proofs.StepLaws.{Shifting}
use Rattle.augment.proofs.shift.Given as goal

abbrev pub invariant-loop : goal.invariant-loop
invariant-loop l =
    let f = l.initial.flow in
    record {
      shifting : Shifting (from l.links) (via l.links) l.d l.depth l.r l.c f.amounts.now f.senders.now (l.depth - l.counter) l.i l.j l.flow.amounts.now l.flow.senders.now;
      same_amounts : SameList f.amounts l.flow.amounts;
      same_senders : SameList f.senders l.flow.senders;
      same_supply : l.flow.supply ≡ f.supply;
      same_demand : l.flow.demand ≡ f.demand;
    }
