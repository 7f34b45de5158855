-- `begin` meets its contract. Assumes nothing.
use mathlib.Core.Path.{refl}
use Rattle.greedy.proofs.StartLaws.{supplies-is}
use Rattle.greedy.proofs.begin.Goals as goal

pub returns-clause-begun : goal.returns-clause-begun
returns-clause-begun c =
    record {
      cleared = c.clear.ensures;
      supplies = supplies-is c.total_weight.ensures refl c.supplies.ensures;
      demands = supplies-is c.total_weight-2.ensures refl c.supplies-2.ensures;
    }
