-- `items::items::check_distribution` meets its contract. The loop's invariant: the entries below k pass, and total is the sum of their weights.
-- Assumes nothing.
use mathlib.Core.Path.{◌≡◌}
use Prim.Native.Nat.{◌≤◌}
use Rattle.simulation.specs.Limits.{most_total}
use Rattle.layout.specs.Bytes.{total_from, entry_refusal}
use Rattle.layout.proofs.Laws.{ItemsPass}
use Rattle.items.proofs.items.check_distribution.Given as goal

abbrev pub invariant-loop-k : goal.invariant-loop-k
invariant-loop-k l = record {
  pass : ItemsPass l.size (entry_refusal l.s l.n l.at) l.k;
  sum : l.total ≡ total_from l.s l.at l.k;
  small : l.total ≤ most_total;
}
