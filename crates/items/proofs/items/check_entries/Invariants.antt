-- `items::items::check_entries` meets its contract. The loop's invariant: the transitions below j pass, and start is the number of their entries.
-- Assumes nothing.
use mathlib.Core.Path.{◌≡◌}
use Rattle.simulation.specs.Sum.{sum}
use Rattle.layout.specs.Bytes.{size_from, run_refusal}
use Rattle.layout.proofs.Laws.{ItemsPass}
use Rattle.items.proofs.items.check_entries.Given as goal

abbrev pub invariant-loop-j : goal.invariant-loop-j
invariant-loop-j l =
    ItemsPass l.m (run_refusal l.s.width l.s.bytes.now l.n l.sizes l.at) l.j × (l.start ≡ sum l.j (size_from l.s.width l.s.bytes.now l.sizes))
