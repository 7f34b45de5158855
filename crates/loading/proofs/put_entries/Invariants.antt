-- `loading::put_entries` meets its contract: the entries below the loop's counter are put.
-- Assumes nothing.
use Prim.Native.Nat.{◌-◌, ◌≤◌}
use Rattle.simulation.specs.Support.{support_entries}
use Rattle.loading.specs.Fill.{entries_in, EntriesPut}
use Rattle.loading.proofs.put_entries.Given as goal

abbrev pub invariant-loop-k : goal.invariant-loop-k
invariant-loop-k l = (l.k ≤ l.size) × EntriesPut (support_entries (entries_in l.s l.p l.k)) l.initial.form l.n l.form l.next

abbrev pub decreases-loop-k : goal.decreases-loop-k
decreases-loop-k l = l.size - l.k
