-- `search::search` meets its contract: level by level, and each level but the last reaches a row more. Assumes nothing.
use Prim.Native.Nat.{◌+◌, ◌≤◌, min}
use Rattle.simulation.specs.Limits.{most_states}
use Rattle.set.specs.Words.{mask}
use Rattle.search.specs.Links.{from, via}
use Rattle.search.proofs.SearchLaws.{Frontier, unreached}
use Rattle.search.proofs.search.Given as goal

abbrev pub invariant-loop-ends : goal.invariant-loop-ends
invariant-loop-ends l =
    Frontier l.rel l.senders (mask l.ends.short) (mask l.ends.free) (from l.links) (via l.links) (mask l.covered.reached) (mask l.rows) (mask l.covered.seen) l.depth
    × (l.depth + (unreached (mask l.covered.reached) + min 1 (mask l.rows)) ≤ most_states + 1)

abbrev pub decreases-loop-ends : goal.decreases-loop-ends
decreases-loop-ends l = unreached (mask l.covered.reached) + min 1 (mask l.rows)
