-- `links::link_loops` meets its contract. The loop's invariant: the rows passed have their own numbers.
-- Assumes nothing.
use mathlib.Core.Path.{◌≡◌}
use mathlib.Core.Bool.{true}
use Prim.Native.Nat.{ℕ, ◌<◌}
use Rattle.relation.specs.Related.{holds}
use Rattle.links.specs.Links.{RowsBelow, RowsGrown}
use Rattle.links.proofs.link_loops.Given as goal

abbrev pub invariant-loop-s : goal.invariant-loop-s
invariant-loop-s l =
    RowsGrown l.initial.before l.before × ((t : ℕ) → t < l.s → holds l.before t t ≡ true) × (RowsBelow l.n l.initial.before → RowsBelow l.n l.before)
