-- `links::link_targets` meets its contract: the targets passed are linked. Assumes nothing.
use mathlib.Core.Path.{◌≡◌}
use mathlib.Core.Bool.{true}
use Prim.Native.Nat.{ℕ, ◌<◌}
use lib.ListN.{get_or}
use Rattle.relation.specs.Related.{holds}
use Rattle.links.specs.Links.{Joins}
use Rattle.links.proofs.link_targets.Given as goal

abbrev pub invariant-loop-target : goal.invariant-loop-target
invariant-loop-target l =
    Joins l.s l.initial.before l.before × ((k : ℕ) → k < l.target-index → holds l.before (get_or l.to k 0) l.s ≡ true)
