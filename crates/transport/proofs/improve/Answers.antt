-- `transport::improve` meets its contract: each turn lacks less and is one path more. Assumes nothing.
use Rattle.set.specs.Words.{mask}
use Rattle.matrix.proofs.FlowLaws.{same_lists_refl, same_lists_trans}
use Rattle.transport.proofs.Growing.{growing_none, search_ready, push_ready, less, counts, growing_next, grown}
use Rattle.transport.proofs.improve.Goals as goal

pub loop-path-init : goal.loop-path-init
loop-path-init c = let h = c.requires in (growing_none h.0 (record { rows = c.short-short.ensures; columns = h.1 }), same_lists_refl)

pub search-requires : goal.search-requires
search-requires c = rw c.senders.ensures (search_ready c.loop-path.invariant.0)

pub push-ends-requires : goal.push-ends-requires
push-ends-requires c = push_ready c.loop-path.invariant.0 _ (record { reached = _; reaches = rw c.senders.ensures at c.in-Ok.ensures })

pub overflow_add-paths : goal.overflow_add-paths
overflow_add-paths c = record { fits = counts c.loop-path.invariant.0 c.push-ends.ensures.pushed c.requires.2 }

pub loop-path-smaller : goal.loop-path-smaller
loop-path-smaller c = less c.loop-path.invariant.0 c.push-ends.ensures.pushed

pub loop-path-preserved : goal.loop-path-preserved
loop-path-preserved c = let e = c.push-ends.ensures in (growing_next c.loop-path.invariant.0 e.pushed, same_lists_trans c.loop-path.invariant.1 e.same_lists)

pub returns-in-Err-clause-grown : goal.returns-in-Err-clause-grown
returns-in-Err-clause-grown c = grown c.loop-path.invariant.0 (mask c.in-Err.cut) (rw c.senders.ensures at c.in-Err.ensures)
