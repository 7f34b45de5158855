-- `count::add_counts` meets its contract. Assumes nothing.
use Rattle.counting.proofs.Counting.{counts_start, child-within, counts-next}
use Rattle.counting.proofs.count.add_counts.Goals as goal

pub loop-i-init : goal.loop-i-init
loop-i-init c = let a = c.args in counts_start a.targets.now a.sets.now a.width a.c a.counts.now

pub add_row-requires : goal.add_row-requires
add_row-requires c = child-within c.requires c.loop-i.invariant c.loop-i-test.true _ c.get.ensures

pub loop-i-preserved : goal.loop-i-preserved
loop-i-preserved c =
    counts-next c.requires c.loop-i.invariant c.loop-i-test.true c.get.ensures c.add_row.auto.counts c.add_row.ensures
