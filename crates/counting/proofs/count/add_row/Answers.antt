-- `count::add_row` meets its contract: the members passed are counted. Assumes nothing.
use Rattle.counting.proofs.Counting.{row_turn, counting_end}
use Rattle.counting.proofs.count.add_row.Goals as goal

pub loop-t-preserved : goal.loop-t-preserved
loop-t-preserved c = let s = c.in-Some.ensures.steps in row_turn c.requires c.loop-t.invariant s.lowest s.left

pub returns : goal.returns
returns c = counting_end c.loop-t.invariant c.in-None.ensures.steps.0
