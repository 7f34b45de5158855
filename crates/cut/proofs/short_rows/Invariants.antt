-- `cut::short_rows` meets its contract: the rows passed are gathered. Assumes nothing.
use Rattle.set.specs.Words.{mask}
use Rattle.cut.specs.Quick.{Lacking}
use Rattle.cut.proofs.short_rows.Given as goal

abbrev pub invariant-loop-i : goal.invariant-loop-i
invariant-loop-i l = Lacking l.rel l.i l.q (mask l.s.rows) (mask l.s.has) (mask l.s.lacks)
