-- `cut::short_rows` meets its contract: the rows passed are gathered. Assumes nothing.
use Rattle.cut.proofs.QuickLaws.{lacking_start, lacking_is}
use native.Mathlib.Omega.{arith}
use Rattle.cut.proofs.short_rows.Goals as goal

pub loop-i-init : goal.loop-i-init
loop-i-init c = lacking_start _ _ c.empty.ensures c.empty-2.ensures c.empty-3.ensures
