-- `augment::carry` meets its contract: root and least amount of what is left of the path are those of the whole. Assumes nothing.
use native.Mathlib.Nat.{sub-zero}
use native.Mathlib.Omega.{arith}
use borrow.Author.Rules.{rules}
use Rattle.augment.proofs.StepLaws.{carrying_start, carrying_column, carrying_next, carrying_end}
use Rattle.augment.proofs.carry.Goals as goal

pub loop-init : goal.loop-init
loop-init c = rw sub-zero (carrying_start c.requires)

pub get-requires : goal.get-requires
get-requires c = let s = c.loop.invariant in (s.row, carrying_column s (omega arith))

pub loop-preserved : goal.loop-preserved
loop-preserved c = carrying_next c.loop.invariant (omega arith) (search rules)

pub returns : goal.returns
returns c = carrying_end c.loop.invariant (omega arith)
