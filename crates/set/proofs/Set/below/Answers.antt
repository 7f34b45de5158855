-- `set::Set::below` meets its contract. Assumes nothing.
use native.Mathlib.Omega.{arith}
use Rattle.set.proofs.Sets.{low_below, high-below}
use Rattle.set.proofs.Set.below.Goals as goal

pub returns-then-n-lt-BITS : goal.returns-then-n-lt-BITS
returns-then-n-lt-BITS c = low_below c.args.n c.below.result (omega arith) c.below.ensures

pub returns : goal.returns
returns c = high-below c.args.n c.below-2.result c.below-3.result (omega arith) (omega arith) c.below-2.ensures c.below-3.ensures
