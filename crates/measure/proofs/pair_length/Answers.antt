-- `measure::pair_length` meets its contract. Assumes nothing.
use mathlib.Core.Path.{ap}
use Prim.Native.Nat.{ℕ}
use lib.ListN.{get_or}
use Rattle.measure.proofs.pair_length.Goals as goal

pub returns : goal.returns
returns c = ap (λ (n : ℕ). get_or c.args.lengths.now n 0) c.number.ensures.0
