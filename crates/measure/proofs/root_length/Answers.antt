-- `measure::root_length` meets its contract. Assumes nothing.
use mathlib.Core.Path.{◌≡◌, ap}
use Prim.Native.Nat.{ℕ}
use native.Mathlib.Omega.{arith}
use lib.ListN.{get_or}
use Rattle.counting.specs.Pair.{number}
use Rattle.measure.proofs.root_length.Goals as goal
use Rattle.measure.proofs.root_length.Goals.{After-number}

-- the length that is read
is : (c : After-number) → let a = c.args in
    get_or a.lengths.now c.number.result 0 ≡ get_or a.lengths.now (number a.tables.now a.s a.t) 0
is c = ap (λ (n : ℕ). get_or c.args.lengths.now n 0) c.number.ensures.0

pub returns-then-len-ge-LONGEST : goal.returns-then-len-ge-LONGEST
returns-then-len-ge-LONGEST c = omega (arith, c.if-len-ge-LONGEST.true, is (goal.at.returns-then-len-ge-LONGEST c).After-number)

pub returns : goal.returns
returns c = omega (arith, c.if-len-ge-LONGEST.false, is (goal.at.returns c).After-number)
