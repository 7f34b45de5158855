-- `excess::carries` meets its contract. Assumes nothing.
use Prim.Native.Nat.{◌<◌, ◌^◌}
use native.Mathlib.Omega.{arith}
use lib.ListN.{get_or}
use Rattle.simulation.specs.Sum.{sum}
use Rattle.excess.specs.Excess.{few}
use Rattle.excess.proofs.Parts.{all-parts, carries_is}
use Rattle.excess.proofs.carries.Goals as goal

pub at_most-requires : goal.at_most-requires
at_most-requires c =
    let fits : sum few (λ i. get_or c.shares.result i 0) < 2 ^ 32 = omega (arith, all-parts c.args.t c.args.weights.now c.requires.2 c.shares.result c.shares.ensures.1, c.requires.3) in
    (omega arith, c.shares.ensures.0, fits)

pub returns : goal.returns
returns c = carries_is c.args.t c.args.weights.now c.requires.2 c.shares.result c.shares.ensures.1 c.add_subsets.ensures c.at_most.ensures
