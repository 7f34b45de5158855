-- `relation::rows::clear` meets its contract. Assumes nothing.
use Prim.Native.Nat.{◌*◌}
use native.Mathlib.Omega.{arith}
use lib.ListN.{drop, length-take}
use borrow.Author.Rules.{rules}
use Rattle.set.specs.Words.{words}
use Rattle.relation.proofs.Clearing.{cleared}
use Rattle.relation.proofs.rows.clear.Goals as goal

pub returns : goal.returns
returns c =
    cleared (drop (c.args.n * words) c.args.rows.now) (c.fill.ensures.after (search rules)) (simp length-take (omega (arith, c.requires.1)))
