-- `bounds::meets` meets its contract: a target with nothing near is the witness. Assumes nothing.
use Prim.Native.Nat.{◌<◌}
use native.Mathlib.Omega.{arith}
use borrow.Author.Rules.{rules}
use Rattle.std.proofs.lemmas.Iterator.{YieldsList-from_slice}
use Rattle.std.proofs.lemmas.Iterator.Adapters.{serves_from_places}
use Rattle.std.proofs.lemmas.Grind.{get_or_default_zero}
use Rattle.relation.specs.Rows.{height}
use Rattle.bounds.proofs.meets.Goals as goal

pub all-requires-clause-callable : goal.all-requires-clause-callable
all-requires-clause-callable c =
    serves_from_places (YieldsList-from_slice c.args.from.now cc) (λ x q k. search rules)
    (λ x k lt e.
    let state : x.now < height c.args.rows.now = omega (arith, e, get_or_default_zero c.args.from.now k x.now lt, c.requires.below k lt) in search rules)
