-- `pair_tree::put_tree` meets its contract: there is room for all pairs.
-- Assumes nothing.
use native.Mathlib.Omega.{arith}
use Rattle.form.proofs.Contract.{contract-pairs}
use Rattle.pair_tree.proofs.put_tree.Goals as goal

pub put_tree_of-requires : goal.put_tree_of-requires
put_tree_of-requires c =
    let p = c.requires in
    (p.0, p.1, p.2, omega (arith, c.if-pairs-le-FEW_PAIRS.true, c.pairs.ensures), omega arith)

pub put_tree_of-requires-2 : goal.put_tree_of-requires-2
put_tree_of-requires-2 c =
    let p = c.requires in
    (p.0, p.1, p.2, omega (arith, contract-pairs _ p.0.loaded), omega arith)
