-- `pair_tree::tree_length` meets its contract: there is room for all pairs.
-- Assumes nothing.
use native.Mathlib.Omega.{arith}
use Rattle.form.proofs.Contract.{contract-pairs}
use Rattle.pair_tree.proofs.tree_length.Goals as goal

pub tree_length-requires : goal.tree_length-requires
tree_length-requires c =
    let p = c.requires in (
      record { ranked = p.0; room = omega (arith, c.pairs.ensures, c.if-pairs-le-SHORT_ORDER.true); notes = p.3; amounts_room = p.2 },
      p.1,
      p.4,
    )

pub tree_length-requires-2 : goal.tree_length-requires-2
tree_length-requires-2 c =
    let p = c.requires in
    (record { ranked = p.0; room = omega (arith, contract-pairs _ p.0.loaded); notes = p.3; amounts_room = p.2 }, p.1, p.4)
