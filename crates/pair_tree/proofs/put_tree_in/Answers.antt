-- `pair_tree::put_tree_in` meets its contract.
-- Assumes nothing.
use mathlib.Core.Path.{refl}
use native.Mathlib.Omega.{arith}
use Rattle.pair_tree.proofs.Putting.{tree-long, tree-short, tree-written}
use Rattle.pair_tree.proofs.put_tree_in.Goals as goal

pub returns-in_default : goal.returns-in_default
returns-in_default c = tree-long _ _ _ _ c.requires.1.right c.in_default.ensures.length

pub returns-then-buf-len : goal.returns-then-buf-len
returns-then-buf-len c =
    let e = c.in-Some.ensures.length in
    tree-short _ _ _ _ c.requires.1.right e.0 e.1 c.if-buf-len.true

pub tree-requires : goal.tree-requires
tree-requires c =
    let p = c.requires in
    let e = c.in-Some.ensures in
    record {
      given = record {
        ranked = p.0;
        notes = omega (arith, p.3);
        enough = omega (arith, p.4);
        amounts_room = omega (arith, p.2);
      };
      measured = e.measured refl;
      short = omega (arith, e.length.0, e.length.1);
      room = omega (arith, e.length.0, e.length.1, c.if-buf-len.false);
    }

pub returns : goal.returns
returns c =
    let e = c.in-Some.ensures.length in
    tree-written _ _ _ _ c.requires.1.right e.0 e.1 c.if-buf-len.false c.tree.ensures.bytes
