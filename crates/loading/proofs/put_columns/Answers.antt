-- `loading::put_columns` meets its contract: the layout has the counts and places of the bytes, and the parts are written in ascending order.
-- Assumes nothing.
use Rattle.std.proofs.Common.{rules}
use Prim.Native.Nat.{◌+◌, ◌*◌, ◌<◌}
use native.Mathlib.Omega.{arith}
use lib.ListN.{length}
use Rattle.layout.specs.Bytes.{byte, half}
use Rattle.loading.proofs.FillLaws.{parts_of, filled_as, columns_by}
use Rattle.loading.proofs.put_columns.Goals as goal

pub overflow_add-sizes_at : goal.overflow_add-sizes_at
overflow_add-sizes_at c = let p = parts_of c.requires in omega arith

pub put_column-requires-clause-room : goal.put_column-requires-clause-room
put_column-requires-clause-room c = let p = parts_of c.requires in omega arith

pub put_column-requires-clause-callable : goal.put_column-requires-clause-callable
put_column-requires-clause-callable c =
    let p = parts_of c.requires in
    λ i h. let b : c.args.t.transitions.at + 2 + 3 * i < length c.args.s.now = omega arith in search rules

pub put_column-requires-2-clause-room : goal.put_column-requires-2-clause-room
put_column-requires-2-clause-room c =
    let p = parts_of c.requires in
    omega (arith, c.put_column.ensures.long)

pub put_column-requires-2-clause-callable : goal.put_column-requires-2-clause-callable
put_column-requires-2-clause-callable c =
    let p = parts_of c.requires in
    λ i h. let b : c.args.t.transitions.at + 3 * i + 1 < length c.args.s.now = omega arith in search rules

pub put_column-requires-3-clause-room : goal.put_column-requires-3-clause-room
put_column-requires-3-clause-room c =
    let p = parts_of c.requires in
    omega (arith, c.put_column.ensures.long, c.put_column-2.ensures.long)

pub put_column-requires-3-clause-callable : goal.put_column-requires-3-clause-callable
put_column-requires-3-clause-callable c =
    let p = parts_of c.requires in
    λ i h. let b : 2 + 2 * i + 1 < length c.args.s.now = omega arith in search rules

pub returns : goal.returns
returns c =
    let a = c.args in
    columns_by _ _ (parts_of c.requires)
    (filled_as (λ j. byte a.s.now (a.t.transitions.at + 2 + 3 * j)) c.put_column.ensures (λ i v l q. grind arith))
    (filled_as (λ j. half a.s.now (a.t.transitions.at + 3 * j)) c.put_column-2.ensures (λ i v l q. grind arith))
    (filled_as (λ i. half a.s.now (2 + 2 * i)) c.put_column-3.ensures (λ i v l q. grind arith))
