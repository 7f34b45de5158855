-- `write::tree` meets its contract. Assumes nothing.
use mathlib.Core.Path.{refl}
use native.Mathlib.Nat.{le_refl}
use native.Mathlib.Omega.{arith}
use Rattle.tree.proofs.Holes.{root_asked, root-short, set_room, root-step, root_kept, root-filled}
use Rattle.tree.proofs.write.tree.Goals as goal

pub pair_length-end-requires : goal.pair_length-end-requires
pair_length-end-requires c = root_asked c.requires

pub overflow_add-end : goal.overflow_add-end
overflow_add-end c = record { fits = omega (arith, root-short c.requires _ c.pair_length-end.ensures) }

pub slice_bounds-write_transition-end-2 : goal.slice_bounds-write_transition-end-2
slice_bounds-write_transition-end-2 c = set_room c.requires _ c.pair_length-end.ensures _

pub write_transition-requires : goal.write_transition-requires
write_transition-requires c =
    let g = c.requires in
    root-step g _ c.pair_length-end.ensures _ _ (le_refl _)

pub shape_of-buf : goal.shape_of-buf
shape_of-buf c =
    let g = c.requires in
    root_kept g _ c.pair_length-end.ensures _ c.write_transition.ensures c.write_transition.auto.buf

pub returns : goal.returns
returns c =
    let g = c.requires in
    root-filled g _ c.pair_length-end.ensures _ c.write_transition.ensures c.write_transition.auto.buf refl
