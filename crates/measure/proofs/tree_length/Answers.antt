-- `measure::tree_length` meets its contract. Assumes nothing.
use mathlib.Core.Path.{sym}
use native.Mathlib.Omega.{arith}
use Rattle.measure.proofs.Measuring.{part-size, part-ordered, part-noted, part_hold, root_asked, tree-long, tree-measured}
use Rattle.measure.proofs.tree_length.Goals as goal

pub returns-in_err-n : goal.returns-in_err-n
returns-in_err-n c = rw c.from_residual.ensures (tree-long c.in_err-n.ensures)

pub slice_bounds-measure_all-end : goal.slice_bounds-measure_all-end
slice_bounds-measure_all-end c = c.in_ok-n.ensures.ordered.fits

pub slice_bounds-measure_all-end-2 : goal.slice_bounds-measure_all-end-2
slice_bounds-measure_all-end-2 c = sym (part-size c.in_ok-n.ensures.ordered)

pub measure_all-requires : goal.measure_all-requires
measure_all-requires c =
    let p = c.requires in (
      p.0.ranked,
      omega (arith, p.2, c.list.auto.counts),
      omega (arith, p.0.amounts_room, c.list.auto.amounts),
      part-ordered c.in_ok-n.ensures.ordered,
      part-noted c.in_ok-n.ensures.ordered c.in_ok-n.ensures.noted,
      omega (arith, p.0.notes, c.list.auto.choices),
    )

pub root_length-requires : goal.root_length-requires
root_length-requires c =
    let p = c.requires in
    root_asked c.measure_all.new.lengths p.0.ranked.loaded (omega (arith, p.2, c.measure_all.auto.lengths, c.list.auto.counts)) p.1

pub returns : goal.returns
returns c =
    tree-measured c.requires.0.ranked c.in_ok-n.ensures.ordered c.in_ok-n.ensures.noted (part_hold c.in_ok-n.ensures.ordered c.measure_all.ensures)
    c.args.s c.args.t c.requires.1 c.in_ok-n.ensures.found c.root_length.ensures
