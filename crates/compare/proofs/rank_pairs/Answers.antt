-- `compare::rank_pairs` meets its contract.
-- Assumes nothing.
use Prim.Native.Nat.{◌+◌, ◌*◌, ◌<◌}
use native.Mathlib.Omega.{arith}
use Rattle.simulation.specs.Limits.{most_pairs}
use Rattle.compare.proofs.Comparing.{all_open, place-small, place_after, kept-after, flow-ranked, other-ranked}
use Rattle.compare.proofs.rank_pairs.Goals as goal
use Rattle.compare.proofs.rank_pairs.Goals.{After-width}

pub rank-r-requires : goal.rank-r-requires
rank-r-requires c =
    let p = c.requires in
    record {
      loaded = p.0.loaded;
      ranks_room = p.0.ranks_room;
      rows_open = all_open _ c.full-all.ensures (omega arith);
      amounts_room = p.1;
    }

-- the place of the pair
small : (d : After-width) → let a = d.args in a.s * d.width.result + a.t < most_pairs
small d = place-small d.requires.0 d.width.ensures

pub overflow_mul-place : goal.overflow_mul-place
overflow_mul-place c = omega (arith, small c)

pub overflow_add-place : goal.overflow_add-place
overflow_add-place c = omega (arith, small c)

pub found-a-requires : goal.found-a-requires
found-a-requires c =
    let h = place_after c.requires.0 c.rank-r.ensures.ranks_are c.width.ensures in
    (h, omega (arith, h))

pub offset_bounds-ranks-place : goal.offset_bounds-ranks-place
offset_bounds-ranks-place c = omega (arith, small (goal.at.offset_bounds-ranks-place c).After-width)

pub bounds-ranks-place : goal.bounds-ranks-place
bounds-ranks-place c =
    place_after c.requires.0 c.rank-r.ensures.ranks_are c.width.ensures

pub show_flow-requires : goal.show_flow-requires
show_flow-requires c =
    let p = c.requires in
    kept-after p.0 c.rank-r.ensures c.width.ensures
    (omega arith) (omega (arith, p.1, c.rank-r.auto.amounts)) c.if-ranks-place-eq0.true

pub returns-then-ranks-place-eq0 : goal.returns-then-ranks-place-eq0
returns-then-ranks-place-eq0 c =
    flow-ranked c.requires.0 c.rank-r.ensures c.width.ensures
    c.found-a.ensures c.if-ranks-place-eq0.true c.show_flow.ensures

pub returns : goal.returns
returns c =
    other-ranked c.requires.0 c.rank-r.ensures c.width.ensures c.found-a.ensures c.if-ranks-place-eq0.false
