-- `augment::shift` meets its contract: a move along what is left of the path makes a move along the whole. Assumes nothing.
use mathlib.Core.Path.{refl, ◌∙◌}
use native.Mathlib.Nat.{sub-zero}
use native.Mathlib.Omega.{arith}
use Rattle.matrix.proofs.FlowLaws.{same_list_refl, same_list_trans}
use Rattle.augment.proofs.StepLaws.{shifting_start, shifting_via, shifting_held, shifting_room, shifting_next, shifting_last, shifting_end}
use Rattle.augment.proofs.shift.Goals as goal

pub loop-init : goal.loop-init
loop-init c = let h = c.requires in record {
  shifting = rw sub-zero (shifting_start h.0 h.1);
  same_amounts = same_list_refl;
  same_senders = same_list_refl;
  same_supply = refl;
  same_demand = refl;
}

pub subtract-requires : goal.subtract-requires
subtract-requires c = let s = c.loop.invariant.shifting in (s.row, shifting_via s (omega arith), shifting_held s (omega arith))

pub add-requires : goal.add-requires
add-requires c = let s = c.loop.invariant.shifting in (s.row, s.column, shifting_room s c.subtract.ensures.taken.0 (omega arith))

pub loop-preserved : goal.loop-preserved
loop-preserved c =
    let v = c.loop.invariant in
    let s = c.subtract.ensures in
    let a = c.add.ensures in
    record {
      shifting = shifting_next v.shifting s.taken.0 (omega arith) s.taken.1 a.added.0 a.added.1;
      same_amounts = same_list_trans v.same_amounts (same_list_trans s.same_lists.0 a.same_lists.0);
      same_senders = same_list_trans v.same_senders (same_list_trans s.same_lists.1 a.same_lists.1);
      same_supply = a.same_left.0 ∙ s.same_left.0 ∙ v.same_supply;
      same_demand = a.same_left.1 ∙ s.same_left.1 ∙ v.same_demand;
    }

pub add-requires-2 : goal.add-requires-2
add-requires-2 c = let s = c.loop.invariant.shifting in (s.row, s.column, shifting_last s (omega arith))

pub returns-clause-moved : goal.returns-clause-moved
returns-clause-moved c = let a = c.add-2.ensures.added in shifting_end c.loop.invariant.shifting (omega arith) a.0 a.1
