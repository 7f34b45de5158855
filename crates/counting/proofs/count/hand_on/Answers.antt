-- `count::hand_on` meets its contract. Assumes nothing.
use mathlib.Core.Path.{◌∙◌}
use Prim.Native.Nat.{◌+◌, ◌*◌, ◌^◌, ◌≤◌, ◌<◌}
use native.Mathlib.Omega.{arith}
use lib.ListN.{length, length-set, get_or}
use Rattle.simulation.specs.Limits.{most_states, most_pairs}
use Rattle.simulation.specs.Length.{head_length}
use Rattle.counting.specs.Count.{longest}
use Rattle.counting.proofs.Targets.{step-number, few-targets}
use Rattle.counting.proofs.Counting.{hand_choice, hand_place, hand_low, hand_fits, hand_counts, handed_on}
use Rattle.counting.proofs.count.hand_on.Goals as goal
use Rattle.counting.proofs.count.hand_on.Goals.{After-targets-targets, Else-bytes-gt-LONGEST}

-- the bytes are not too many yet
under : (c : Else-bytes-gt-LONGEST) → c.args.bytes ≤ longest
under c = omega (arith, c.if-bytes-gt-LONGEST.false)

-- the pair's place
low : (c : After-targets-targets) → let a = c.args in a.s * c.width-width.result + a.t < most_pairs
low c = hand_low c.requires _ c.width-width.ensures

place : (c : After-targets-targets) → let a = c.args in a.s * c.width-width.result + a.t < length a.counts.now
place c = hand_place c.requires _ c.width-width.ensures

-- the bytes that are counted
few : (c : After-targets-targets) → length c.targets-targets.result.now ≤ most_states
few c = few-targets (hand_choice c.requires) c.targets-targets.ensures

fits : (c : After-targets-targets) → let a = c.args in
    a.bytes + get_or a.counts.now (a.s * c.width-width.result + a.t) 0 * (head_length + 4 * length c.targets-targets.result.now) < 2 ^ 30
fits c = hand_fits c.requires (omega (arith, c.if-bytes-gt-LONGEST.false)) c.targets-targets.ensures _ c.width-width.ensures

pub targets-targets-requires : goal.targets-targets-requires
targets-targets-requires c = let p = c.requires in step-number (hand_choice p)

pub overflow_mul-at : goal.overflow_mul-at
overflow_mul-at c = record { fits = omega (arith, low c) }

pub overflow_add-at : goal.overflow_add-at
overflow_add-at c = record { fits = omega (arith, low c) }

pub offset_bounds-counts-at : goal.offset_bounds-counts-at
offset_bounds-counts-at c = record { fits = omega (arith, low c) }

pub bounds-counts-at : goal.bounds-counts-at
bounds-counts-at c = place (goal.at.bounds-counts-at c).After-targets-targets

pub offset_bounds-counts-at-2 : goal.offset_bounds-counts-at-2
offset_bounds-counts-at-2 c = record { fits = omega (arith, low (goal.at.offset_bounds-counts-at-2 c).After-targets-targets) }

pub bounds-counts-at-2 : goal.bounds-counts-at-2
bounds-counts-at-2 c = place (goal.at.bounds-counts-at-2 c).After-targets-targets

pub add_counts-requires : goal.add_counts-requires
add_counts-requires c =
    hand_counts c.requires (under (goal.at.add_counts-requires c).Else-bytes-gt-LONGEST) c.targets-targets.ensures _ c.width-width.ensures

pub overflow_cast-result : goal.overflow_cast-result
overflow_cast-result c = record { fits = omega (arith, few (goal.at.overflow_cast-result c).After-targets-targets) }

pub overflow_mul-result-2 : goal.overflow_mul-result-2
overflow_mul-result-2 c = record { fits = omega (arith, fits (goal.at.overflow_mul-result-2 c).After-targets-targets) }

pub overflow_add-result-2 : goal.overflow_add-result-2
overflow_add-result-2 c = record { fits = omega (arith, fits (goal.at.overflow_add-result-2 c).After-targets-targets) }

pub shape_of-counts : goal.shape_of-counts
shape_of-counts c = c.add_counts.auto.counts ∙ simp length-set

pub returns : goal.returns
returns c =
    handed_on c.requires (under (goal.at.returns c).Else-bytes-gt-LONGEST) c.targets-targets.ensures _ c.width-width.ensures (shape_of-counts c) c.add_counts.ensures
