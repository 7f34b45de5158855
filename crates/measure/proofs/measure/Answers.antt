-- `measure::measure` meets its contract. Assumes nothing.
use Prim.Native.Nat.{◌<◌}
use native.Mathlib.Omega.{arith}
use Rattle.std.proofs.Common.{rules}
use Rattle.form.specs.Tables.{second_form}
use Rattle.form.proofs.FormLaws.{limits}
use Rattle.form.proofs.Contract.{contract-states}
use Rattle.measure.proofs.Measuring.{measure_start, pair_in, pair_noted, measure_pair, measure_next, measure_end}
use Rattle.measure.proofs.measure.Goals as goal
use Rattle.measure.proofs.measure.Goals.{In-Some}

-- the contract has a state
wide : (c : In-Some) → 0 < c.width-width.result
wide c =
    let tables = c.args.tables.now in
    omega (arith, c.width-width.ensures, contract-states tables, (limits (second_form tables) c.requires.0.ranked.loaded.second).states-some)

pub loop-p-init : goal.loop-p-init
loop-p-init c = measure_start c.requires.0 (search rules)

pub bounds-choices-p : goal.bounds-choices-p
bounds-choices-p c = pair_noted c.requires.1 c.loop-p.invariant _ _ c.in-Some.ensures.steps c.args.choices.now c.requires.3

pub nonzero_div-p : goal.nonzero_div-p
nonzero_div-p c = wide (goal.at.nonzero_div-p c).In-Some

pub nonzero_rem-p : goal.nonzero_rem-p
nonzero_rem-p c = wide (goal.at.nonzero_rem-p c).In-Some

pub measure_pair-len-requires : goal.measure_pair-len-requires
measure_pair-len-requires c = measure_pair c.requires.1 c.loop-p.invariant _ _ c.in-Some.ensures.steps c.requires.2 _ c.width-width.ensures

pub bounds-lengths-p : goal.bounds-lengths-p
bounds-lengths-p c = (pair_in c.requires.1 c.loop-p.invariant _ _ c.in-Some.ensures.steps).0

pub loop-p-preserved : goal.loop-p-preserved
loop-p-preserved c =
    measure_next c.requires.1 c.loop-p.invariant _ _ c.in-Some.ensures.steps _ _ c.width-width.ensures c.measure_pair-len.ensures c.measure_pair-len.auto.sets c.measure_pair-len.auto.amounts

pub returns : goal.returns
returns c = measure_end c.requires.1 c.loop-p.invariant c.in-None.ensures.steps.0
