-- `flows::flow::put_listed` meets its contract. Assumes nothing.
use Prim.Native.Nat.{◌+◌, ◌<◌}
use native.Mathlib.Omega.{arith}
use Rattle.form.specs.Form.{transitions_of}
use Rattle.form.specs.Tables.{second_form}
use Rattle.form.proofs.FormLaws.{limits}
use Rattle.flows.proofs.FlowStep.{step-number, step_asked, step-shown}
use Rattle.flows.proofs.flow.put_listed.Goals as goal
use Rattle.flows.proofs.flow.put_listed.Goals.{After-start_of}

-- the number of the transition found
number : (d : After-start_of) → d.start_of.result + d.first_fit-place.result < transitions_of (second_form d.args.tables.now)
number d = step-number d.requires.0 d.first_fit-place.ensures d.start_of.ensures

pub overflow_add-l : goal.overflow_add-l
overflow_add-l c =
    omega (arith, number (goal.at.overflow_add-l c).After-start_of, (limits (second_form c.args.tables.now) c.requires.0.loaded.second).transitions-few)

pub targets-requires-2 : goal.targets-requires-2
targets-requires-2 c = number (goal.at.targets-requires-2 c).After-start_of

pub put_one-requires : goal.put_one-requires
put_one-requires c =
    step_asked c.requires.0 c.first_fit-place.ensures c.start_of.ensures c.targets.ensures
    c.targets-2.ensures c.first_fit-place.auto.amounts c.requires.2

pub returns : goal.returns
returns c =
    step-shown c.requires.0 c.first_fit-place.ensures c.start_of.ensures c.targets.ensures c.targets-2.ensures
    c.requires.1 c.put_one.ensures
