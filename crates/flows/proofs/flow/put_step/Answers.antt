-- `flows::flow::put_step` meets its contract. Assumes nothing.
use mathlib.Core.Bool.{Bool, false}
use mathlib.Core.Path.{◌≡◌, sym, ◌∙◌, ap, subst}
use native.Mathlib.Omega.{arith}
use lib.Dec.{T}
use lib.ListN.{length}
use Rattle.simulation.specs.Complete.{lists}
use Rattle.simulation.proofs.Finite.Tests.{true_T}
use Rattle.form.specs.Tables.{second_table, first_step}
use Rattle.flows.proofs.FlowStep.{room-one}
use Rattle.flows.proofs.FlowAdded.{listed_sought, added-shown}
use Rattle.flows.proofs.flow.put_step.Goals as goal
use Rattle.flows.proofs.flow.put_step.Goals.{After-lists}

-- what is tested
tested : (d : After-lists) →
    let a = d.args in
    d.lists.result ≡ lists (second_table a.tables.now).codes (first_step a.tables.now a.j).code
tested d = d.lists.ensures ∙ ap (lists (second_table d.args.tables.now).codes) d.code-code.ensures

missing : {b x : Bool} → b ≡ x → b ≡ false → ¬ T x
missing e f h = subst T (sym e ∙ f) h

pub put_listed-requires : goal.put_listed-requires
put_listed-requires c =
    (listed_sought c.requires.0 (true_T (sym (tested (goal.at.put_listed-requires c).After-lists) ∙ c.if-lists.true)), c.requires.1, c.requires.2)

pub put_added-requires : goal.put_added-requires
put_added-requires c =
    let p = c.requires.0 in
    (p.loaded, p.amounts_room, p.from_first, p.state, omega (arith, c.requires.2, room-one (length (first_step c.args.tables.now c.args.j).entries) p.state))

pub returns : goal.returns
returns c =
    added-shown c.requires.0 (missing (tested (goal.at.returns c).After-lists) c.if-lists.false) c.requires.1 c.put_added.ensures.0 c.put_added.ensures.1
