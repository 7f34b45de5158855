-- `choice::find_sets` meets its contract.
-- Assumes nothing.
use mathlib.Core.Path.{◌≡◌, sym, ap, ◌∙◌, subst}
use Prim.Native.Nat.{◌<◌}
use native.Mathlib.Omega.{arith}
use lib.Dec.{T}
use Rattle.simulation.specs.Table.{states_of}
use Rattle.simulation.specs.Complete.{lists}
use Rattle.form.specs.Form.{transitions_of}
use Rattle.form.specs.Tables.{first_form, second_form, second_table, first_step}
use Rattle.form.proofs.FormLaws.{limits}
use Rattle.choice.proofs.Choosing.{LostPair, number_of, second-state}
use Rattle.choice.proofs.Added.{tested_added}
use Rattle.choice.proofs.find_sets.Goals as goal
use Rattle.choice.proofs.find_sets.Goals.{After-lists_code, Start}

pair : (c : Start) → let a = c.args in LostPair a.tables.now a.ranks.now a.s a.t a.r
pair c = let p = c.requires in record { ranked = p.0; lost = p.1; its_rank = p.2 }

number : (c : Start) → c.args.j < transitions_of (first_form c.args.tables.now)
number c = let p = c.requires in number_of (first_form c.args.tables.now) p.0.loaded.first c.args.s p.1.left c.args.j p.3 p.4

state : (c : Start) → c.args.t < states_of (second_table c.args.tables.now)
state c = second-state c.args.tables.now c.requires.1.right

-- what the search for the code says of the transition
answer : (c : After-lists_code) → let a = c.args in
    lists (second_table a.tables.now).codes (first_step a.tables.now a.j).code ≡ c.lists_code.result
answer c =
    let tables = c.args.tables.now in
    sym (c.lists_code.ensures ∙ ap (lists (second_table tables).codes) c.code-code.ensures)

pub code-code-requires : goal.code-code-requires
code-code-requires c = number (goal.at.code-code-requires c).Start

pub lists_code-requires : goal.lists_code-requires
lists_code-requires c = (c.requires.0.loaded, state (goal.at.lists_code-requires c).Start)

pub part_added-requires : goal.part_added-requires
part_added-requires c =
    let p = c.requires in
    (p.0, omega (arith, p.1.fell, p.2), number (goal.at.part_added-requires c).Start, p.1.right, omega (arith, p.5))

pub overflow_add-t : goal.overflow_add-t
overflow_add-t c =
    record { fits = omega (arith, state (goal.at.overflow_add-t c).Start, (limits (second_form c.args.tables.now) c.requires.0.loaded.second).states-few) }

pub start_of-end-requires : goal.start_of-end-requires
start_of-end-requires c =
    omega (arith, state (goal.at.start_of-end-requires c).Start)

pub returns : goal.returns
returns c =
    tested_added (pair (goal.at.returns c).Start) c.requires.3 c.requires.4 (λ h. subst T (answer (goal.at.returns c).After-lists_code ∙ c.if-lists_code.false) h) c.part_added.result
    c.part_added.ensures c.start_of-end.ensures c.then_some.ensures
