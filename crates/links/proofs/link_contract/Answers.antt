-- `links::link_contract` meets its contract: what is linked stays so when each state comes before itself too.
-- Assumes nothing.
use native.Mathlib.Omega.{arith}
use Rattle.form.proofs.FormLaws.{limits}
use Rattle.form.specs.Tables.{second_form}
use Rattle.links.proofs.Growing.{linked_looped}
use Rattle.links.proofs.link_contract.Goals as goal

pub link-requires : goal.link-requires
link-requires c = (c.requires.1, c.requires.2)

pub link_loops-requires : goal.link_loops-requires
link_loops-requires c =
    (omega (arith, c.states.ensures, (limits (second_form c.args.tables.now) c.requires.0.second).states-few), c.link.ensures.room)

pub returns-then-has_added : goal.returns-then-has_added
returns-then-has_added c =
    let looped = c.link_loops.ensures in
    record {
      listed = linked_looped c.states.ensures c.link.ensures looped (omega arith);
      loops = λ j t _ _ a. looped.own t (omega (arith, c.states.ensures));
    }

pub returns-else-has_added : goal.returns-else-has_added
returns-else-has_added c =
    record { listed = c.link.ensures; loops = λ j t a missing _. absurd (missing (c.has_added.ensures c.if-has_added.false j a)) }
