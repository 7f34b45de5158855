-- `links::link_state` meets its contract. The loop's invariant: the targets of the transitions passed are linked.
-- Assumes nothing.
use Rattle.links.specs.Links.{Joins}
use Rattle.links.proofs.Growing.{LinksTo}
use Rattle.links.proofs.link_state.Given as goal

abbrev pub invariant-loop-j : goal.invariant-loop-j
invariant-loop-j l = Joins l.s l.initial.before l.before × LinksTo l.form.numbers.now l.s l.start l.j l.before
