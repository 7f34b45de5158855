-- `choice::part_added` meets its contract: the targets passed are tested.
-- Assumes nothing.
use Prim.Native.Nat.{pred}
use Rattle.simulation.specs.Round.{round}
use Rattle.form.specs.Tables.{first_table, contract_table, first_step}
use Rattle.choice.proofs.Added.{Parting}
use Rattle.choice.proofs.part_added.Given as goal

abbrev pub invariant-loop-i : goal.invariant-loop-i
invariant-loop-i l =
    Parting (round (first_table l.tables) (contract_table l.tables) (pred l.r)) (first_step l.tables l.j) l.t l.initial.sets l.sets l.apart l.i
