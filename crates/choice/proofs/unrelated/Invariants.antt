-- `choice::unrelated` meets its contract: the targets passed are tested.
-- Assumes nothing.
use Prim.Native.Nat.{pred}
use Rattle.simulation.specs.Round.{round}
use Rattle.form.specs.Tables.{first_table, contract_table, second_step}
use Rattle.set.specs.Words.{mask}
use Rattle.choice.proofs.Parts.{Unrelating}
use Rattle.choice.proofs.unrelated.Given as goal

abbrev pub invariant-loop-t : goal.invariant-loop-t
invariant-loop-t l =
    Unrelating (round (first_table l.tables) (contract_table l.tables) (pred l.r)) l.s (second_step l.tables l.k) (mask l.apart) l.t-index
