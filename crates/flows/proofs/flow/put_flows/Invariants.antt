-- `flows::flow::put_flows` meets its contract. The loop writes the flow of a transition each turn. Assumes nothing.
use Rattle.form.specs.Tables.{first_table, contract_table, listed_steps}
use Rattle.flows.proofs.FlowWhole.{Flowing}
use Rattle.flows.proofs.flow.put_flows.Given as goal

abbrev pub invariant-loop-k : goal.invariant-loop-k
invariant-loop-k l =
    Flowing (first_table l.tables) (contract_table l.tables) (listed_steps l.tables l.t) l.s l.t l.initial.buf l.k l.at l.buf
