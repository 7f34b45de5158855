-- `flows::flow::send_all` meets its contract. The loop sends one weight each turn. Assumes nothing.
use Rattle.flows.proofs.FlowAdded.{Sent}
use Rattle.flows.proofs.flow.send_all.Given as goal

abbrev pub invariant-loop-i : goal.invariant-loop-i
invariant-loop-i l = Sent l.weights l.i l.amounts
