-- `flows::flow::send_all` meets its contract. The loop sends one weight each turn. Assumes nothing.
use native.Mathlib.Omega.{arith}
use Rattle.flows.proofs.FlowAdded.{sent-none, sent-next}
use Rattle.flows.proofs.flow.send_all.Goals as goal

pub loop-i-init : goal.loop-i-init
loop-i-init c = sent-none c.args.weights.now c.args.amounts.now

pub loop-i-preserved : goal.loop-i-preserved
loop-i-preserved c = sent-next c.args.weights.now c.loop-i.amounts c.loop-i.i (omega arith) c.loop-i.invariant

pub returns : goal.returns
returns c = λ i b. c.loop-i.invariant i (omega arith)
