-- `flows::records::write_all` meets its contract. Each turn writes one record. Assumes nothing.
use Rattle.buffer.proofs.Buffer.{finish}
use Rattle.flows.proofs.RecordBytes.{all_start, all_turn, all_end}
use Rattle.flows.proofs.records.write_all.Goals as goal

pub loop-k-init : goal.loop-k-init
loop-k-init c = all_start c.args.rs.now c.args.buf.now c.requires

pub loop-k-preserved : goal.loop-k-preserved
loop-k-preserved c = all_turn c.args.rs.now c.loop-k.k c.loop-k-test.true c.loop-k.invariant c.put_record.ensures

pub returns : goal.returns
returns c = (finish (all_end c.args.rs.now c.loop-k.k c.loop-k-test.false c.loop-k.invariant)).bytes
