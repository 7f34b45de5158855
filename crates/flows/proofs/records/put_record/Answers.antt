-- `flows::records::put_record` meets its contract. Assumes nothing.
use mathlib.Core.Path.{ap}
use Prim.Native.Nat.{◌*◌}
use Rattle.buffer.proofs.Buffer.{back}
use Rattle.flows.proofs.records.put_record.Goals as goal

pub returns : goal.returns
returns c = let a = c.args in ap (back (6 * a.k) a.buf.now) c.write_record.ensures
