-- `flows::records::write_all` meets its contract. Each turn writes one record. Assumes nothing.
use Rattle.std.proofs.Common.{◌*◌, drop}
use Rattle.buffer.proofs.Buffer.{Written}
use Rattle.flows.specs.Records.{all_bytes}
use Rattle.flows.proofs.records.write_all.Given as goal

abbrev pub invariant-loop-k : goal.invariant-loop-k
invariant-loop-k l = Written (all_bytes l.rs) l.initial.buf (all_bytes (drop l.k l.rs)) l.buf (6 * l.k)
