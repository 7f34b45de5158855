-- `podcheck::read_full` meets its contract. Assumes nothing.
use Rattle.std.proofs.Common.{rules, arith}
use Rattle.podcheck.proofs.Reading.{consumes-more, take-read}
use Rattle.podcheck.proofs.read_full.Goals as goal

pub loop-done-preserved : goal.loop-done-preserved
loop-done-preserved g c = record {
  within = search rules;
  bytes =
      rw (take-read c.loop-done.done c.in_ok-n.n _ c.loop-done.buf c.read.new.buf c.loop-done.invariant.within (omega (arith, c.in_ok-n.ensures.bound)))
      (consumes-more _ _ _ _ _ c.loop-done.invariant.bytes c.in_ok-n.ensures.bytes.0);
}
