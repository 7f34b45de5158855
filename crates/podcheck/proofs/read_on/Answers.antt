-- `podcheck::read_on` meets its contract. Assumes nothing.
use Rattle.std.proofs.Common.{◌++◌, length, length-append, drop, arith}
use Rattle.podcheck.proofs.Reading.{drop-read}
use Rattle.podcheck.proofs.read_on.Goals as goal

pub returns-clause-bytes : goal.returns-clause-bytes
returns-clause-bytes g c =
    let k = length c.args.start.now in
    let after = c.copy_from_slice.ensures.after in
    rw (drop-read k c.in_ok-n.n _ (c.copy_from_slice.new.self ++ drop k c.args.input.now) c.read_full.new.buf (simp (after, length-append) (omega arith)) (omega (arith, c.in_ok-n.ensures.bound)))
    c.in_ok-n.ensures.bytes
