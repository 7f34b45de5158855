-- `bounds::reaches` meets its contract. Assumes nothing.
use Rattle.word.specs.Mask.{member}
use Rattle.set.specs.Words.{mask}
use Rattle.set.proofs.Sets.{both_of, not_none}
use Rattle.bounds.proofs.Covering.{unrelated}
use Rattle.bounds.proofs.reaches.Goals as goal

pub returns : goal.returns
returns c e =
    let a = c.args in
    unrelated a.rows.now a.s (mask a.to) (mask c.intersection.result) (both_of c.get.ensures (member (mask a.to)) c.intersection.ensures)
    (not_none c.is_empty.ensures e)
