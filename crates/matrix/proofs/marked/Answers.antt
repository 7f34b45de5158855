-- `matrix::marked` meets its contract. Assumes nothing.
use Rattle.word.specs.Mask.{member}
use Rattle.set.specs.Words.{mask}
use Rattle.matrix.proofs.MaskedLaws.{put_none, put_some}
use Rattle.matrix.proofs.marked.Goals as goal

pub returns-then-v-eq0 : goal.returns-then-v-eq0
returns-then-v-eq0 c = let s = c.args in put_none (member (mask s.set)) s.k s.v c.if-v-eq0.true c.remove.ensures

pub returns : goal.returns
returns c = let s = c.args in put_some (member (mask s.set)) s.k s.v c.if-v-eq0.false c.insert.ensures
