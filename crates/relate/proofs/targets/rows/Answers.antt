-- `relate::targets::rows` meets its contract. Assumes nothing.
use Rattle.relate.proofs.Relating.{rows_asked}
use Rattle.relate.proofs.targets.rows.Goals as goal

pub rows-requires : goal.rows-requires
rows-requires c =
    rows_asked _ _ c.requires.0 c.requires.1 c.requires.2 c.targets-from.ensures c.targets-to.ensures c.args.rel.now c.width-width.ensures c.requires.3
