-- `fit::ranked::round_cut` meets its contract.
-- Assumes nothing.
use native.Mathlib.Omega.{arith}
use Rattle.form.specs.Tables.{first_step}
use Rattle.form.proofs.FormLaws.{targets-length}
use Rattle.relate.proofs.Relating.{kernel_asked, positive-weights}
use Rattle.fit.proofs.Comparing.{cut-found}
use Rattle.fit.proofs.ranked.round_cut.Goals as goal

pub rows-requires : goal.rows-requires
rows-requires c =
    let g = c.requires.0 in
    (g.ranked, g.from_first, g.from_second, omega (arith, targets-length (first_step c.args.tables.now c.args.j)))

pub smallest_cut-requires : goal.smallest_cut-requires
smallest_cut-requires c =
    let g = c.requires.0 in
    let em = c.weights-m.ensures in
    let en = c.weights-n.ensures in
    let positive = positive-weights _ _ g.ranked g.from_first g.from_second em en in (
      kernel_asked _ _ g.ranked g.from_first g.from_second em en _ _ (omega (arith, c.requires.1, c.rows.ensures.size)) g.amounts_room,
      positive.0,
      positive.1,
    )

pub returns : goal.returns
returns c =
    cut-found c.requires.0 c.rows.ensures c.weights-m.ensures c.weights-n.ensures c.smallest_cut.ensures
