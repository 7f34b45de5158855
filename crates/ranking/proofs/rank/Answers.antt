-- `ranking::rank` meets its contract: there is a place for each transition and state. Assumes nothing.
use mathlib.Core.Path.{◌∙◌, ap}
use native.Mathlib.Omega.{arith}
use Rattle.form.specs.Form.{start_of}
use Rattle.form.specs.Tables.{first_form}
use Rattle.fit.proofs.Sets.{last-start}
use Rattle.ranking.proofs.rank.Goals as goal

pub rank_with-requires : goal.rank_with-requires
rank_with-requires c =
    let f = first_form c.args.tables.now in
    (c.requires, omega (arith, c.if-n-le-FEW.true, c.start_of-n.ensures, ap (start_of f) c.states.ensures ∙ last-start f), omega arith)
