-- `decision::flow_over` meets its contract: the kernel decides over the gathered rows, and its amounts share out. Assumes nothing.
use mathlib.Core.Path.{sym, ap, subst}
use native.Mathlib.Omega.{arith}
use lib.ListN.{length}
use Rattle.simulation.specs.Limits.{most_states}
use Rattle.relation.specs.Rows.{height}
use Rattle.form.specs.Tables.{second_form}
use Rattle.gather.specs.Places.{Places, Ascending}
use Rattle.decision.proofs.Fitting.{targets_ascend, first_places, second_places, shares-between}
use Rattle.decision.proofs.flow_over.Goals as goal

pub gather_rows-requires : goal.gather_rows-requires
gather_rows-requires c =
    let q = c.requires.0 in
    let e = c.distribution-m.ensures.targets in
    let u = c.distribution-n.ensures.targets in (
      subst (Places (height c.args.rows.now)) (sym e) (first_places q),
      subst (Places most_states) (sym u) (second_places q),
      subst Ascending (sym u) (targets_ascend (second_form c.args.tables.now) q.loaded.second c.args.l q.from_second),
      omega (arith, ap length e, c.requires.1),
    )

pub returns : goal.returns
returns c =
    shares-between c.requires.0 c.distribution-m.ensures.targets c.distribution-n.ensures.targets c.distribution-m.ensures.weights c.distribution-n.ensures.weights
    c.gather_rows.ensures c.maximum_flow-flow.ensures.0 c.is_empty.ensures
