-- `flows::flow::put_added` meets its contract. Assumes nothing.
use mathlib.Core.Path.{ap, subst}
use mathlib.Core.List.{List, [], ◌∷◌}
use Prim.Native.Nat.{ℕ}
use native.Mathlib.Omega.{arith}
use lib.ListN.{length}
use Rattle.form.specs.Tables.{first_form, second_form, first_step}
use Rattle.form.proofs.FormLaws.{limits, limited_at, weights-length, targets-length}
use Rattle.matrix.specs.Matrix.{cell}
use Rattle.buffer.specs.Buffer.{Filled}
use Rattle.flows.specs.Flow.{added_place, flow_of}
use Rattle.flows.proofs.FlowAdded.{Sent, records_one}
use Rattle.flows.proofs.flow.put_added.Goals as goal

pub send_all-requires : goal.send_all-requires
send_all-requires c =
    let few = (limited_at (first_form c.args.tables.now) c.requires.0.first c.args.j c.requires.2).few in
    (omega (arith, few, ap length c.weights.ensures), c.requires.1)

pub put_one-requires : goal.put_one-requires
put_one-requires c =
    let l = c.requires.0 in
    let e = c.targets.ensures in
    let m = first_step c.args.tables.now c.args.j in (
      omega arith,
      records_one l.first c.requires.2 e (omega (arith, c.requires.3, (limits (second_form c.args.tables.now) l.second).states-few)) (omega arith),
      omega (arith, c.requires.4, ap length e, targets-length m),
    )

pub returns : goal.returns
returns c =
    let a = c.args in
    let m = first_step a.tables.now a.j in
    let y = c.send_all.new.amounts in (
      λ i b. subst (λ (ws : List ℕ). Sent ws (length ws) y) c.weights.ensures c.send_all.ensures i (omega (arith, weights-length m)),
      subst (λ (l : List ℕ). Filled (flow_of added_place l (a.t ∷ []) (cell y)) c.put_one.result a.buf.now c.put_one.new.buf) c.targets.ensures
          c.put_one.ensures,
    )
