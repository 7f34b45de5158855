-- `gather::gather_rows` meets its contract: the rows passed are gathered. Assumes nothing.
use mathlib.Core.Path.{refl, sym, ap, ◌∙◌, subst}
use Prim.Native.Nat.{◌+◌, ◌<◌}
use native.Mathlib.Omega.{arith}
use lib.ListN.{length}
use Rattle.relation.specs.Rows.{height}
use Rattle.relation.proofs.RowLaws.{length_put}
use Rattle.gather.specs.Places.{Gathered}
use Rattle.gather.proofs.Gathering.{gather_next}
use Rattle.gather.proofs.gather_rows.Goals as goal
use Rattle.gather.proofs.gather_rows.Goals.{In-loop-i}

-- each target has a row
has-row : (t : In-loop-i) → t.loop-i.i < height t.loop-i.rel
has-row t = omega (arith, t.loop-i-test.true, t.loop-i.invariant.1, t.requires.3)

pub loop-i-init : goal.loop-i-init
loop-i-init c = (omega arith, refl, record { related_at = λ i j a b. absurd (omega arith) })

pub overflow_cast-from : goal.overflow_cast-from
overflow_cast-from c = omega (arith, c.type_inv.from c.loop-i.i)

pub gather_row-requires : goal.gather_row-requires
gather_row-requires c =
    (c.requires.0.below c.loop-i.i (omega arith), c.requires.1, c.requires.2)

pub put-requires : goal.put-requires
put-requires c = has-row (goal.at.put-requires c).In-loop-i

pub loop-i-preserved : goal.loop-i-preserved
loop-i-preserved c =
    let o = c.loop-i in
    let a = c.args in
    let g = c.gather_row in
    let e = c.put.ensures in (
      omega (arith, c.loop-i-test.true),
      ap length e ∙ length_put o.rel o.i g.result ∙ o.invariant.1,
      subst (Gathered a.rows.now a.from.now a.to.now (o.i + 1)) (sym e)
          (gather_next a.rows.now a.from.now a.to.now o.rel o.i g.result (has-row (goal.at.loop-i-preserved c).In-loop-i) g.ensures o.invariant.2),
    )

pub shape_of-rel : goal.shape_of-rel
shape_of-rel c = c.loop-i.invariant.1

pub returns : goal.returns
returns c = record { related_at = λ i j a b. c.loop-i.invariant.2.related_at i j (omega arith) b }
