-- `dropping::drop_rows` meets its contract: the rows that are not left are judged. Assumes nothing.
use mathlib.Core.Path.{refl, sym, subst}
use Prim.Native.Nat.{ℕ}
use native.Mathlib.Omega.{arith}
use Rattle.word.specs.Mask.{member}
use Rattle.set.specs.Words.{mask}
use Rattle.set.proofs.Walks.{begun}
use Rattle.form.specs.Tables.{first_table, contract_table}
use Rattle.decision.specs.Fitting.{relation_of}
use Rattle.dropping.specs.Falling.{Doubtless}
use Rattle.links.proofs.Doubting.{same_marks_refl, same_marks_more}
use Rattle.dropping.proofs.Dropping.{Waiting, waiting_start, waiting_next, waiting_end}
use Rattle.dropping.proofs.drop_rows.Goals as goal
use Rattle.dropping.proofs.drop_rows.Goals.{In-Some}

pub loop-s-init : goal.loop-s-init
loop-s-init c =
    let a = c.args in (
      begun (λ n. Waiting a.tables.now a.rows.now n a.marks.now (mask c.empty-fell.result)) c.into_iter-s-iterator.ensures.into_iter_gives
          (waiting_start c.empty-fell.ensures c.requires.1),
      c.requires.2,
      same_marks_refl,
    )

pub drop_row-row-requires : goal.drop_row-row-requires
drop_row-row-requires c =
    let s = c.in-Some.s in
    let u = c.loop-s in
    let a = c.args in
    let w = u.invariant.0.waits s c.in-Some.ensures.steps.lowest.here in (
      record {
        loaded = c.requires.0;
        target_sets = c.requires.1.target_sets;
        rows_room = c.requires.1.rows_room;
        amounts_room = omega (arith, c.requires.3);
      },
      u.invariant.1,
      w.0,
      subst (λ (n : ℕ). Doubtless (first_table a.tables.now) (contract_table a.tables.now) (relation_of a.tables.now a.rows.now) s (member n))
          (sym c.get-doubt.ensures) w.1,
      c.requires.1.ready.columns s w.0,
    )

pub with_row-fell-requires : goal.with_row-fell-requires
with_row-fell-requires c = c.in-Some.ensures.steps.state

pub loop-s-preserved : goal.loop-s-preserved
loop-s-preserved c =
    let s = c.in-Some.ensures.steps in (
      waiting_next c.empty.result c.drop_row-row.result c.with_row-fell.result (omega (arith, s.state)) c.put.ensures c.put-in-loop-s.ensures
          s.lowest.here s.left c.drop_row-row.ensures.0 c.with_row-fell.ensures c.loop-s.invariant.0,
      c.drop_row-row.ensures.1,
      same_marks_more c.loop-s.invariant.2
          (record { doubt = record { name = refl; size = omega arith }; lost = record { name = refl; size = omega arith } }),
    )

pub returns : goal.returns
returns c =
    let i = c.loop-s.invariant in
    (record { fallen = waiting_end c.in-None.ensures.steps.0 i.0; known = i.1 }, i.2)
