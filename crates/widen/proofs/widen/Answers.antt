-- `widen::widen` meets its contract: what reading the old bytes answers tells the table and the room that it needs.
-- Assumes nothing.
use native.Mathlib.Omega.{arith}
use Rattle.simulation.specs.Limits.{narrow}
use Rattle.layout.specs.Bytes.{Octets}
use Rattle.table.proofs.AnswerLaws.{Located, located}
use Rattle.table.proofs.PartLaws.{Parts, parts-known}
use Rattle.widen.proofs.Wide.{wide-length}
use Rattle.widen.proofs.Answers.{widening-refused, widening-short, widening-done}
use Rattle.widen.proofs.widen.Goals as goal
use Rattle.widen.proofs.widen.Goals.{In-Ok}

told : (c : In-Ok) → Located narrow c.args.old.now c.in-Ok.t
told c =
    let r = c.in-Ok.ensures in
    located narrow c.args.old.now (rw (c.narrow.ensures.width, c.narrow.ensures.same) at r.1) (rw c.narrow.ensures.width at r.2)

parts : (c : In-Ok) → Parts narrow c.args.old.now c.in-Ok.t
parts c = parts-known narrow _ _ (told c).passed (told c).laid

pub overflow_add-needed-2 : goal.overflow_add-needed-2
overflow_add-needed-2 c = let p = parts (goal.at.overflow_add-needed-2 c).In-Ok in omega arith

pub overflow_add-needed-3 : goal.overflow_add-needed-3
overflow_add-needed-3 c = let p = parts (goal.at.overflow_add-needed-3 c).In-Ok in omega arith

pub overflow_cast-needed : goal.overflow_cast-needed
overflow_cast-needed c = let p = parts (goal.at.overflow_cast-needed c).In-Ok in omega arith

pub returns-then-out-needed : goal.returns-then-out-needed
returns-then-out-needed c =
    let octets : Octets c.args.old.now = λ i. omega (arith, c.type_inv.old i) in
    widening-short _ _ octets (told (goal.at.returns-then-out-needed c).In-Ok) c.if-out-needed.true c.refused-then-out-needed.ensures

pub put_table-requires : goal.put_table-requires
put_table-requires c =
    let l = told (goal.at.put_table-requires c).In-Ok in
    let p = parts (goal.at.put_table-requires c).In-Ok in
    (l.passed, l.laid, omega (arith, wide-length c.args.old.now l.passed, c.if-out-needed.false))

pub overflow_cast-needed-2 : goal.overflow_cast-needed-2
overflow_cast-needed-2 c = let p = parts (goal.at.overflow_cast-needed-2 c).In-Ok in omega arith

pub returns-in-Err : goal.returns-in-Err
returns-in-Err c = widening-refused _ _ (rw (c.narrow.ensures.width, c.narrow.ensures.same, ← c.number.ensures) at c.in-Err.ensures) c.refused.ensures

pub returns : goal.returns
returns c =
    let octets : Octets c.args.old.now = λ i. omega (arith, c.type_inv.old i) in
    widening-done _ _ octets (told (goal.at.returns c).In-Ok) c.if-out-needed.false c.put_table.ensures c.refused-2.ensures c.with_written.ensures
