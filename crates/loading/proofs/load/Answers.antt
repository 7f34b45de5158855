-- `loading::load` meets its contract: what reading the bytes tells.
-- Assumes nothing.
use Rattle.std.proofs.Common.{rules}
use Rattle.simulation.specs.Limits.{wide}
use Rattle.layout.specs.Bytes.{refusal}
use Rattle.layout.specs.Refusals.{PassesUnless}
use Rattle.table.proofs.AnswerLaws.{refused_as, Located, located}
use Rattle.loading.proofs.LoadLaws.{read_refused, read_accepted}
use Rattle.loading.proofs.load.Goals as goal
use Rattle.loading.proofs.load.Goals.{In_ok-t}

told : (c : In_ok-t) → Located wide c.args.bytes.now c.in_ok-t.t
told c =
    let r = c.in_ok-t.ensures in
    located wide c.args.bytes.now (rw (c.wide.ensures.width, c.wide.ensures.same) at r.1) (rw c.wide.ensures.width at r.2)

pub fill-requires : goal.fill-requires
fill-requires c = let l = told (goal.at.fill-requires c).In_ok-t in record { passed = l.passed; parts = l.laid; room = c.requires }

pub returns-in_err-t : goal.returns-in_err-t
returns-in_err-t c =
    let h = refused_as wide c.args.bytes.now (rw (c.wide.ensures.width, c.wide.ensures.same) at c.in_err-t.ensures) in
    let passes : PassesUnless (refusal wide c.args.bytes.now) c.from_residual.result = search rules in
    read_refused c.args.bytes.now c.args.form.now c.in_err-t.field-0.0 h passes

pub returns : goal.returns
returns c = read_accepted _ _ _ (told (goal.at.returns c).In_ok-t).passed c.fill.ensures
