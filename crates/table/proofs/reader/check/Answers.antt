-- `table::reader::check` meets its contract: what the bytes decode to tells the refusal.
-- Assumes nothing.
use Rattle.std.proofs.Common.{rules}
use Rattle.simulation.specs.Limits.{wide}
use Rattle.layout.proofs.DecodeLaws.{decode-told}
use Rattle.table.proofs.AnswerLaws.{refused_as}
use Rattle.table.proofs.reader.check.Goals as goal

pub returns-in_err-read : goal.returns-in_err-read
returns-in_err-read c =
    let told = refused_as wide c.args.bytes.now (rw (c.wide.ensures.width, c.wide.ensures.same) at c.in_err-read.ensures) in
    search rules

pub returns : goal.returns
returns c =
    let r = c.in_ok-read.ensures in
    (decode-told wide c.args.bytes.now r.0 (rw (c.wide.ensures.width, c.wide.ensures.same) at r.1)).passed
