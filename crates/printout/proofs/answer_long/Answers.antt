-- `printout::answer_long` meets its contract. Assumes nothing.
use Rattle.std.proofs.Common.{ℕ, arith, replicate}
use Rattle.std.proofs.lemmas.List.{length-replicate}
use Rattle.counting.specs.Count.{longest}
use Rattle.printout.proofs.Printing.{always}
use Rattle.printout.proofs.answer_long.Goals as goal

pub unwrap-requires : goal.unwrap-requires
unwrap-requires c =
    always c.args.input.now (replicate longest 0) c.args.text.now c.answer_in.result c.answer_in.new.text (omega (arith, length-replicate {A = ℕ} longest 0))
    c.answer_in.ensures.answered
