-- The answer of a call that is refused.
-- Assumes nothing.
use Rattle.std.specs.Prelude.{Result, Ok, Err}
use Rattle.answer.specs.Numbers.{refusal}
use Rattle.answer.specs.declared.answer.Answer.{Answer}
use Rattle.answer.specs.declared.refusal.Refusal.{Refusal}
use Rattle.answer.specs.declared.refusal.Refusal.TheVariants.{OutsidePair, ShortRanks, ShortFlow, ShortTree, LongTree}

-- the number of each refusal, and the length that a short buffer must have
abbrev pub refused : Refusal → Answer
refused OutsidePair = refusal 11 0 0
refused (ShortRanks needed) = refusal 20 0 needed
refused (ShortFlow needed) = refusal 21 0 needed
refused (ShortTree needed) = refusal 22 0 needed
refused LongTree = refusal 23 0 0

-- an answer, or why there is none
abbrev pub Answered : Type 0
Answered = Result Answer Refusal

-- the answer of a call, refused or not
abbrev pub answer_of : Answered → Answer
answer_of (Ok a) = a
answer_of (Err r) = refused r
