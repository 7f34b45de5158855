-- `pod_c::pod_check` meets its contract: nothing happens for a short answer buffer, else what `pod::check` does.
-- Assumes nothing.
use mathlib.Core.Path.{refl}
use native.Mathlib.Omega.{arith}
use borrow.Author.Rules.{rules}
use Rattle.pod_c.proofs.pod_check.Goals as goal

pub returns-then-answer-lt-FIELDS : goal.returns-then-answer-lt-FIELDS
returns-then-answer-lt-FIELDS c = record { short = λ _. (refl, refl); whole = λ h. absurd (omega arith) }

pub returns : goal.returns
returns c =
    record { short = λ h. absurd (omega (arith, c.if-answer-lt-FIELDS.false)); whole = λ _. (c.check.result, c.check.ensures, c.put.ensures) }
