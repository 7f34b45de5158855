-- `pod_c::pod_widen` meets its contract: nothing happens for a short answer buffer, else what `pod::widen` does.
-- Assumes nothing.
use mathlib.Core.Path.{refl, ap, ◌∙◌}
use native.Mathlib.Omega.{arith}
use borrow.Author.Rules.{rules}
use Rattle.answer.specs.Numbers.{with_answer}
use Rattle.widen.specs.Widened.{Widening}
use Rattle.pod_c.proofs.pod_widen.Goals as goal

pub returns-then-answer-lt-FIELDS : goal.returns-then-answer-lt-FIELDS
returns-then-answer-lt-FIELDS c = record { short = λ _. (refl, refl); whole = λ h. absurd (omega arith) }

pub returns : goal.returns
returns c =
    let old = c.args.answer.now in
    record {
      short = λ h. absurd (omega arith);
      whole = λ _. (c.put.ensures ∙ ap (λ (w : Widening). with_answer w.answer old) c.widen.ensures, ap (λ (w : Widening). w.out) c.widen.ensures);
    }
