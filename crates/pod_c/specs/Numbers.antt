-- A call with its answer as eight numbers in a lent buffer.
-- Assumes nothing.
use Rattle.std.specs.Prelude.{◌≡◌, List, ℕ, ◌≤◌, ◌<◌, length}
use Rattle.compare.specs.Outcome.{Buffers, left}
use Rattle.answer.specs.Numbers.{with_answer}
use Rattle.widen.specs.Widened.{widening}
use Rattle.pod.specs.Check.{Checked}
use Rattle.answer.specs.declared.answer.Answer.{Answer}

-- a call of `pod_check`: nothing happens for a short answer buffer, else what `pod::check` does, with its answer as numbers
pub record CheckedInto (first second : List ℕ) (s t : ℕ) (b b' : Buffers) (answer answer' : List ℕ) : Type 0 where
  pub short : length answer < 8 → (answer' ≡ answer) × (b' ≡ b)
  pub whole : 8 ≤ length answer → (a : Answer) × Checked first second s t b (left a b') × (answer' ≡ with_answer a answer)

-- a call of `pod_widen`: nothing happens for a short answer buffer, else what `pod::widen` does, with its answer as numbers
pub record WidenedInto (old out out' answer answer' : List ℕ) : Type 0 where
  pub short : length answer < 8 → (answer' ≡ answer) × (out' ≡ out)
  pub whole : 8 ≤ length answer → (answer' ≡ with_answer (widening old out).answer answer) × (out' ≡ (widening old out).out)
