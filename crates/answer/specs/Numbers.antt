-- The answer of a call: a refusal, and the numbers in a lent buffer.
-- Assumes nothing.
use Rattle.std.specs.Prelude.{cond, List, [], ◌∷◌, ◌++◌, ℕ, ltb, length, drop}
use Rattle.answer.specs.declared.answer.Answer.{Answer}

abbrev pub refusal : (number table needed : ℕ) → Answer
refusal n k l = record { number = n; table = k; needed = l; rounds = 0; kept = 0; verdict = 0; rank = 0; written = 0 }

abbrev pub with_written : ℕ → Answer → Answer
with_written n a = record { number = a.number; table = a.table; needed = a.needed; rounds = a.rounds; kept = a.kept; verdict = a.verdict; rank = a.rank; written = n }

abbrev pub numbers : Answer → List ℕ
numbers a = a.number ∷ a.table ∷ a.needed ∷ a.rounds ∷ a.kept ∷ a.verdict ∷ a.rank ∷ a.written ∷ []

abbrev pub with_answer : Answer → List ℕ → List ℕ
with_answer a old = numbers a ++ drop 8 old

-- a buffer of fewer than eight numbers stays as it is
abbrev pub answer_into : Answer → List ℕ → List ℕ
answer_into a old = cond (ltb (length old) 8) old (with_answer a old)
