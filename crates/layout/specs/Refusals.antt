-- A refusal and its number in 01, which the definitions of Bytes speak of, and a result that tells it.
-- Assumes nothing.
use Rattle.std.specs.Prelude.{◌≡◌, ℕ, Result, MatchResult}
use Rattle.layout.specs.declared.refusals.Refusal.{Refusal}
use Rattle.layout.specs.declared.refusals.Refusal.TheVariants.{Cut, Trailing, Codes, States, Transitions, Unlisted, Entries, Empty, Target, Weight}

abbrev pub number_of : Refusal → ℕ
number_of Cut = 1
number_of Trailing = 2
number_of Codes = 3
number_of States = 4
number_of Transitions = 5
number_of Unlisted = 6
number_of Entries = 7
number_of Empty = 8
number_of Target = 9
number_of Weight = 10

-- r is an error exactly if k is not 0, and then the refusal numbered k; of the value that it has otherwise, P holds
abbrev pub GivesUnless : {A : Type 0} → ℕ → Result A Refusal → (A → Type 0) → Type 0
GivesUnless k r P = MatchResult r (λ a. (k ≡ 0) × P a) (λ e. k ≡ number_of e)

-- the same of a result without a value
abbrev pub PassesUnless : ℕ → Result (Unit {0}) Refusal → Type 0
PassesUnless k r = MatchResult r (λ _. k ≡ 0) (λ e. k ≡ number_of e)
