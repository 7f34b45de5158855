-- What is printed for an input: the text for the answer that the check gives to the two tables and the pair (0, 0).
-- Assumes nothing.
use Rattle.std.specs.Prelude.{◌≡◌, List, ◌≢◌, ℕ, ◌≤◌, length, take, MatchOption, Option}
use Rattle.answer.specs.declared.answer.Answer.{Answer}
use Rattle.compare.specs.Outcome.{Buffers, lent, left}
use Rattle.pod.specs.Check.{Checked, states_in, StatesCounted}
use Rattle.pod.specs.Demands.{Call}
use Rattle.report.specs.Input.{first_of_input, second_of_input}
use Rattle.report.specs.Text.{answer_text}
use Rattle.buffer.specs.Buffer.{Filled}

-- the tables in the input, as far as they are accepted, have p and q states
pub record Counted (input : List ℕ) (p q : ℕ) : Type 0 where
  pub first_states : StatesCounted (first_of_input input) p
  pub second_states : StatesCounted (second_of_input input) q

-- the text for an answer and the ranks and tree that came with it
abbrev pub text_of : List ℕ → Answer → Buffers → List ℕ
text_of input a b =
    answer_text a.table a.number a.written (states_in (first_of_input input)) (states_in (second_of_input input)) b.ranks b.tree

-- the text for an answer that no buffer was too short for, but for that of the flow, which no text shows
pub record Printed (input before : List ℕ) (written : ℕ) (after : List ℕ) : Type 0 where
  -- the buffers as they are lent
  pub buffers₀ : Buffers
  -- the answer, and the buffers as they come back
  pub answer : Answer
  pub buffers : Buffers
  pub checked : Checked (first_of_input input) (second_of_input input) 0 0 buffers₀ (left answer buffers)
  pub ranks_fit : answer.number ≢ 20
  pub tree_fits : answer.number ≢ 22
  pub text : Filled (text_of input answer buffers) written before after

-- the check refuses a tree buffer: the tree is longer
pub record TreeLonger (input tree : List ℕ) : Type 0 where
  pub ranks : List ℕ
  pub flow : List ℕ
  pub call : Call (first_of_input input) (second_of_input input) 0 0 (lent ranks flow tree) 22 0

-- the length of the text, or none where the tree is longer than its buffer
abbrev pub Answered : (input tree before : List ℕ) → Option ℕ → (after : List ℕ) → Type 0
Answered input tree before result after = MatchOption result (TreeLonger input tree) (λ written. Printed input before written after)

-- the text lies in its buffer, as a part of it that begins at its start needs it
abbrev pub TextWithin : ℕ → List ℕ → Type 0
TextWithin written text = (written ≤ length text) × (written ≡ length (take written text))
