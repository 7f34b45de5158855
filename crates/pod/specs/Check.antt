-- What a call of the check must do, from the bytes of two tables on.
-- Assumes nothing.
use Rattle.std.specs.Prelude.{◌≡◌, cond, List, ℕ, ◌+◌, ◌≤◌, leb, length}
use Rattle.simulation.specs.Fit.{Amounts}
use Rattle.simulation.specs.Limits.{wide, most_states}
use Rattle.simulation.specs.Table.{Table, states_of, steps}
use Rattle.simulation.specs.Support.{supported}
use Rattle.simulation.specs.Complete.{complete, contract_for}
use Rattle.layout.specs.Bytes.{states_start, states, Decoded, refused, accepted, decode}
use Rattle.flows.specs.Flow.{room_for, flow_room}
use Rattle.compare.specs.Outcome.{Buffers, Result, outcome}
use Rattle.compare.specs.Steps.{RightIfKept}
use Rattle.answer.specs.Numbers.{refusal}
use Rattle.answer.specs.declared.answer.Answer.{Answer}

-- two accepted tables are judged without their entries of weight 0 (`supported`), and this is what M is judged against
abbrev pub contract : (M N : Table) → Table
contract M N = contract_for (supported M) (supported N)

-- a call on any bytes: the first table goes before the second. The room asked of a flow buffer alone counts all entries; a flow alone tells the
-- transitions that N lists from those that complete it
unfoldable pub checked : Decoded → Decoded → (s t : ℕ) → Buffers → (ℕ → Amounts) → Result
unfolding outcome supported complete room_for
checked (refused k) d s t b x = record { answer = refusal k 1 0; buffers = b }
checked (accepted M) (refused k) s t b x = record { answer = refusal k 2 0; buffers = b }
checked (accepted M) (accepted N) s t b x = outcome (supported M) (contract M N) (flow_room M N s) (length (steps N t)) s t b x

-- the amounts of a flow are right, where there is a flow to write
unfoldable pub RightFor : Decoded → Decoded → (s t : ℕ) → (ℕ → Amounts) → Type 0
unfolding supported complete
RightFor (refused k) d s t x = Unit {0}
RightFor (accepted M) (refused k) s t x = Unit {0}
RightFor (accepted M) (accepted N) s t x = RightIfKept (supported M) (contract M N) s t x

-- THE CONTRACT of `check`: from the bytes of the two tables, the chosen pair and the buffers as lent, the answer and the buffers as left.
-- Free are the amounts of a flow only, and they are right.
pub record Checked (first second : List ℕ) (s t : ℕ) (b : Buffers) (r : Result) : Type 0 where
  pub amounts : ℕ → Amounts
  pub right : RightFor (decode first) (decode second) s t amounts
  pub result : r ≡ checked (decode first) (decode second) s t b amounts

-- the contract of `check_table`, for a lone table
unfoldable pub table_answer : Decoded → Answer
table_answer (refused k) = refusal k 1 0
table_answer (accepted M) = refusal 0 0 0

-- how many states the table has, 0 where it is refused
unfoldable pub state_count : Decoded → ℕ
state_count (refused k) = 0
state_count (accepted M) = states_of M

abbrev pub states_in : List ℕ → ℕ
states_in bytes = state_count (decode bytes)

-- the byte where the count of states stands; 0 where the bytes end before it, or where it is above the limit
unfoldable pub states_stated : List ℕ → ℕ
unfolding states
states_stated s = cond (leb (states_start wide s + 1) (length s)) (cond (leb (states wide s) most_states) (states wide s) 0) 0

-- the contract of `states_of`: that number, which is how many states the table has, if the bytes are accepted
pub record StatesCounted (bytes : List ℕ) (r : ℕ) : Type 0 where
  pub stated : r ≡ states_stated bytes
  pub right : (M : Table) → decode bytes ≡ accepted M → r ≡ states_of M
  pub few : r ≤ most_states
