-- What the functions below `check` give, once both tables are loaded.
-- Assumes nothing.
use Rattle.form.specs.declared.tables.Tables.{Tables}
use Rattle.std.specs.Prelude.{◌≡◌, cond, List, ℕ, ◌≤◌, ◌<◌, eqb, length, get_or, Ok}
use Rattle.simulation.specs.Fit.{Amounts}
use Rattle.simulation.specs.Table.{Table, states_of}
use Rattle.simulation.specs.Round.{pairs, rank_list}
use Rattle.simulation.specs.Demands.{Kept}
use Rattle.form.specs.Tables.{first_table, contract_table, BothLoaded}
use Rattle.flows.specs.Flow.{Right}
use Rattle.buffer.specs.Buffer.{over}
use Rattle.witness.specs.Shown.{FlowShown}
use Rattle.compare.specs.Outcome.{Buffers, Result, success, outcome}
use Rattle.answer.specs.Refused.{Answered}
use Rattle.answer.specs.declared.answer.Answer.{Answer}

-- the amounts of a flow are right, where there is a flow to write
abbrev pub RightIfKept : (M N : Table) (s t : ℕ) → (ℕ → Amounts) → Type 0
RightIfKept M N s t x = s < states_of M → t < states_of N → Kept M N s t → Right M N s t x

-- a call on two accepted tables does what `outcome` says, with amounts that are right
pub record Compared (M N : Table) (room listed s t : ℕ) (b : Buffers) (r : Result) : Type 0 where
  pub amounts : ℕ → Amounts
  pub right : RightIfKept M N s t amounts
  pub result : r ≡ outcome M N room listed s t b amounts

-- two loaded tables, a pair of their states, and a place for each rank
pub record Chosen (tables : Tables) (ranks : List ℕ) (s t : ℕ) : Type 0 where
  pub loaded : BothLoaded tables
  pub first : s < states_of (first_table tables)
  pub second : t < states_of (contract_table tables)
  pub ranks_room : pairs (first_table tables) (contract_table tables) ≤ length ranks

-- the ranks are filled in, and the flow of a kept pair is shown; of another pair the answer says all but what will be written
pub record PairRanked (M N : Table) (room listed s t : ℕ) (r : Answered) (ranks ranks' flow flow' : List ℕ) : Type 0 where
  pub ranks_are : ranks' ≡ over (rank_list M N) ranks
  pub if_kept : Kept M N s t → FlowShown M N room listed s t (success M N s t 0) r flow flow'
  pub if_fallen : ¬ Kept M N s t → (r ≡ Ok (success M N s t 0)) × (flow' ≡ flow)

-- the answer of an accepted call, but for what is written, from the ranks and the place of the chosen pair among them
abbrev pub found_answer : List ℕ → (place rounds kept : ℕ) → Answer
found_answer ranks p r k = record { number = 0; table = 0; needed = 0; rounds = r; kept = k; verdict = cond (eqb (get_or ranks 0 0) 0) 1 0; rank = get_or ranks p 0; written = 0 }
