-- What is shown of a pair: its flow or its tree, and the answer for it.
-- Assumes nothing.
use Rattle.form.specs.declared.tables.Tables.{Tables}
use Rattle.std.specs.Prelude.{◌≡◌, List, ℕ, ◌+◌, ◌≤◌, ◌<◌, length, Ok, Err}
use Rattle.simulation.specs.Fit.{Amounts}
use Rattle.simulation.specs.Table.{Table, states_of, steps}
use Rattle.simulation.specs.Tree.{tree_bytes}
use Rattle.form.specs.Form.{start_of, entries_listed, table_of}
use Rattle.form.specs.Tables.{first_form, second_form}
use Rattle.flows.specs.Flow.{Right, flow_bytes, room_for}
use Rattle.buffer.specs.Buffer.{over}
use Rattle.counting.specs.Count.{longest}
use Rattle.answer.specs.Numbers.{with_written}
use Rattle.answer.specs.Refused.{Answered}
use Rattle.answer.specs.declared.refusal.Refusal.TheVariants.{ShortFlow, ShortTree, LongTree}
use Rattle.answer.specs.declared.answer.Answer.{Answer}

-- what the flow buffer must have for the state s of the form f over the table of g: the entries that its transitions list in their bytes,
-- also those that the form leaves out
abbrev pub room_in : (f g : List ℕ) (s : ℕ) → ℕ
room_in f g s = room_for (states_of (table_of g)) (length (steps (table_of f) s)) (λ k. entries_listed f (start_of f s + k))

abbrev pub room_asked : (tables : Tables) (s : ℕ) → ℕ
room_asked tables s = room_in (first_form tables) (second_form tables) s

-- a kept pair, of whose transitions of t the first are listed: the flow is written if the buffer has the room asked, and the answer a then says
-- how long it is
pub record FlowShown (M N : Table) (room listed s t : ℕ) (a : Answer) (r : Answered) (flow flow' : List ℕ) : Type 0 where
  pub amounts : ℕ → Amounts
  pub right : Right M N s t amounts
  pub refused : length flow < room → (r ≡ Err (ShortFlow room)) × (flow' ≡ flow)
  pub written : room ≤ length flow → (r ≡ Ok (with_written (length (flow_bytes M N listed s t amounts)) a)) × (flow' ≡ over (flow_bytes M N listed s t amounts) flow)

-- a pair that is not kept: the tree is written if it is short enough and there is room for it
pub record TreeShown (M N : Table) (s t : ℕ) (a : Answer) (r : Answered) (tree tree' : List ℕ) : Type 0 where
  pub long : longest < length (tree_bytes M N s t) → (r ≡ Err LongTree) × (tree' ≡ tree)
  pub refused : length (tree_bytes M N s t) ≤ longest → length tree < length (tree_bytes M N s t) → (r ≡ Err (ShortTree (length (tree_bytes M N s t)))) × (tree' ≡ tree)
  pub written : length (tree_bytes M N s t) ≤ longest → length (tree_bytes M N s t) ≤ length tree
      → (r ≡ Ok (with_written (length (tree_bytes M N s t)) a)) × (tree' ≡ over (tree_bytes M N s t) tree)
