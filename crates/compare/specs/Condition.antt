-- When a call on two accepted tables gives which number, and what it answers and leaves then.
-- Assumes nothing.
use Rattle.std.specs.Prelude.{ℕ, ◌≤◌, ◌<◌, length}
use Rattle.simulation.specs.Fit.{Amounts}
use Rattle.simulation.specs.Table.{Table, states_of}
use Rattle.simulation.specs.Round.{pairs}
use Rattle.simulation.specs.Demands.{Kept}
use Rattle.counting.specs.Count.{longest}
use Rattle.flows.specs.Flow.{flow_bytes}
use Rattle.answer.specs.Numbers.{refusal}
use Rattle.compare.specs.Outcome.{Buffers, Result, success, ranked, with_flow, with_tree}
use Rattle.simulation.specs.Tree.{tree_bytes}

module _ (M N : Table) (s t : ℕ) (b : Buffers) where
  abbrev pub Inside : Type 0
  Inside = (s < states_of M) × (t < states_of N)

  -- the chosen pair is a pair of states, and there is room for the ranks
  abbrev pub Ready : Type 0
  Ready = Inside × (pairs M N ≤ length b.ranks)

-- where a flow buffer must have the room asked
module _ (M N : Table) (room s t : ℕ) (b : Buffers) where
  -- Demand 1: when a call on two accepted tables gives which number
  pub data Condition : ℕ → Type 0 where
    outside : ¬ Inside M N s t b → Condition 11
    short_ranks : Inside M N s t b → length b.ranks < pairs M N → Condition 20
    short_flow : Ready M N s t b → Kept M N s t → length b.flow < room → Condition 21
    short_tree : Ready M N s t b → ¬ Kept M N s t → length (tree_bytes M N s t) ≤ longest → length b.tree < length (tree_bytes M N s t) → Condition 22
    long_tree : Ready M N s t b → ¬ Kept M N s t → longest < length (tree_bytes M N s t) → Condition 23
    flow_fits : Ready M N s t b → Kept M N s t → room ≤ length b.flow → Condition 0
    tree_fits : Ready M N s t b → ¬ Kept M N s t → length (tree_bytes M N s t) ≤ longest → length (tree_bytes M N s t) ≤ length b.tree → Condition 0

  -- what it answers and leaves in the buffers then; the first transitions of t are listed, and x are the amounts of a flow
  abbrev pub result_of : (listed : ℕ) (x : ℕ → Amounts) {n : ℕ} → Condition n → Result
  result_of listed x (outside _) = record { answer = refusal 11 0 0; buffers = b }
  result_of listed x (short_ranks _ _) = record { answer = refusal 20 0 (pairs M N); buffers = b }
  result_of listed x (short_flow _ _ _) = record { answer = refusal 21 0 room; buffers = ranked M N b }
  result_of listed x (short_tree _ _ _ _) = record { answer = refusal 22 0 (length (tree_bytes M N s t)); buffers = ranked M N b }
  result_of listed x (long_tree _ _ _) = record { answer = refusal 23 0 0; buffers = ranked M N b }
  result_of listed x (flow_fits _ _ _) = record { answer = success M N s t (length (flow_bytes M N listed s t x)); buffers = with_flow M N (flow_bytes M N listed s t x) b }
  result_of listed x (tree_fits _ _ _ _) = record { answer = success M N s t (length (tree_bytes M N s t)); buffers = with_tree M N (tree_bytes M N s t) b }
