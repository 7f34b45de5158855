-- What a call of the check does once both tables are accepted: its answer and its three lent buffers, after success and after each refusal
-- (01, "When the analyser says no").
-- Assumes nothing.
use Rattle.std.proofs.Math.Bool.{true, false, cond}
use Rattle.std.specs.Prelude.{◌||◌, List, ℕ, ltb, eqb, length}
use Rattle.std.proofs.Math.Dec.{leb}
use Rattle.simulation.specs.Fit.{Amounts}
use Rattle.simulation.specs.Table.{Table, states_of}
use Rattle.simulation.specs.Round.{pairs, rank, rank_list, maximum, zeros}
use Rattle.counting.specs.Count.{longest}
use Rattle.buffer.specs.Buffer.{over}
use Rattle.flows.specs.Flow.{flow_bytes}
use Rattle.simulation.specs.Tree.{tree_bytes}
use Rattle.answer.specs.declared.answer.Answer.{Answer}
use Rattle.answer.specs.Numbers.{refusal}

-- the three lent buffers
pub record Buffers : Type 0 where
  pub ranks : List ℕ
  pub flow : List ℕ
  pub tree : List ℕ

pub record Result : Type 0 where
  pub answer : Answer
  pub buffers : Buffers

abbrev pub lent : (ranks flow tree : List ℕ) → Buffers
lent ranks flow tree = record { ranks = ranks; flow = flow; tree = tree }

abbrev pub left : Answer → Buffers → Result
left a b = record { answer = a; buffers = b }

module _ (M N : Table) where
  unfoldable pub success : (s t written : ℕ) → Answer
  unfolding rank_list maximum zeros rank
  success s t n = record {
    number = 0;
    table = 0;
    needed = 0;
    rounds = maximum (rank_list M N);
    kept = zeros (rank_list M N);
    verdict = cond (eqb (rank M N 0 0) 0) 1 0;
    rank = rank M N s t;
    written = n;
  }

  -- the buffers with the ranks filled in, and with a flow or a tree written too
  abbrev pub ranked : Buffers → Buffers
  ranked b = record { ranks = over (rank_list M N) b.ranks; flow = b.flow; tree = b.tree }

  abbrev pub with_flow : List ℕ → Buffers → Buffers
  with_flow bytes b = record { ranks = over (rank_list M N) b.ranks; flow = over bytes b.flow; tree = b.tree }

  abbrev pub with_tree : List ℕ → Buffers → Buffers
  with_tree bytes b = record { ranks = over (rank_list M N) b.ranks; flow = b.flow; tree = over bytes b.tree }

  -- a kept pair, where the flow buffer must have the room asked, and the first transitions of t are listed; the amounts x are free, and right
  unfoldable pub kept_outcome : (room listed s t : ℕ) → Buffers → (ℕ → Amounts) → Result
  unfolding flow_bytes success
  kept_outcome room listed s t b x = elim (ltb (length b.flow) room) [
    | true ↦ record { answer = refusal 21 0 room; buffers = ranked b }
    | false ↦ record { answer = success s t (length (flow_bytes M N listed s t x)); buffers = with_flow (flow_bytes M N listed s t x) b }
  ]

  -- a pair that is not kept
  unfoldable pub fallen_outcome : ℕ → ℕ → Buffers → Result
  unfolding success
  fallen_outcome s t b = elim (ltb longest (length (tree_bytes M N s t))) [
    | true ↦ record { answer = refusal 23 0 0; buffers = ranked b }
    | false ↦ elim (ltb (length b.tree) (length (tree_bytes M N s t))) [
      | true ↦ record { answer = refusal 22 0 (length (tree_bytes M N s t)); buffers = ranked b }
      | false ↦ record { answer = success s t (length (tree_bytes M N s t)); buffers = with_tree (tree_bytes M N s t) b }
    ]
  ]

  -- a call on two accepted tables, where N is completed for the codes of M
  unfoldable pub outcome : (room listed s t : ℕ) → Buffers → (ℕ → Amounts) → Result
  unfolding kept_outcome fallen_outcome rank
  outcome room listed s t b x = elim (leb (states_of M) s || leb (states_of N) t) [
    | true ↦ record { answer = refusal 11 0 0; buffers = b }
    | false ↦ elim (ltb (length b.ranks) (pairs M N)) [
      | true ↦ record { answer = refusal 20 0 (pairs M N); buffers = b }
      | false ↦ elim (eqb (rank M N s t) 0) [ true ↦ kept_outcome room listed s t b x | false ↦ fallen_outcome s t b ]
    ]
  ]
