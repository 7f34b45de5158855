-- What a call of the check promises: 01's three demands, said of the answer and of what the lent buffers hold.
-- `Checked`, in Check, is the contract of `check`; proofs/Demands proves from it alone what stands here.
-- Assumes nothing.
use Rattle.std.specs.Prelude.{◌≡◌, List, ◌↔◌, ℕ, ◌+◌, ◌*◌, ◌<◌, length, get_or}
use Rattle.simulation.specs.Fit.{Amounts, Fits, Weighting}
use Rattle.simulation.specs.Table.{Table, states_of, steps}
use Rattle.simulation.specs.Support.{supported}
use Rattle.simulation.specs.Round.{rank, rank_list, maximum, zeros}
use Rattle.simulation.specs.Demands.{Kept, Keeping, Told}
use Rattle.layout.specs.Bytes.{refused, accepted, decode}
use Rattle.flows.specs.Flow.{Right, flow_bytes, flow_room}
use Rattle.buffer.specs.Buffer.{over}
use Rattle.compare.specs.Outcome.{Buffers, Result}
use Rattle.simulation.specs.Tree.{tree_bytes}
use Rattle.answer.specs.Numbers.{refusal}
use Rattle.compare.specs.Condition.{Condition, result_of}
use Rattle.pod.specs.Check.{contract}

module _ (first second : List ℕ) (s t : ℕ) (b : Buffers) where
  -- Demand 1: when a call gives which number and names which table
  pub data Call : (number table : ℕ) → Type 0 where
    first_refused : {k : ℕ} → decode first ≡ refused k → Call k 1
    second_refused : {M : Table} {k : ℕ} → decode first ≡ accepted M → decode second ≡ refused k → Call k 2
    both_accepted : {M N : Table} {n : ℕ} → decode first ≡ accepted M → decode second ≡ accepted N
        → Condition (supported M) (contract M N) (flow_room M N s) s t b n → Call n 0

  abbrev pub call_result : (x : ℕ → Amounts) {n k : ℕ} → Call n k → Result
  call_result x (first_refused {k} _) = record { answer = refusal k 1 0; buffers = b }
  call_result x (second_refused {M} {k} _ _) = record { answer = refusal k 2 0; buffers = b }
  call_result x (both_accepted {M} {N} _ _ c) = result_of (supported M) (contract M N) (flow_room M N s) s t b (length (steps N t)) x c

  -- each number exactly under its condition, in 01's order, and with it the whole answer and all three buffers
  pub record Demand1 (r : Result) : Type 0 where
    pub amounts : ℕ → Amounts
    pub exactly : (n k : ℕ) → ((r.answer.number ≡ n) × (r.answer.table ≡ k)) ↔ Call n k
    pub gives : {n k : ℕ} (c : Call n k) → r ≡ call_result amounts c

-- Of two accepted tables, M and N being what they are judged as, with room for the ranks, so also after 21 to 23
module _ (M N : Table) (s t : ℕ) (b : Buffers) (r : Result) where
  -- the rank that the call left for a pair
  abbrev pub rank_at : ℕ → ℕ → ℕ
  rank_at u v = get_or r.buffers.ranks (u * states_of N + v) 0

  -- the pairs of rank 0 are the greatest strong simulation, by Segala and Lynch's weights and by whole amounts;
  -- the answer counts them and says whether (0, 0) is one; a kept pair comes with flows that share out every step, also over the transitions of t
  -- that are not listed
  pub record Demand2 (listed : ℕ) : Type 1 where
    pub weighted : Keeping Weighting M N
    pub whole : Keeping Fits M N
    pub ranks : (u v : ℕ) → u < states_of M → v < states_of N → rank_at u v ≡ rank M N u v
    pub counted : r.answer.number ≡ 0 → (r.answer.kept ≡ zeros (rank_list M N)) × (r.answer.rounds ≡ maximum (rank_list M N))
    pub verdict : r.answer.number ≡ 0 → (r.answer.verdict ≡ 1) ↔ Kept M N 0 0
    pub flows : r.answer.number ≡ 0 → Kept M N s t
        → (x : ℕ → Amounts) × Right M N s t x × (r.answer.written ≡ length (flow_bytes M N listed s t x)) × (r.buffers.flow ≡ over (flow_bytes M N listed s t x) b.flow)

  -- the rank left for a pair is 0 exactly if the second state can follow every tree that the first can, else the least depth of a tree that tells them apart,
  -- and the pair's own tree is one of that depth; the bytes written are those of the chosen pair's tree
  pub record Demand3 : Type 0 where
    pub told : (u v : ℕ) → u < states_of M → v < states_of N → Told M N u v (rank_at u v)
    pub shown : r.answer.number ≡ 0 → ¬ Kept M N s t
        → (r.answer.rank ≡ rank M N s t) × (r.answer.written ≡ length (tree_bytes M N s t)) × (r.buffers.tree ≡ over (tree_bytes M N s t) b.tree)
