-- What the display is handed after a call on two accepted tables: exactly the bytes that the call wrote.
-- Assumes nothing.
use mathlib.Core.Path.{◌≡◌, ◌∙◌}
use mathlib.Core.List.{List, []}
use Prim.Native.Nat.{ℕ}
use lib.ListN.{length}
use Rattle.simulation.specs.Fit.{Amounts}
use Rattle.simulation.specs.Table.{Table}
use Rattle.simulation.specs.Round.{rank}
use Rattle.flows.specs.Flow.{flow_bytes}
use Rattle.answer.specs.Display.{filled_part}
use Rattle.answer.proofs.Parts.{first-none, first-over, part-kept, part-other}
use Rattle.buffer.specs.Buffer.{over}
use Rattle.compare.specs.Outcome.{Buffers, Result, success}
use Rattle.simulation.specs.Tree.{tree_bytes}
use Rattle.compare.specs.Condition.{Condition, outside, short_ranks, short_flow, short_tree, long_tree, flow_fits, tree_fits, result_of}

-- the part that the answer tells of
abbrev pub handed : Result → List ℕ
handed r = filled_part r.buffers.flow r.buffers.tree r.answer.rank r.answer.written

module _ (M N : Table) (room listed s t : ℕ) (b : Buffers) (x : ℕ → Amounts) where
  -- the bytes that a call writes
  unfoldable pub written_by : {n : ℕ} → Condition M N room s t b n → List ℕ
  written_by (outside _) = []
  written_by (short_ranks _ _) = []
  written_by (short_flow _ _ _) = []
  written_by (short_tree _ _ _ _) = []
  written_by (long_tree _ _ _) = []
  written_by (flow_fits _ _ _) = flow_bytes M N listed s t x
  written_by (tree_fits _ _ _ _) = tree_bytes M N s t

  pub handed_written : {n : ℕ} (c : Condition M N room s t b n) → handed (result_of M N room s t b listed x c) ≡ written_by c
  unfolding success written_by filled_part
  handed_written (outside _) = first-none b.flow
  handed_written (short_ranks _ _) = first-none b.flow
  handed_written (short_flow _ _ _) = first-none b.flow
  handed_written (short_tree _ _ _ _) = first-none b.flow
  handed_written (long_tree _ _ _) = first-none b.flow
  handed_written (flow_fits r k h) =
      let bs = flow_bytes M N listed s t x in
      part-kept (over bs b.flow) b.tree (rank M N s t) (length bs) k ∙ first-over bs b.flow
  handed_written (tree_fits r k h g) =
      let bs = tree_bytes M N s t in
      part-other b.flow (over bs b.tree) (rank M N s t) (length bs) k ∙ first-over bs b.tree
