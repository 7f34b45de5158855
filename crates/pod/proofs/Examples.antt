-- 01's starred examples: of each row's call every result that the contract allows is the one that 01 gives. The same for rows with entries of weight 0, and
-- with codes that only one table lists.
-- Assumes nothing.
use mathlib.Core.Path.{◌≡◌, refl, ap, ◌∙◌}
use mathlib.Core.List.{List, [], ◌∷◌}
use Prim.Native.Nat.{ℕ, ◌+◌}
use native.Mathlib.Omega.{arith}
use native.Mathlib.Decide.{ℕ_discrete}
use lib.Dec.{T}
use lib.ListN.{length}
use Rattle.simulation.specs.Sum.{sum}
use Rattle.simulation.specs.Fit.{Amounts, Shares, total}
use Rattle.simulation.specs.Round.{between, round, rank}
use Rattle.simulation.specs.Demands.{Kept}
use Rattle.simulation.specs.Tree.{node_bytes, tree}
use Rattle.simulation.specs.Examples as tables
use Rattle.layout.specs.Bytes.{decode_as}
use Rattle.fit.specs.Partner.{place}
use Rattle.flows.specs.Flow.{Right, named_place, flow_record, flow_row, flow_records, amounts_count, flow_of, flow_bytes}
use Rattle.compare.specs.Outcome.{Buffers, Result, success, with_flow, outcome, kept_outcome, left}
use Rattle.compare.specs.Steps.{RightIfKept}
use Rattle.pod.specs.Check.{checked, RightFor}
use Rattle.pod.specs.Examples.{flow_CP, tree_fits, tree_short, itself, flow_fits, flow_short, one_state, no_bytes, cut_short, byte_more, codes_exchanged, second_cut_short, rows, watched_first, watched_second, watched_flow, watched_short, watched_rows, flow_alone, alone_fits, alone_short, not_taken, second_only, over_added, partial_rows, Covered, All, done, ◌also◌}

-- the amounts of C, P: any right ones are 01's
module _ (x : ℕ → Amounts) (right : Right tables.C tables.P 0 0 x) where
  shares : Shares (λ i j. T (between (round tables.C tables.P 9) (tables.fork 1) (tables.fork 3) i j)) (1 ∷ 1 ∷ []) (3 ∷ 1 ∷ []) (x 0)
  unfolding Right place round
  shares = right 0 (omega arith)

  unrelated : x 0 0 1 ≡ 0
  unfolding round
  unrelated = go (ℕ_discrete (x 0 0 1) 0)
    where
      go : Dec (x 0 0 1 ≡ 0) → x 0 0 1 ≡ 0
      go (yes e) = e
      go (no d) = absurd (shares.support 0 1 (omega arith) (omega arith) d)

  row_0 : x 0 0 1 + (x 0 0 0 + 0) ≡ 4
  unfolding total sum
  row_0 = shares.sent 0 (omega arith)

  row_1 : x 0 1 1 + (x 0 1 0 + 0) ≡ 4
  unfolding total sum
  row_1 = shares.sent 1 (omega arith)

  column_1 : x 0 1 1 + (x 0 0 1 + 0) ≡ 2
  unfolding total sum
  column_1 = shares.taken 1 (omega arith)

  flow-is : flow_bytes tables.C tables.P 1 0 0 x ≡ flow_CP
  unfolding flow_bytes named_place flow_of amounts_count flow_records flow_row flow_record place round
  flow-is = simp (at_00, at_01, at_10, at_11)
    where
      at_00 : x 0 0 0 ≡ 4
      at_00 = omega (arith, unrelated, row_0)

      at_01 : x 0 0 1 ≡ 0
      at_01 = unrelated

      at_10 : x 0 1 0 ≡ 2
      at_10 = omega (arith, unrelated, row_1, column_1)

      at_11 : x 0 1 1 ≡ 2
      at_11 = omega (arith, unrelated, column_1)

-- each row by itself: all in one declaration come near the limit of what the prover compares at once, and a refusal would not name its row

on-tree_fits : Covered tree_fits
unfolding checked decode_as node_bytes tree
on-tree_fits r h = h.result

on-tree_short : Covered tree_short
unfolding checked decode_as node_bytes tree
on-tree_short r h = h.result

on-itself : Covered itself
unfolding checked decode_as node_bytes tree
on-itself r h = h.result

kept_CP : Kept tables.C tables.P 0 0
unfolding rank
kept_CP = refl

-- what a call with room for it gives
abbrev shown_CP : Buffers → List ℕ → Result
shown_CP b l = left (success tables.C tables.P 0 0 (length l)) (with_flow tables.C tables.P l b)

with_CP : (b : Buffers) (x : ℕ → Amounts) → RightIfKept tables.C tables.P 0 0 x → shown_CP b (flow_bytes tables.C tables.P 1 0 0 x) ≡ shown_CP b flow_CP
with_CP b x right = ap (shown_CP b) (flow-is x (right (omega arith) (omega arith) kept_CP))

written_CP : (shown_CP flow_fits.buffers flow_CP ≡ flow_fits.result) × (shown_CP watched_flow.buffers flow_CP ≡ watched_flow.result)
unfolding success
written_CP = (refl, refl)

on-flow_fits : Covered flow_fits
unfolding checked outcome kept_outcome decode_as RightFor
on-flow_fits r h = h.result ∙ with_CP flow_fits.buffers h.amounts h.right ∙ written_CP.0

on-flow_short : Covered flow_short
unfolding checked decode_as node_bytes tree
on-flow_short r h = h.result

on-one_state : Covered one_state
unfolding checked decode_as node_bytes tree
on-one_state r h = h.result

on-no_bytes : Covered no_bytes
unfolding checked decode_as node_bytes tree
on-no_bytes r h = h.result

on-cut_short : Covered cut_short
unfolding checked decode_as node_bytes tree
on-cut_short r h = h.result

on-byte_more : Covered byte_more
unfolding checked decode_as node_bytes tree
on-byte_more r h = h.result

on-codes_exchanged : Covered codes_exchanged
unfolding checked decode_as node_bytes tree
on-codes_exchanged r h = h.result

on-second_cut_short : Covered second_cut_short
unfolding checked decode_as node_bytes tree
on-second_cut_short r h = h.result

on-watched_first : Covered watched_first
unfolding checked decode_as node_bytes tree
on-watched_first r h = h.result

on-watched_second : Covered watched_second
unfolding checked decode_as node_bytes tree
on-watched_second r h = h.result

on-watched_flow : Covered watched_flow
unfolding checked outcome kept_outcome decode_as RightFor
on-watched_flow r h = h.result ∙ with_CP watched_flow.buffers h.amounts h.right ∙ written_CP.1

on-watched_short : Covered watched_short
unfolding checked decode_as node_bytes tree
on-watched_short r h = h.result

pub zeros : All Covered watched_rows
zeros = on-watched_first also on-watched_second also on-watched_flow also on-watched_short also done

-- the amount of display over the transition that completes the contract: its weight
module _ (x : ℕ → Amounts) (right : Right tables.display tables.display 0 0 x) where
  sent-alone : x 0 0 0 ≡ 1
  unfolding Right place round total sum
  sent-alone = let e : x 0 0 0 + 0 ≡ 1 = (right 0 (omega arith)).sent 0 (omega arith) in omega arith

  alone-is : flow_bytes tables.display tables.display 0 0 0 x ≡ flow_alone
  unfolding flow_bytes named_place flow_of amounts_count flow_records flow_row flow_record place round
  alone-is = simp sent-alone

kept-alone : Kept tables.display tables.display 0 0
unfolding rank
kept-alone = refl

abbrev shown-alone : List ℕ → Result
shown-alone l = left (success tables.display tables.display 0 0 (length l)) (with_flow tables.display tables.display l alone_fits.buffers)

with_alone : (x : ℕ → Amounts) → RightIfKept tables.display tables.display 0 0 x → shown-alone (flow_bytes tables.display tables.display 0 0 0 x) ≡ shown-alone flow_alone
with_alone x right = ap shown-alone (alone-is x (right (omega arith) (omega arith) kept-alone))

written-alone : shown-alone flow_alone ≡ alone_fits.result
unfolding success
written-alone = refl

on-alone_fits : Covered alone_fits
unfolding checked outcome kept_outcome decode_as RightFor
on-alone_fits r h = h.result ∙ with_alone h.amounts h.right ∙ written-alone

on-alone_short : Covered alone_short
unfolding checked decode_as node_bytes tree
on-alone_short r h = h.result

on-not_taken : Covered not_taken
unfolding checked decode_as node_bytes tree
on-not_taken r h = h.result

on-second_only : Covered second_only
unfolding checked decode_as node_bytes tree
on-second_only r h = h.result

on-over_added : Covered over_added
unfolding checked decode_as node_bytes tree
on-over_added r h = h.result

pub partial : All Covered partial_rows
partial = on-alone_fits also on-alone_short also on-not_taken also on-second_only also on-over_added also done

pub starred : All Covered rows
starred = on-tree_fits also on-tree_short also on-itself also on-flow_fits also on-flow_short also on-one_state also on-no_bytes also on-cut_short also on-byte_more also on-codes_exchanged also on-second_cut_short also done
