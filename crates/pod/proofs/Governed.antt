-- A contract that lists every code of the pod is judged as it stands.
-- Assumes nothing.
use mathlib.Core.Path.{◌≡◌, ap, ◌∙◌}
use mathlib.Core.List.{List}
use Prim.Native.Nat.{ℕ}
use lib.Dec.{T}
use lib.ListN.{length}
use Rattle.simulation.specs.Table.{Table, steps}
use Rattle.simulation.specs.Support.{supported}
use Rattle.simulation.specs.Complete.{lists}
use Rattle.simulation.proofs.Complete.Tables.{complete-same}
use Rattle.layout.specs.Bytes.{accepted, decode}
use Rattle.flows.specs.Flow.{flow_room}
use Rattle.compare.specs.Outcome.{Buffers, Result, outcome}
use Rattle.pod.specs.Check.{contract, Checked}
use Rattle.pod.proofs.Demands.{call-outcome}

module _ (M N : Table) (all : (c : ℕ) → T (lists M.codes c) → T (lists N.codes c)) where
  pub contract-itself : contract M N ≡ supported N
  unfolding supported
  contract-itself = complete-same M.codes (supported N) all

  pub governed : (first second : List ℕ) (s t : ℕ) (b : Buffers) (r : Result) (h : Checked first second s t b r) → decode first ≡ accepted M → decode second ≡ accepted N
      → r ≡ outcome (supported M) (supported N) (flow_room M N s) (length (steps N t)) s t b h.amounts
  governed first second s t b r h e f =
      call-outcome first second s t b r h M N e f
      ∙ ap (λ (K : Table). outcome (supported M) K (flow_room M N s) (length (steps N t)) s t b h.amounts) contract-itself
