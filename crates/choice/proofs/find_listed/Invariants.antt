-- `choice::find_listed` meets its contract: the listed transitions of t passed are gathered into the sets.
-- Assumes nothing.
use Rattle.form.specs.declared.tables.Tables.{Tables}
use mathlib.Core.List.{List}
use mathlib.Core.Path.{◌≡◌}
use mathlib.Core.Bool.{true}
use Prim.Native.Nat.{ℕ, ◌-◌, ◌+◌, ◌≤◌, pred}
use lib.Dec.{eqb}
use lib.ListN.{length}
use Rattle.simulation.specs.Round.{round}
use Rattle.form.specs.Form.{start_of}
use Rattle.form.specs.Tables.{second_form, first_table, contract_table, first_step, second_step}
use Rattle.choice.proofs.Choosing.{SetsGathering}
use Rattle.choice.proofs.find_listed.Given as goal

-- the walk over the transitions of t, from the lists sets₀ and amounts₀ on
pub record Walk (tables : Tables) (t r j : ℕ) (sets₀ amounts₀ : List ℕ) (code end : ℕ) (sets amounts : List ℕ) (k : ℕ) : Type 0 where
  pub gathering : SetsGathering (round (first_table tables) (contract_table tables) (pred r)) (first_step tables j) tables t k sets
  pub own : code ≡ (first_step tables j).code
  pub ends : end ≡ start_of (second_form tables) (t + 1)
  pub within : k ≤ end
  pub same-sets : length sets ≡ length sets₀
  pub same-amounts : length amounts ≡ length amounts₀

abbrev pub invariant-loop-next : goal.invariant-loop-next
invariant-loop-next l = Walk l.tables l.t l.r l.j l.initial.sets l.initial.amounts l.code l.end l.sets l.amounts l.l

abbrev pub decreases-loop-next : goal.decreases-loop-next
decreases-loop-next l = l.end - l.l
