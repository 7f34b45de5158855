-- `choice::choose` meets its contract: the transitions of s passed fit one of t.
-- Assumes nothing.
use Rattle.form.specs.declared.tables.Tables.{Tables}
use mathlib.Core.List.{List}
use mathlib.Core.Path.{◌≡◌}
use Rattle.std.specs.Prelude.{Option}
use Prim.Native.Nat.{ℕ, ◌-◌, ◌+◌}
use lib.ListN.{length}
use Rattle.form.specs.Form.{start_of}
use Rattle.form.specs.Tables.{first_form}
use Rattle.choice.specs.Choice.{Tested}
use Rattle.choice.proofs.Choosing.{Trying}
use Rattle.choice.proofs.choose.Given as goal

-- the walk over the transitions of s; l is one of t that number j fits, if it fits one
pub record Walk (tables : Tables) (s t r : ℕ) (sets₀ amounts₀ : List ℕ) (sets amounts : List ℕ) (j : ℕ) (l : Option ℕ) : Type 0 where
  pub trying : Trying tables s t j
  pub tested : Tested tables s t r j l sets
  pub same-sets : length sets ≡ length sets₀
  pub same-amounts : length amounts ≡ length amounts₀

abbrev pub invariant-loop-fitted : goal.invariant-loop-fitted
invariant-loop-fitted l = Walk l.tables l.s l.t l.r l.initial.sets l.initial.amounts l.sets l.amounts l.j l.fitted

abbrev pub decreases-loop-fitted : goal.decreases-loop-fitted
decreases-loop-fitted l = start_of (first_form l.tables) (l.s + 1) - l.j
