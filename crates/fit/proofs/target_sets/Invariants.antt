-- `fit::target_sets` meets its contract: the places passed have their sets. Assumes nothing.
use mathlib.Core.Path.{◌≡◌}
use Prim.Native.Nat.{◌≤◌}
use lib.ListN.{length}
use Rattle.form.specs.Form.{transitions_of}
use Rattle.form.specs.Tables.{second_form}
use Rattle.fit.proofs.Sets.{SetsTo}
use Rattle.fit.proofs.target_sets.Given as goal

abbrev pub invariant-loop-l : goal.invariant-loop-l
invariant-loop-l l = (l.l ≤ l.n) × (l.n ≡ transitions_of (second_form l.tables)) × (length l.sets ≡ length l.initial.sets) × SetsTo (second_form l.tables) l.l l.sets
