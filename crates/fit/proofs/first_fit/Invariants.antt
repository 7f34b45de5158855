-- `fit::first_fit` meets its contract. The loop's invariant: none of the transitions passed fits.
-- Assumes nothing.
use mathlib.Core.Path.{◌≡◌}
use Prim.Native.Nat.{◌-◌, ◌≤◌}
use lib.ListN.{length}
use Rattle.form.specs.Form.{start_of}
use Rattle.form.specs.Tables.{second_form}
use Rattle.fit.proofs.Trying.{Unfitted}
use Rattle.fit.proofs.first_fit.Given as goal

abbrev pub invariant-loop-next : goal.invariant-loop-next
invariant-loop-next l =
    (start_of (second_form l.tables) l.t ≤ l.l) × (length l.amounts ≡ length l.initial.amounts) × Unfitted l.tables l.rows l.j l.t l.l

abbrev pub decreases-loop-next : goal.decreases-loop-next
decreases-loop-next l = l.end - l.l
