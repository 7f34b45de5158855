-- `loading::put_supports` meets its contract: the entries of the transitions below the loop's counter are put, with where they begin.
-- Assumes nothing.
use mathlib.Core.Path.{◌≡◌}
use Prim.Native.Nat.{◌+◌, ◌*◌, ◌-◌, ◌≤◌}
use Rattle.simulation.specs.Limits.{wide}
use Rattle.layout.specs.Bytes.{start}
use Rattle.form.specs.Form.{entry_starts_from, listed_from}
use Rattle.loading.specs.Fill.{Between, support_start, Supports}
use Rattle.loading.proofs.put_supports.Given as goal

-- before the transition j, whose entries begin at a place of the bytes and come next in the form
abbrev pub invariant-loop-j : goal.invariant-loop-j
invariant-loop-j l =
    (l.j ≤ l.j-end) × (l.at ≡ l.t.entries.at + 3 * start wide l.s l.j) × (l.n ≡ support_start l.s l.j) × Supports l.s l.form l.j × Between entry_starts_from listed_from l.initial.form l.form

abbrev pub decreases-loop-j : goal.decreases-loop-j
decreases-loop-j l = l.j-end - l.j
