-- `ranking::narrow` meets its contract: the rows passed are cut. Assumes nothing.
use mathlib.Core.Path.{◌≡◌}
use Prim.Native.Nat.{ℕ, ◌≤◌, ◌<◌}
use Rattle.word.specs.Mask.{both, up_to}
use Rattle.relation.specs.Rows.{row_of}
use Rattle.relation.specs.Related.{holds}
use Rattle.ranking.proofs.narrow.Given as goal

abbrev pub invariant-loop-s : goal.invariant-loop-s
invariant-loop-s l = ((r t : ℕ) → r < l.s → holds l.rows r t ≡ both (holds l.initial.rows r) (up_to l.q) t)
    × ((r : ℕ) → l.s ≤ r → row_of l.rows r ≡ row_of l.initial.rows r)
