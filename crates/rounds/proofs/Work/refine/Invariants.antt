-- `rounds::Work::refine` meets its contract: between two rounds, with the pairs that fall next. Assumes nothing.
use mathlib.Core.Path.{◌≡◌}
use Prim.Native.Nat.{ℕ, ◌-◌, ◌≤◌}
use lib.ListN.{get_or}
use Rattle.simulation.specs.Round.{pairs}
use Rattle.set.specs.Words.{mask}
use Rattle.form.specs.Tables.{first_table, contract_table}
use Rattle.rounds.specs.Turns.{Turning, Kept}
use Rattle.rounds.proofs.Work.refine.Given as goal

abbrev pub invariant-loop-self : goal.invariant-loop-self
invariant-loop-self l =
    Kept l.fn.self l.self × Turning l.self l.last.count (mask l.last.fell)
    × ((i : ℕ) → pairs (first_table l.fn.self.tables.now) (contract_table l.fn.self.tables.now) ≤ i → get_or l.self.ranks.now i 0 ≡ get_or l.fn.self.ranks.now i 0)

abbrev pub decreases-loop-self : goal.decreases-loop-self
decreases-loop-self l = pairs (first_table l.fn.self.tables.now) (contract_table l.fn.self.tables.now) - l.last.count
