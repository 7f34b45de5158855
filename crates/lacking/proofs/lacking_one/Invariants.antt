-- `lacking::lacking_one` meets its contract. The loop's invariant: the set has the states that lack the code of a transition passed.
-- Assumes nothing.
use Prim.Native.Nat.{◌≤◌}
use Rattle.set.specs.Words.{mask}
use Rattle.form.specs.Tables.{first_form, contract_table}
use Rattle.lacking.proofs.Lacked.{Lacked}
use Rattle.lacking.proofs.lacking_one.Given as goal

abbrev pub invariant-loop-j : goal.invariant-loop-j
invariant-loop-j l = (l.start ≤ l.j) × (l.j ≤ l.end) × Lacked (first_form l.tables) (contract_table l.tables) l.start l.j (mask l.without)
