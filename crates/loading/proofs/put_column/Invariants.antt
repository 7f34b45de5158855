-- `loading::put_column` meets its contract: the numbers below the loop's counter are put.
-- Assumes nothing.
use Rattle.loading.specs.Fill.{FormFilledBy}
use Rattle.loading.proofs.put_column.Given as goal

abbrev pub invariant-loop-i : goal.invariant-loop-i
invariant-loop-i g l = FormFilledBy (goal.F-post g l.value) l.initial.form l.to l.i l.form
