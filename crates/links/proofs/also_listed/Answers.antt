-- `links::also_listed` meets its contract: a code that repeats is listed as the one before it is.
-- Assumes nothing.
use mathlib.Core.Path.{sym, ap, ◌∙◌}
use Prim.Native.Nat.{pred}
use native.Mathlib.Omega.{arith}
use Rattle.simulation.specs.Complete.{lists}
use Rattle.simulation.proofs.Complete.Codes.{lists-same}
use Rattle.simulation.proofs.Finite.Tests.{true_T}
use Rattle.form.specs.Tables.{second_table}
use Rattle.links.proofs.also_listed.Goals as goal

pub returns-then-repeats : goal.returns-then-repeats
returns-then-repeats c _ =
    let again = c.repeats.ensures c.if-repeats.true in
    lists-same (second_table c.args.tables.now).codes again.1 (c.requires.2 (pred c.args.j) (omega (arith, again.0)))

pub returns : goal.returns
returns c e =
    let tables = c.args.tables.now in
    true_T (sym (ap (lists (second_table tables).codes) c.code-code.ensures) ∙ sym c.lists.ensures ∙ e)
