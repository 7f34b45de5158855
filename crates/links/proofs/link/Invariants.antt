-- `links::link` meets its contract. The loop's invariant: the states passed are linked.
-- Assumes nothing.
use Prim.Native.Nat.{ℕ, ◌<◌}
use Rattle.links.specs.Links.{StateLinks, RowsBelow}
use Rattle.links.proofs.link.Given as goal

abbrev pub invariant-loop-s : goal.invariant-loop-s
invariant-loop-s l = ((r : ℕ) → r < l.s → StateLinks l.form.numbers.now r l.before) × RowsBelow l.n l.before
