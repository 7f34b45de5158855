-- `dropping::Pairs::drop_row` meets its contract: those are left that answer each of the transitions passed. Assumes nothing.
use Rattle.set.specs.Words.{mask}
use Rattle.fit.specs.Known.{Tried}
use Rattle.dropping.proofs.Keeping.{Answering}
use Rattle.dropping.proofs.Pairs.drop_row.Given as goal

abbrev pub invariant-loop-j : goal.invariant-loop-j
invariant-loop-j l = Tried l.self.tables.now l.self.rows.now l.tried × Answering l.self.tables.now l.self.rows.now l.s (mask l.near) l.j (mask l.left)
