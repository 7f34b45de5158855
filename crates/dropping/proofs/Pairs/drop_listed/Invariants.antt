-- `dropping::Pairs::drop_listed` meets its contract: of the members passed, those that list no fitting transition are gathered. Assumes nothing.
use Rattle.set.specs.Words.{mask}
use Rattle.fit.specs.Held.{fits_listed}
use Rattle.fit.specs.Known.{Tried}
use Rattle.dropping.proofs.Dropping.{Picked}
use Rattle.dropping.proofs.Pairs.drop_listed.Given as goal

abbrev pub invariant-loop-t : goal.invariant-loop-t
invariant-loop-t l =
    Picked (mask l.fn.near) (fits_listed l.self.tables.now l.self.rows.now l.j) (mask l.t-iterator.left) (mask l.fallen) × Tried l.self.tables.now l.self.rows.now l.tried
