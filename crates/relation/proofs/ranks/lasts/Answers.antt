-- `relation::ranks::lasts` meets its contract. Assumes nothing.
use Rattle.relation.proofs.Lasting.{lasts_digit}
use Rattle.relation.proofs.ranks.lasts.Goals as goal

pub returns : goal.returns
returns c = lasts_digit c.args.r c.args.rank c.ranges.r.fits c.ranges.rank.fits
