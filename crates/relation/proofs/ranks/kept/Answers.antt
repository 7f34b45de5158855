-- `relation::ranks::kept` meets its contract. Assumes nothing.
use Rattle.relation.proofs.Lasting.{kept_digit}
use Rattle.relation.proofs.ranks.kept.Goals as goal

pub returns : goal.returns
returns c = kept_digit c.args.rank c.ranges.rank.fits
