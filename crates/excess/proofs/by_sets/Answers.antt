-- `excess::by_sets` meets its contract: the sums by sets decide. Assumes nothing.
use mathlib.Core.Path.{refl}
use lib.ListN.{length}
use Rattle.excess.specs.Excess.{related_to}
use Rattle.excess.proofs.Sets.{set_is}
use Rattle.excess.proofs.Hall.{decides}
use Rattle.excess.proofs.by_sets.Goals as goal

pub returns : goal.returns
returns g c = λ R told.
    let ws = c.args.one.weights.now in
    let vs = c.args.other.weights.now in
    let gathered = c.gather_sums.ensures.by_sets (related_to (length ws) R) (λ j a lt e. set_is (length ws) (λ i. R i j) a (told j a lt e)) in
    decides R ws vs refl refl c.total_weight.ensures c.total_weight-2.ensures c.requires.short gathered c.carries.ensures
