-- `set::Set::bit` meets its contract. Assumes nothing.
use mathlib.Core.Path.{◌∙◌, ap}
use Rattle.simulation.specs.Sum.{when}
use Rattle.set.proofs.Sets.{mask-bit}
use Rattle.set.proofs.Set.bit.Goals as goal

pub returns : goal.returns
returns c = c.bit.ensures ∙ ap (λ b. when b 1) (mask-bit c.args.self c.args.t c.requires)
