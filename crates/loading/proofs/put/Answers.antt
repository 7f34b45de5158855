-- `loading::put` meets its contract.
-- Assumes nothing.
use Rattle.loading.proofs.FillLaws.{filled-one}
use Rattle.loading.proofs.put.Goals as goal

pub returns : goal.returns
returns c = filled-one c.args.form.now c.args.at c.args.v c.requires
