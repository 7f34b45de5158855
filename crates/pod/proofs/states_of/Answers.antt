-- `pod::states_of` meets its contract.
-- Assumes nothing.
use Rattle.pod.proofs.TableLaws.{cut_short, too_many, counted}
use Rattle.pod.proofs.states_of.Goals as goal

pub returns-in-Ok : goal.returns-in-Ok
returns-in-Ok c = counted _ c.in-Ok.ensures.0 c.in-Ok.ensures.1 c.if-n-le-STATES.true

pub returns-in_default : goal.returns-in_default
returns-in_default c = too_many _ c.in-Ok.ensures.0 c.in-Ok.ensures.1 c.if-n-le-STATES.false

pub returns-in_default-2 : goal.returns-in_default-2
returns-in_default-2 c = cut_short _ _ c.in_default.ensures
