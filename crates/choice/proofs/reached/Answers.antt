-- `choice::reached` meets its contract: the rows passed are united. Assumes nothing.
use mathlib.Core.Path.{refl}
use Prim.Native.Nat.{ℕ}
use Rattle.word.specs.Mask.{member}
use Rattle.set.specs.Words.{mask}
use Rattle.set.proofs.Walks.{begun}
use Rattle.relation.specs.Rows.{height}
use Rattle.relation.specs.Related.{holds}
use Rattle.choice.proofs.Choosing.{Uniting, uniting_start, uniting_end}
use Rattle.choice.proofs.reached.Goals as goal

pub loop-i-init : goal.loop-i-init
loop-i-init c =
    begun (λ (n : ℕ). Uniting (holds c.args.rel.now) (member (mask c.args.named)) n (mask c.empty-near.result)) c.into_iter-i-iterator.ensures.into_iter_gives
    (uniting_start refl c.empty-near.ensures)

pub returns : goal.returns
returns c = uniting_end (height c.args.rel.now) c.in-None.ensures.steps.0 c.requires c.loop-i.invariant
