-- `excess::add_subsets` meets its contract: each pass joins one place more, and no sum is above that of all. Assumes nothing.
use mathlib.Core.Path.{subst}
use Prim.Native.Nat.{ℕ}
use native.Mathlib.Omega.{arith}
use native.Mathlib.Numerals.{add-one}
use Rattle.excess.proofs.Subsets.{JoinStage, stage-none, stage-next, stage-room, stage-all}
use Rattle.excess.proofs.add_subsets.Goals as goal

pub loop-i-init : goal.loop-i-init
loop-i-init c = record { size = omega arith; stage = stage-none c.args.sums.now }

pub join-requires : goal.join-requires
join-requires c = (omega arith, omega arith, stage-room c.loop-i.invariant.stage (omega arith) c.requires.1)

pub loop-i-preserved : goal.loop-i-preserved
loop-i-preserved c = record { size = omega (arith, c.join.auto.sums); stage = rw add-one (stage-next c.loop-i.invariant.stage c.join.ensures) }

pub returns : goal.returns
returns c = stage-all (subst (λ (n : ℕ). JoinStage c.args.sums.now n c.loop-i.sums) (omega arith) c.loop-i.invariant.stage)
