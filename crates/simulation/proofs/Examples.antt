-- Tables P and C of 01 are sound, so all demands hold of them.
-- Assumes nothing.
use Rattle.simulation.specs.Demands.{Sound, Demands}
use Rattle.simulation.specs.Examples.{P, C}
use Rattle.simulation.proofs.Soundness.{sound?, sound_by_test}
use Rattle.simulation.proofs.Demands.{demands}

pub sound_P : Sound P
unfolding sound?
sound_P = sound_by_test P tt

pub sound_C : Sound C
unfolding sound?
sound_C = sound_by_test C tt

pub demands_PC : Demands P C
demands_PC = demands P C sound_P sound_C
