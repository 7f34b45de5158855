-- Fitting and matching of transitions look at a relation only at their targets.
-- Assumes nothing.
use mathlib.Core.Path.{◌≡◌, ap, subst}
use mathlib.Core.Bool.{Bool, ◌&&◌}
use Prim.Native.Nat.{ℕ, ◌<◌}
use lib.Dec.{T, eqb}
use lib.ListN.{length}
use Rattle.simulation.specs.Sum.{any_of}
use Rattle.simulation.specs.Table.{Transition, Table, weights, steps, no_transition, transition}
use Rattle.simulation.specs.Round.{Relation, between, fits_step}
use Rattle.simulation.proofs.Finite.Lists.{all_of-at, all_of_by, any_of-at, any_of_by}
use Rattle.simulation.proofs.Fit.Agree.{Agree, fits_agree}
use Rattle.simulation.proofs.Simulation.Steps.{fits_step-code}
use Rattle.fit.specs.Held.{matched}

-- two relations agree on the targets of m and of n
abbrev pub Alike : Relation → Relation → Transition → Transition → Type 0
Alike R Q m n = Agree (length (weights m)) (length (weights n)) (between R m n) (between Q m n)

pub fits_step_agree : (R Q : Relation) (m n : Transition) → Alike R Q m n → fits_step R m n ≡ fits_step Q m n
unfolding fits_step
fits_step_agree R Q m n same = ap (λ (b : Bool). eqb m.code n.code && b) (fits_agree (between R m n) (between Q m n) (weights m) (weights n) same)

-- a pair whose pairs of targets of like-coded transitions are as they were stays matched
pub matched_agree : (M N : Table) (R Q : Relation) (s t : ℕ)
    → ((k l : ℕ) → k < length (steps M s) → l < length (steps N t) → (transition M s k).code ≡ (transition N t l).code → Alike R Q (transition M s k) (transition N t l))
    → T (matched M N R s t) → T (matched M N Q s t)
matched_agree M N R Q s t same h =
    all_of_by (λ m. any_of (fits_step Q m) (steps N t)) no_transition (steps M s) (λ k a.
    let x = any_of-at (fits_step R (transition M s k)) no_transition (steps N t) (all_of-at (λ m. any_of (fits_step R m) (steps N t)) no_transition (steps M s) h k a) in
    any_of_by (fits_step Q (transition M s k)) no_transition (steps N t) x.0 x.1
    (subst T (fits_step_agree R Q (transition M s k) (transition N t x.0) (same k x.0 a x.1 (fits_step-code R (transition M s k) (transition N t x.0) x.2))) x.2))
