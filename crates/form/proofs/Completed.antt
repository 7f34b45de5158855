-- A table completed for the codes of another, whatever the two hold: it keeps its states, and its own transitions answer the codes that it lists.
-- Assumes nothing.
use mathlib.Core.Path.{◌≡◌}
use mathlib.Core.Bool.{Bool}
use Prim.Native.Nat.{ℕ}
use lib.Dec.{T}
use Rattle.simulation.specs.Sum.{any_of}
use Rattle.simulation.specs.Table.{Transition, Table, states_of, steps}
use Rattle.simulation.specs.Round.{Relation, fits_step}
use Rattle.simulation.specs.Tree.{apart}
use Rattle.simulation.specs.Complete.{lists, contract_for}
use Rattle.simulation.proofs.Complete.Tables.{complete-states, search_listed}
use Rattle.simulation.proofs.Complete.Loops.{matched-listed, apart-listed}

module _ (M N : Table) where
  pub contract-states : states_of (contract_for M N) ≡ states_of N
  contract-states = complete-states M.codes N

  -- a code that N lists
  module _ (m : Transition) (t : ℕ) (listed : T (lists N.codes m.code)) where
    pub asked_listed : (p : Transition → Bool) → ((n : Transition) → T (p n) → n.code ≡ m.code)
        → any_of p (steps (contract_for M N) t) ≡ any_of p (steps N t)
    asked_listed p like = search_listed M.codes N t m.code p like listed

    pub answered-listed : (R : Relation) → any_of (fits_step R m) (steps (contract_for M N) t) ≡ any_of (fits_step R m) (steps N t)
    answered-listed R = matched-listed R m M.codes N t listed

    pub apart_by-listed : (R : Relation) (i u : ℕ) → apart R m (steps (contract_for M N) t) i u ≡ apart R m (steps N t) i u
    apart_by-listed R i u = apart-listed R m M.codes N t listed i u
