-- Places: how a flow names them, and where one is found. In the flows of a kept pair the transition at the place is fitted, and right amounts exist.
-- Assumes nothing.
use mathlib.Core.Path.{◌≡◌, refl, ap}
use mathlib.Core.Bool.{Bool, true, false, cond}
use mathlib.Core.List.{List, [], ◌∷◌, ◌++◌}
use Prim.Native.Nat.{ℕ, suc, ◌≤◌, ◌<◌}
use native.Mathlib.Nat.{not-suc-le-zero, le_of_suc-le-suc}
use native.Mathlib.Omega.{arith}
use native.Mathlib.Decide.{dec_lt}
use borrow.Author.Tests.{lt-ltb, le-ltb}
use lib.Dec.{T}
use lib.ListN.{length}
use Rattle.simulation.specs.Limits.{most_of_state}
use Rattle.simulation.specs.Fit.{Amounts, Fits}
use Rattle.simulation.specs.Table.{Transition, Table, weights, states_of, steps, transition}
use Rattle.simulation.specs.Round.{Relation, between, fits_step, pairs}
use Rattle.simulation.specs.Demands.{Kept}
use Rattle.decision.specs.Fitting.{SharesIn}
use Rattle.fit.specs.Partner.{place}
use Rattle.fit.proofs.Partner.{place-fits}
use Rattle.flows.specs.Flow.{kept_relation, added_place, named_place, place_of, partner, Right}
use Rattle.simulation.proofs.Fit.Hall.{fits?→Fits}
use Rattle.simulation.proofs.Simulation.Steps.{fits_step-fits}
use Rattle.simulation.proofs.Simulation.Rounds.{in_matched}
use Rattle.simulation.proofs.Simulation.Greatest.{kept_in}

pub named_listed : (n k : ℕ) → k < n → named_place n k ≡ k
unfolding named_place
named_listed n k b = ap (λ (c : Bool). cond c k added_place) (lt-ltb k n b)

pub named_added : (n k : ℕ) → n ≤ k → named_place n k ≡ added_place
unfolding named_place
named_added n k b = ap (λ (c : Bool). cond c k added_place) (le-ltb k n b)

-- no listed place is named so, since a state lists at most as many transitions as a byte can count
pub named_told : (n k : ℕ) → n ≤ most_of_state → named_place n k ≡ added_place → n ≤ k
named_told n k few e = go (dec_lt k n)
  where
    go : Dec (k < n) → n ≤ k
    go (yes b) = absurd (omega (arith, named_listed n k b))
    go (no b) = omega arith

-- where one of the transitions fits, it is found whatever follows them
pub place-before : (R : Relation) (m : Transition) (ns more : List Transition) → place R m ns < length ns → place R m (ns ++ more) ≡ place R m ns
unfolding place
place-before R m [] more b = absurd (not-suc-le-zero b)
place-before R m (n ∷ ns) more b = go (fits_step R m n) b (place-before R m ns more)
  where
    go : (c : Bool) → cond c 0 (suc (place R m ns)) < suc (length ns) → (place R m ns < length ns → place R m (ns ++ more) ≡ place R m ns)
        → cond c 0 (suc (place R m (ns ++ more))) ≡ cond c 0 (suc (place R m ns))
    go true b later = refl
    go false b later = ap suc (later (le_of_suc-le-suc b))

module _ (M N : Table) (s t : ℕ) (a : s < states_of M) (b : t < states_of N) (kept : Kept M N s t) where
  -- the transition k of s fits the one at its place
  pub partner-fits : (k : ℕ) → k < length (steps M s)
      → (place_of M N s t k < length (steps N t)) × T (fits_step (kept_relation M N) (transition M s k) (partner M N s t k))
  partner-fits k c =
      let r = in_matched M N (pairs M N) s t (kept_in M N (suc (pairs M N)) s t a b kept) k c in
      place-fits (kept_relation M N) (transition M s k) (steps N t) r.0 r.1 r.2

  abbrev Fit : ℕ → Type 0
  Fit k = Fits (λ i j. T (between (kept_relation M N) (transition M s k) (partner M N s t k) i j)) (weights (transition M s k)) (weights (partner M N s t k))

  fit : (k : ℕ) → k < length (steps M s) → Fit k
  fit k c =
      fits?→Fits (between (kept_relation M N) (transition M s k) (partner M N s t k)) (weights (transition M s k)) (weights (partner M N s t k))
      (fits_step-fits (kept_relation M N) (transition M s k) (partner M N s t k) (partner-fits k c).1)

  abbrev pick : (k : ℕ) → Dec (k < length (steps M s)) → Amounts
  pick k (yes c) = (fit k c).amount
  pick k (no c) = λ i j. 0

  picked : (k : ℕ) (d : Dec (k < length (steps M s))) → k < length (steps M s)
      → SharesIn (kept_relation M N) (transition M s k) (partner M N s t k) (pick k d)
  picked k (yes c) x = (fit k c).shares
  picked k (no c) x = absurd (c x)

  pub right-amounts : (x : ℕ → Amounts) × Right M N s t x
  unfolding Right
  right-amounts = ((λ k. pick k (dec_lt k (length (steps M s)))), λ k c. picked k (dec_lt k (length (steps M s))) c)
