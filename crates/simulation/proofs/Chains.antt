-- Chains of contracts: of a pair that falls in round r, one part of every chain through a middle state falls by round r.
-- Assumes nothing.
use mathlib.Core.Path.{sym, ◌∙◌, subst}
use mathlib.Core.Logic.{◌⊎◌, inl, inr, ⊎_elim}
use mathlib.Core.Bool.{not}
use Prim.Native.Nat.{ℕ, zero, suc, ◌<◌}
use native.Mathlib.Nat.{le_refl}
use native.Mathlib.Omega.{arith}
use lib.Dec.{T, T_not}
use Rattle.simulation.specs.Sum.{any_of}
use Rattle.simulation.specs.Fit.{Positive, total}
use Rattle.simulation.specs.Table.{Transition, Table, weights, target_at, states_of, steps, no_transition, transition}
use Rattle.simulation.specs.Round.{Relation, related, between, fits_step, round, rank}
use Rattle.simulation.specs.Complete.{lists, contract_for, all_related}
use Rattle.simulation.specs.Chain.{UpTo, Chained, Mediates, SameCodes}
use Rattle.simulation.specs.Demands.{Sound}
use Rattle.simulation.proofs.Finite.Tests.{true_or_not}
use Rattle.simulation.proofs.Finite.Lists.{any_of-at, any_of_by}
use Rattle.simulation.proofs.Fit.Compose.{fits?_compose}
use Rattle.simulation.proofs.Simulation.Rounds.{In, Matched, in_zero, in_left, in_right, round-falls, in_matched, in_next}
use Rattle.simulation.proofs.Simulation.Ranks.{rank_law}
use Rattle.simulation.proofs.Simulation.Steps.{totals, fits_step-code, fits_step-fits, fits_step_by}
use Rattle.simulation.proofs.Complete.Tables.{OwnCodes, complete-states}
use Rattle.simulation.proofs.Complete.Loops.{all_related-at, all_related_by, matched-listed, matched-added, matched-same}

-- relations compose over a step between
module _ (R Q Z : Relation) (compose : (a b c : ℕ) → T (related R a b) → T (related Q b c) → T (related Z a c)) where
  fits_through : (m n o : Transition) → 0 < total (weights n) → T (fits_step R m n) → T (fits_step Q n o) → T (fits_step Z m o)
  fits_through m n o some f g =
      fits_step_by Z m o (fits_step-code R m n f ∙ fits_step-code Q n o g)
      (fits?_compose (between R m n) (between Q n o) (between Z m o) (weights m) (weights n) (weights o) some
      (λ i j l _ _ _ u v. compose (target_at m i) (target_at n j) (target_at o l) u v) (fits_step-fits R m n f) (fits_step-fits Q n o g))

-- tables that list the same codes
pub same_mediates : (A B C : Table) → SameCodes A B → Mediates A B C
same_mediates A B C same c a _ = (same c).0 a

module _ (A B C : Table) (sound-A : Sound A) (sound-B : Sound B) (codes-A : OwnCodes A) (codes-B : OwnCodes B) (codes-C : OwnCodes C) (mediates : Mediates A B C) where
  abbrev AB : Table
  AB = contract_for A B

  abbrev BC : Table
  BC = contract_for B C

  abbrev Ac : Table
  Ac = contract_for A C

  -- what b answers m by, c answers too, if (b, c) stands in Q
  module _ (R Q Z : Relation) (compose : (a b c : ℕ) → T (related R a b) → T (related Q b c) → T (related Z a c))
      (m : Transition) (asked : T (lists A.codes m.code)) (positive : Positive (weights m)) (b c : ℕ) (state-b : b < states_of B) (state-c : c < states_of C)
      (answered : T (any_of (fits_step R m) (steps AB b))) where
    -- by a transition that B lists
    over-listed : T (lists B.codes m.code) → Matched B BC Q b c → T (any_of (fits_step Z m) (steps Ac c))
    over-listed h g =
        let r = any_of-at (fits_step R m) no_transition (steps B b) (subst T (matched-listed R m A.codes B b h) answered) in
        let q = g r.0 r.1 in
        subst T (matched-same Z m B.codes A.codes C c codes-C state-c h asked positive)
        (any_of_by (fits_step Z m) no_transition (steps BC c) q.0 q.1
        (fits_through R Q Z compose m (transition B b r.0) (transition BC c q.0) (totals B sound-B b r.0 r.1) r.2 q.2))

    -- by staying: then C does not list the code either
    over_added : ¬ T (lists B.codes m.code) → T (related Q b c) → T (any_of (fits_step Z m) (steps Ac c))
    over_added n g =
        let stays : T (all_related R m b) = subst T (matched-added R m A.codes B b codes-B state-b asked n positive) answered in
        subst T (sym (matched-added Z m A.codes C c codes-C state-c asked (λ l. n (mediates m.code asked l)) positive))
        (all_related_by Z m c m.code (λ i l. compose (target_at m i) b c (all_related-at R m b m.code stays i l) g))

    passed_on : Matched B BC Q b c → T (related Q b c) → T (any_of (fits_step Z m) (steps Ac c))
    passed_on g h = ⊎_elim (λ l. over-listed l g) (λ f. over_added (T_not (lists B.codes m.code) f) h) (true_or_not (lists B.codes m.code))

  -- rounds compose
  in_chain : (k a b c : ℕ) → In A AB k a b → In B BC k b c → In A Ac k a c
  in_chain zero a b c x y = in_zero A Ac (in_left A AB zero a b x) (omega (arith, in_right B BC zero b c y, complete-states B.codes C, complete-states A.codes C))
  in_chain (suc k) a b c x y =
      in_next A Ac k a c (in_chain k a b c (round-falls A AB k a b x) before) (λ i own.
      let m = transition A a i in
      let r = in_matched A AB k a b x i own in
      any_of-at (fits_step (round A Ac k) m) no_transition (steps Ac c)
      (passed_on (round A AB k) (round B BC k) (round A Ac k) (in_chain k) m (codes-A.listed a i own) (λ j. sound-A.positive a i j own) b c state-b state-c
      (any_of_by (fits_step (round A AB k) m) no_transition (steps AB b) r.0 r.1 r.2) (in_matched B BC k b c y) before))
    where
      before : In B BC k b c
      before = round-falls B BC k b c y

      state-b : b < states_of B
      state-b = omega (arith, in_right A AB (suc k) a b x, complete-states A.codes B)

      state-c : c < states_of C
      state-c = omega (arith, in_right B BC (suc k) b c y, complete-states B.codes C)

  pub chain : (a b c : ℕ) → a < states_of A → b < states_of B → c < states_of C → Chained (rank A Ac a c) (rank A AB a b) (rank B BC b c)
  chain a b c x y z some = go (true_or_not (related (round A AB r) a b)) (true_or_not (related (round B BC r) b c))
    where
      r : ℕ
      r = rank A Ac a c

      y' : b < states_of AB
      y' = omega (arith, complete-states A.codes B)

      go : In A AB r a b ⊎ T (not (related (round A AB r) a b)) → In B BC r b c ⊎ T (not (related (round B BC r) b c))
          → UpTo r (rank A AB a b) ⊎ UpTo r (rank B BC b c)
      go (inr f) h = inl (((rank_law A AB a b x y').outside r).0 (T_not (related (round A AB r) a b) f))
      go (inl g) (inr f) = inr (((rank_law B BC b c y (omega (arith, complete-states B.codes C))).outside r).0 (T_not (related (round B BC r) b c) f))
      go (inl g) (inl h) = absurd (((rank_law A Ac a c x (omega (arith, complete-states A.codes C))).outside r).1 (some, le_refl r) (in_chain r a b c g h))
