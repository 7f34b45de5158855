-- How a round moves the rows and the ranks, and what they are at the end. For any two tables.
-- Assumes nothing.
use mathlib.Core.Path.{◌≡◌, refl, sym, ap, ap₂, ◌∙◌, subst}
use mathlib.Core.Logic.{◌⊎◌, inl, inr, ⊎_elim, ◌≢◌}
use mathlib.Core.Bool.{Bool, true, false, not, ◌&&◌}
use mathlib.Core.List.{List}
use Prim.Native.Nat.{ℕ, zero, suc, ◌+◌, ◌*◌, ◌-◌, ◌≤◌, ◌<◌, zero-le}
use native.Mathlib.Nat.{zero-add, suc-add, le_antisymm}
use native.Mathlib.Omega.{arith}
use native.Mathlib.Decide.{dec_le, dec_lt}
use borrow.Author.Tests.{le-leb, lt-leb}
use lib.Dec.{T, T_not, not_T, eqb, ltb, eqb→eq}
use lib.ListN.{get_or}
use Rattle.simulation.specs.Table.{Table, states_of}
use Rattle.simulation.specs.Round.{Relation, related, relation, survives, next, round, pairs, rank, rank_list, maximum}
use Rattle.simulation.proofs.Finite.Tests.{true_or_not, and_both, and_left, and_right, is_false, same_test}
use Rattle.simulation.proofs.Simulation.Relation.{relation-at, relation_ext}
use Rattle.simulation.proofs.Simulation.Rounds.{In, in_left, in_right, round-falls, stays}
use Rattle.simulation.proofs.Simulation.Ranks.{rank_law}
use Rattle.simulation.proofs.Simulation.RankList.{rounds_above, rounds-least}
use Rattle.relation.specs.Related.{holds}
use Rattle.decision.specs.Fitting.{held}
use Rattle.fit.specs.Held.{matched}
use Rattle.dropping.specs.Falling.{falls, Falling}
use Rattle.dropping.proofs.First.{all-pairs}
use Rattle.rounds.specs.Rounds.{shown, After}

-- what of a pair's test is left when the lost pairs are taken away
kept_of : (a b : Bool) → (T b → T a) → (a && not (a && not b)) ≡ b
kept_of true true h = refl
kept_of true false h = refl
kept_of false true h = absurd (h tt)
kept_of false false h = refl

pub shown-none : (r : ℕ) → shown 0 r ≡ 0
shown-none zero = refl
shown-none (suc r) = rw (lt-leb (suc r) 0 (omega arith))

shown_in : (k r : ℕ) → r ≤ k → shown k r ≡ r
shown_in k r h = rw (le-leb r k h)

shown-out : (k r : ℕ) → k < r → shown k r ≡ 0
shown-out k r h = rw (lt-leb r k h)

shown-next : (k r : ℕ) → r ≢ suc k → shown (suc k) r ≡ shown k r
shown-next k r d = go (dec_le r k)
  where
    go : Dec (r ≤ k) → shown (suc k) r ≡ shown k r
    go (yes h) = shown_in (suc k) r (omega arith) ∙ sym (shown_in k r h)
    go (no h) = shown-out (suc k) r (omega arith) ∙ sym (shown-out k r (omega arith))

module _ (M N : Table) where
  -- the next round is what survives
  next-is : (k s t : ℕ) → s < states_of M → related (round M N (suc k)) s t ≡ survives M N (round M N k) s t
  unfolding round next survives
  next-is k s t a = go (dec_lt t (states_of N))
    where
      out : ¬ (t < states_of N) → related (round M N (suc k)) s t ≡ false
      out b = is_false (related (round M N (suc k)) s t) (λ h. b (in_right M N (suc k) s t h))

      go : Dec (t < states_of N) → related (round M N (suc k)) s t ≡ survives M N (round M N k) s t
      go (yes b) = relation-at (states_of M) (states_of N) (survives M N (round M N k)) a b
      go (no b) =
          out b ∙ sym (is_false (survives M N (round M N k) s t) (λ h. b (in_right M N k s t (and_left (related (round M N k) s t) _ h))))

  -- a pair of the next round is matched in this one
  pub in_test : (k s t : ℕ) → In M N (suc k) s t → T (matched M N (round M N k) s t)
  unfolding survives
  in_test k s t h = and_right (related (round M N k) s t) (matched M N (round M N k) s t) (subst T (next-is k s t (in_left M N (suc k) s t h)) h)

  -- a round is the relation of its own tests
  own_tests : (k : ℕ) → relation (states_of M) (states_of N) (related (round M N k)) ≡ round M N k
  unfolding round next
  own_tests zero =
      relation_ext (states_of M) (states_of N) (related (round M N zero)) (λ s t. true) (λ s t a b. relation-at (states_of M) (states_of N) (λ s t. true) a b)
  own_tests (suc k) =
      relation_ext (states_of M) (states_of N) (related (round M N (suc k))) (survives M N (round M N k))
      (λ s t a b. relation-at (states_of M) (states_of N) (survives M N (round M N k)) a b)

  -- rows that hold round k are round k
  pub held-round : (k : ℕ) (rows : List ℕ) → ((s t : ℕ) → s < states_of M → holds rows s t ≡ related (round M N k) s t) → held M N rows ≡ round M N k
  held-round k rows h = relation_ext (states_of M) (states_of N) (holds rows) (related (round M N k)) (λ s t a b. h s t a) ∙ own_tests k

  -- a round equal to the next is every later one
  stays_by : (d k : ℕ) → round M N (suc k) ≡ round M N k → (round M N (suc (d + k)) ≡ round M N (d + k)) × (round M N (d + k) ≡ round M N k)
  stays_by zero k e = rw zero-add (e, refl)
  stays_by (suc d) k e = let r = stays_by d k e in rw suc-add (stays M N (d + k) r.0, r.0 ∙ r.1)

  -- before the first round all pairs are there, and no rank is shown
  pub begins : (rows ranks : List ℕ) → ((s t : ℕ) → s < states_of M → holds rows s t ≡ ltb t (states_of N))
      → ((s t : ℕ) → s < states_of M → t < states_of N → get_or ranks (s * states_of N + t) 0 ≡ 0) → After M N 0 rows ranks
  begins rows ranks f g =
      record {
        rows_are = λ s t a. f s t a ∙ sym (all-pairs M N s t a);
        ranks_are = λ s t a b. g s t a b ∙ sym (shown-none (rank M N s t));
        reached = zero-le;
      }

  -- a pair whose rank is no more than k is in round k if it is kept, and else not
  pub kept_at : (k s t : ℕ) → s < states_of M → t < states_of N → rank M N s t ≤ k → related (round M N k) s t ≡ eqb (rank M N s t) 0
  kept_at k s t a b le = same_test (related (round M N k) s t) (eqb (rank M N s t) 0) to from
    where
      to : In M N k s t → T (eqb (rank M N s t) 0)
      to h = ⊎_elim (λ e. subst (λ (r : ℕ). T (eqb r 0)) (sym e) tt) (λ c. absurd (omega arith)) (((rank_law M N s t a b).within k).0 h)

      from : T (eqb (rank M N s t) 0) → In M N k s t
      from h = ((rank_law M N s t a b).within k).1 (inl (eqb→eq (rank M N s t) 0 h))

  module _ (k : ℕ) (rows ranks : List ℕ) (after : After M N k rows ranks) (lost : List ℕ) (fell : Falling M N (held M N rows) lost) where
    lost-is : (s t : ℕ) → s < states_of M → holds lost s t ≡ (related (round M N k) s t && not (related (round M N (suc k)) s t))
    lost-is s t a =
        fell s t a
        ∙ ap (λ (R : Relation). falls M N R s t) (held-round k rows after.rows_are)
        ∙ ap (λ (b : Bool). related (round M N k) s t && not b) (sym (next-is k s t a))

    -- a lost pair has the next rank
    pub lost-rank : (s t : ℕ) → s < states_of M → T (holds lost s t) → (t < states_of N) × (rank M N s t ≡ suc k)
    lost-rank s t a h =
        let x : T (related (round M N k) s t && not (related (round M N (suc k)) s t)) = subst T (lost-is s t a) h in
        let y : In M N k s t = and_left (related (round M N k) s t) _ x in
        let b : t < states_of N = in_right M N k s t y in
        (b, ((rank_law M N s t a b).above k).1 (y, T_not (related (round M N (suc k)) s t) (and_right (related (round M N k) s t) _ x)))

    rank-lost : (s t : ℕ) → s < states_of M → t < states_of N → rank M N s t ≡ suc k → T (holds lost s t)
    rank-lost s t a b e =
        let x : In M N k s t × ¬ In M N (suc k) s t = ((rank_law M N s t a b).above k).0 e in
        subst T (sym (lost-is s t a)) (and_both (related (round M N k) s t) (not (related (round M N (suc k)) s t)) x.0 (not_T (related (round M N (suc k)) s t) x.1))

    -- a pair falls, so a rank reaches k + 1
    pub more : (s t : ℕ) → s < states_of M → T (holds lost s t) → (suc k ≤ pairs M N) × (suc k ≤ maximum (rank_list M N))
    more s t a h =
        let x = lost-rank s t a h in
        (omega (arith, x.1, (rank_law M N s t a x.0).bound), omega (arith, x.1, rounds_above M N s t a x.0))

    -- the lost pairs leave the rows and get their rank
    pub moves : (rows' ranks' : List ℕ) (s₀ t₀ : ℕ) → s₀ < states_of M → T (holds lost s₀ t₀)
        → ((s t : ℕ) → s < states_of M → holds rows' s t ≡ (holds rows s t && not (holds lost s t)))
        → ((s t : ℕ) → s < states_of M → t < states_of N → T (holds lost s t) → get_or ranks' (s * states_of N + t) 0 ≡ suc k)
        → ((s t : ℕ) → s < states_of M → t < states_of N → ¬ T (holds lost s t) → get_or ranks' (s * states_of N + t) 0 ≡ get_or ranks (s * states_of N + t) 0)
        → After M N (suc k) rows' ranks'
    moves rows' ranks' s₀ t₀ a₀ h₀ f g g' =
        record {
          rows_are = λ s t a.
              f s t a
              ∙ ap₂ (λ (b c : Bool). b && not c) (after.rows_are s t a) (lost-is s t a)
              ∙ kept_of (related (round M N k) s t) (related (round M N (suc k)) s t) (round-falls M N k s t);
          ranks_are = λ s t a b. at s t a b (true_or_not (holds lost s t));
          reached = (more s₀ t₀ a₀ h₀).1;
        }
      where
        at : (s t : ℕ) → s < states_of M → t < states_of N → T (holds lost s t) ⊎ T (not (holds lost s t)) → get_or ranks' (s * states_of N + t) 0 ≡ shown (suc k) (rank M N s t)
        at s t a b (inl h) =
            let e : rank M N s t ≡ suc k = (lost-rank s t a h).1 in
            g s t a b h ∙ sym e ∙ sym (shown_in (suc k) (rank M N s t) (omega arith))
        at s t a b (inr h) =
            g' s t a b (T_not (holds lost s t) h)
            ∙ after.ranks_are s t a b
            ∙ sym (shown-next k (rank M N s t) (λ e. T_not (holds lost s t) h (rank-lost s t a b e)))

    -- a pair that is not lost is in the next round
    pub kept_unless : (s t : ℕ) → In M N k s t → ¬ T (holds lost s t) → In M N (suc k) s t
    kept_unless s t h n = go (true_or_not (related (round M N (suc k)) s t))
      where
        a : s < states_of M
        a = in_left M N k s t h

        go : T (related (round M N (suc k)) s t) ⊎ T (not (related (round M N (suc k)) s t)) → In M N (suc k) s t
        go (inl x) = x
        go (inr x) = absurd (n (subst T (sym (lost-is s t a)) (and_both (related (round M N k) s t) (not (related (round M N (suc k)) s t)) h x)))

    -- where no pair falls, every later round is this one
    module _ (none : (s t : ℕ) → s < states_of M → ¬ T (holds lost s t)) where
      kept_next : (s t : ℕ) → In M N k s t → In M N (suc k) s t
      kept_next s t h = kept_unless s t h (none s t (in_left M N k s t h))

      settled : round M N (suc k) ≡ round M N k
      settled =
          sym (own_tests (suc k))
          ∙ relation_ext (states_of M) (states_of N) (related (round M N (suc k))) (related (round M N k))
          (λ s t a b. same_test (related (round M N (suc k)) s t) (related (round M N k) s t) (round-falls M N k s t) (kept_next s t))
          ∙ own_tests k

      stays_in : (l s t : ℕ) → k ≤ l → In M N k s t → In M N l s t
      stays_in l s t b h =
          subst (λ (j : ℕ). In M N j s t) (omega arith) (subst (λ (R : Relation). T (related R s t)) (sym (stays_by (l - k) k settled).1) h)

      pub last-rank : (s t : ℕ) → s < states_of M → t < states_of N → rank M N s t ≤ k
      last-rank s t a b = go (dec_le (rank M N s t) k)
        where
          go : Dec (rank M N s t ≤ k) → rank M N s t ≤ k
          go (yes c) = c
          go (no c) =
              let law = rank_law M N s t a b in
              let out : ¬ In M N (rank M N s t) s t = (law.outside (rank M N s t)).1 (omega arith, omega arith) in
              absurd (out (stays_in (rank M N s t) s t (omega arith) ((law.within k).1 (inr (omega arith)))))

      -- the ranks are all there
      pub ranks-whole : (s t : ℕ) → s < states_of M → t < states_of N → get_or ranks (s * states_of N + t) 0 ≡ rank M N s t
      ranks-whole s t a b = after.ranks_are s t a b ∙ shown_in k (rank M N s t) (last-rank s t a b)

      -- the count of rounds
      pub rounds_are : k ≡ maximum (rank_list M N)
      rounds_are = le_antisymm after.reached (rounds-least M N k last-rank)

      -- the rows hold the kept pairs
      pub rows_kept : (s t : ℕ) → s < states_of M → t < states_of N → holds rows s t ≡ eqb (rank M N s t) 0
      rows_kept s t a b = after.rows_are s t a ∙ kept_at k s t a b (last-rank s t a b)
