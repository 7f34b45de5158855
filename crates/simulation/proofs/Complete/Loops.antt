-- Fitting, the cut and the flow over a self-loop, without a flow being computed, and what is found among the transitions of a completed state.
-- Assumes nothing.
use mathlib.Core.Path.{◌≡◌, refl, sym, ◌∙◌, ap, ap₂, subst}
use mathlib.Core.Bool.{Bool, true, false, not, ◌&&◌, ◌||◌, true≢false}
use mathlib.Core.List.{List, [], ◌∷◌}
use mathlib.Core.Logic.{⊎_elim}
use Prim.Native.Nat.{ℕ, ◌*◌, ◌<◌}
use native.Mathlib.Omega.{arith}
use lib.Dec.{T, T_not, eqb, eqb→eq}
use lib.ListN.{length, length-map}
use Rattle.simulation.specs.Sum.{sum, any, any_of}
use Rattle.simulation.specs.Fit.{Amounts, Shares, Positive, weight, total, touched, fits?, cut}
use Rattle.simulation.specs.Table.{Entry, Transition, Table, weights, targets, target_at, states_of, steps}
use Rattle.simulation.specs.Round.{Relation, related, between, fits_step}
use Rattle.simulation.specs.Tree.{cut_of, apart_by, apart}
use Rattle.simulation.specs.Complete.{lists, self_loop, complete, all_related}
use Rattle.simulation.proofs.Finite.Tests.{true_or_not, below_one, and_left, is_true, is_false, same_eqb, touched-some}
use Rattle.simulation.proofs.Finite.Lists.{all_of-at, all_of_by, first_failing}
use Rattle.simulation.proofs.Fit.Quick.{fits_full, misfit_row, weight-none, cut_products}
use Rattle.simulation.proofs.Simulation.Steps.{fits_step-code}
use Rattle.simulation.proofs.Complete.Tables.{OwnCodes, search_added, search_listed}

-- the closed forms, for m over the transition of t to itself

not_false : (b : Bool) → not b ≡ false → b ≡ true
not_false true e = refl
not_false false e = absurd (true≢false e)

not_true : (b : Bool) → not b ≡ true → b ≡ false
not_true true e = absurd (true≢false (sym e))
not_true false e = refl

and_or : (a : Bool) → ((a && true) || false) ≡ a
and_or true = refl
and_or false = refl

one-total : 0 < total (1 ∷ [])
unfolding total sum
one-total = omega arith

module _ (R : Relation) (m : Transition) (t c : ℕ) where
  loop : ℕ → ℕ → Bool
  loop = between R m (self_loop t c)

  loop-at : (i j : ℕ) → j < 1 → loop i j ≡ related R (target_at m i) t
  unfolding loop
  loop-at i j b = below_one (λ k. loop i k ≡ related R (target_at m i) t) refl j b

  target_of : (i : ℕ) → i < length (weights m) → i < length (targets m)
  target_of i b = omega (arith, length-map m.entries (λ (e : Entry). e.weight), length-map m.entries (λ (e : Entry). e.target))

  weight_of-target : (i : ℕ) → i < length (targets m) → i < length (weights m)
  weight_of-target i b = omega (arith, length-map m.entries (λ (e : Entry). e.weight), length-map m.entries (λ (e : Entry). e.target))

  pub all_related-at : T (all_related R m t) → (i : ℕ) → i < length (weights m) → T (related R (target_at m i) t)
  unfolding all_related
  all_related-at h i b = all_of-at (λ u. related R u t) 0 (targets m) h i (target_of i b)

  pub all_related_by : ((i : ℕ) → i < length (weights m) → T (related R (target_at m i) t)) → T (all_related R m t)
  unfolding all_related
  all_related_by h = all_of_by (λ u. related R u t) 0 (targets m) (λ i b. h i (weight_of-target i b))

  module _ (positive : Positive (weights m)) where
    -- m fits it exactly if every target of m is related to t
    pub loop-fits : fits? (between R m (self_loop t c)) (weights m) (weights (self_loop t c)) ≡ all_related R m t
    unfolding loop all_related
    loop-fits = ⊎_elim fit misfit (true_or_not (all_related R m t))
      where
        fit : T (all_related R m t) → fits? loop (weights m) (1 ∷ []) ≡ all_related R m t
        fit h = fits_full loop (weights m) (1 ∷ []) (λ i j a b. loop-at i j b ∙ is_true _ (all_related-at h i a)) ∙ sym (is_true (all_related R m t) h)

        misfit : T (not (all_related R m t)) → fits? loop (weights m) (1 ∷ []) ≡ all_related R m t
        misfit f =
            let n = T_not (all_related R m t) f in
            let w = first_failing (λ u. related R u t) 0 (targets m) n in
            let b = weight_of-target w.0 w.1 in
            misfit_row loop (weights m) (1 ∷ []) w.0 b (positive w.0 b) one-total (λ j d. loop-at w.0 j d ∙ is_false _ w.3) ∙ sym (is_false (all_related R m t) n)

    -- its smallest set of the largest excess: the targets of m that are not related to t
    pub loop-cut : (i : ℕ) → i < length (weights m) → cut (between R m (self_loop t c)) (weights m) (weights (self_loop t c)) i ≡ not (related R (target_at m i) t)
    unfolding loop
    loop-cut =
        cut_products loop (weights m) (1 ∷ []) (λ i. not (related R (target_at m i) t)) positive
        (λ i j a b e. loop-at i j b ∙ not_false (related R (target_at m i) t) e)
        (λ i a e. omega (arith, one-total, weight-none (1 ∷ []) (loop i) (λ j b. loop-at i j b ∙ not_true (related R (target_at m i) t) e)))
        (λ i j i' a b a' e r. absurd (true≢false (sym r ∙ loop-at i j b ∙ not_true (related R (target_at m i) t) e)))

    -- where m has its code, the step is tested by its targets alone
    pub loop-step : m.code ≡ c → fits_step R m (self_loop t c) ≡ all_related R m t
    unfolding fits_step
    loop-step e = ap (λ (b : Bool). b && fits? (between R m (self_loop t c)) (weights m) (weights (self_loop t c))) (is_true (eqb m.code c) (same_eqb e)) ∙ loop-fits

    -- no member of the cut is related to t, so t is what each member is told apart from
    untouched : touched (length (weights m)) (between R m (self_loop t c)) (cut_of R m (self_loop t c)) 0 ≡ false
    untouched =
        is_false _
        (λ u.
        let w = touched-some (length (weights m)) (between R m (self_loop t c)) (cut_of R m (self_loop t c)) 0 u in
        T_not (related R (target_at m w.0) t) (subst T (loop-cut w.0 w.1) w.2) w.3)

    pub loop-apart : m.code ≡ c → (i t' : ℕ) → i < length (weights m) → apart_by R m i (self_loop t c) t' ≡ (not (related R (target_at m i) t) && eqb t t')
    unfolding apart_by any
    loop-apart e i t' b =
        ap (λ (x : Bool). x && cut_of R m (self_loop t c) i && ((eqb t t' && not (touched (length (weights m)) (between R m (self_loop t c)) (cut_of R m (self_loop t c)) 0)) || false))
        (is_true (eqb m.code c) (same_eqb e))
        ∙ ap₂ (λ (x y : Bool). x && ((eqb t t' && not y) || false)) (loop-cut i b) untouched
        ∙ ap (λ (x : Bool). not (related R (target_at m i) t) && x) (and_or (eqb t t'))

-- the one right flow: each target sends its weight
module _ (P : ℕ → ℕ → Type 0) (ws : List ℕ) where
  pub loop-flow : ((i : ℕ) → i < length ws → P i 0) → Shares P ws (1 ∷ []) (λ i j. weight ws i)
  unfolding total sum
  loop-flow h =
      record {
        support = λ i j a b _. below_one (P i) (h i a) j b;
        sent = λ i a. omega arith;
        taken = below_one (λ k. sum (length ws) (weight ws) ≡ weight (1 ∷ []) k * sum (length ws) (weight ws)) (omega arith);
      }

  pub loop-flow-only : (x : Amounts) → Shares P ws (1 ∷ []) x → (i : ℕ) → i < length ws → x i 0 ≡ weight ws i
  unfolding total sum
  loop-flow-only x f i a = omega (arith, f.sent i a)

-- what the check looks for among the transitions of t in the completed table

module _ (R : Relation) (m : Transition) where
  like_step : (n : Transition) → T (fits_step R m n) → n.code ≡ m.code
  like_step n h = sym (fits_step-code R m n h)

  like_apart : (i t' : ℕ) (n : Transition) → T (apart_by R m i n t') → n.code ≡ m.code
  unfolding apart_by
  like_apart i t' n h = sym (eqb→eq m.code n.code (and_left (eqb m.code n.code) (cut_of R m n i) (and_left (eqb m.code n.code && cut_of R m n i) _ h)))

  module _ (cs : List ℕ) (N : Table) (t : ℕ) where
    -- a code that N lists: as in N
    pub matched-listed : T (lists N.codes m.code) → any_of (fits_step R m) (steps (complete cs N) t) ≡ any_of (fits_step R m) (steps N t)
    matched-listed h = search_listed cs N t m.code (fits_step R m) like_step h

    pub apart-listed : T (lists N.codes m.code) → (i t' : ℕ) → apart R m (steps (complete cs N) t) i t' ≡ apart R m (steps N t) i t'
    unfolding apart
    apart-listed h i t' = search_listed cs N t m.code (λ n. apart_by R m i n t') (like_apart i t') h

    -- a code of cs that N does not list: no flow is computed
    module _ (listed : OwnCodes N) (state : t < states_of N) (asked : T (lists cs m.code)) (missing : ¬ T (lists N.codes m.code)) (positive : Positive (weights m)) where
      pub matched-added : any_of (fits_step R m) (steps (complete cs N) t) ≡ all_related R m t
      matched-added = search_added cs N t m.code (fits_step R m) like_step listed state asked missing ∙ loop-step R m t m.code positive refl

      pub apart-added : (i t' : ℕ) → i < length (weights m) → apart R m (steps (complete cs N) t) i t' ≡ (not (related R (target_at m i) t) && eqb t t')
      unfolding apart
      apart-added i t' b =
          search_added cs N t m.code (λ n. apart_by R m i n t') (like_apart i t') listed state asked missing ∙ loop-apart R m t m.code positive refl i t' b

  -- whatever codes a table is completed for: one that is asked of both gets the same answer
  pub matched-same : (cs ds : List ℕ) (N : Table) (t : ℕ) → OwnCodes N → t < states_of N → T (lists cs m.code) → T (lists ds m.code) → Positive (weights m)
      → any_of (fits_step R m) (steps (complete cs N) t) ≡ any_of (fits_step R m) (steps (complete ds N) t)
  matched-same cs ds N t listed state c d positive =
      ⊎_elim (λ h. matched-listed cs N t h ∙ sym (matched-listed ds N t h))
      (λ f. let n = T_not (lists N.codes m.code) f in matched-added cs N t listed state c n positive ∙ sym (matched-added ds N t listed state d n positive))
      (true_or_not (lists N.codes m.code))
