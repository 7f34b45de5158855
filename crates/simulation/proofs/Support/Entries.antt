-- The entries of a transition without those of weight 0.
-- Assumes nothing.
use mathlib.Core.Path.{◌≡◌, refl, sym, ◌∙◌, ap, subst}
use mathlib.Core.List.{List, [], ◌∷◌, ◌++◌, map}
use Prim.Native.Nat.{ℕ, zero, suc, ◌≤◌, ◌<◌, suc-le-suc, zero-le}
use native.Mathlib.Nat.{not-suc-le-zero, le_of_suc-le-suc}
use native.Mathlib.Omega.{arith}
use lib.ListN.{length, get_or}
use Rattle.simulation.specs.Fit.{Positive, total}
use Rattle.simulation.specs.Table.{Entry, Transition, weights, target_at}
use Rattle.simulation.specs.Support.{if_counted, support_entries, support_step}
use Rattle.simulation.proofs.Support.Weights.{support-weights, place, support-weights-positive, total-support}

-- an entry before others: dropped or kept
module _ (e : Entry) (es : List Entry) where
  pub support_drops : e.weight ≡ 0 → support_entries (e ∷ es) ≡ support_entries es
  unfolding support_entries
  support_drops z = ap (λ (w : ℕ). if_counted w e (support_entries es)) z

  pub support_keeps : 0 < e.weight → support_entries (e ∷ es) ≡ e ∷ support_entries es
  unfolding support_entries
  support_keeps p = go e.weight p
    where
      go : (w : ℕ) → 0 < w → if_counted w e (support_entries es) ≡ e ∷ support_entries es
      go zero p = absurd (not-suc-le-zero p)
      go (suc w) p = refl

pub support-append : (es fs : List Entry) → support_entries (es ++ fs) ≡ support_entries es ++ support_entries fs
unfolding support_entries
support-append [] fs = refl
support-append (e ∷ es) fs = go e.weight (support-append es fs)
  where
    go : (w : ℕ) → support_entries (es ++ fs) ≡ support_entries es ++ support_entries fs
        → if_counted w e (support_entries (es ++ fs)) ≡ if_counted w e (support_entries es) ++ support_entries fs
    go zero h = h
    go (suc w) h = ap (◌∷◌ e) h

-- one entry of weight 0 more or less, anywhere
pub support_insert : (es : List Entry) (e : Entry) (fs : List Entry) → e.weight ≡ 0 → support_entries (es ++ e ∷ fs) ≡ support_entries (es ++ fs)
support_insert es e fs z = support-append es (e ∷ fs) ∙ ap (λ (gs : List Entry). support_entries es ++ gs) (support_drops e fs z) ∙ sym (support-append es fs)

pub support-length : (es : List Entry) → length (support_entries es) ≤ length es
unfolding support_entries
support-length [] = zero-le
support-length (e ∷ es) = go e.weight (support-length es)
  where
    go : (w : ℕ) → length (support_entries es) ≤ length es → length (if_counted w e (support_entries es)) ≤ suc (length es)
    go zero h = omega arith
    go (suc w) h = suc-le-suc h

abbrev weights_in : List Entry → List ℕ
weights_in es = map (λ (e : Entry). e.weight) es

abbrev targets_in : List Entry → List ℕ
targets_in es = map (λ (e : Entry). e.target) es

entries-weights : (es : List Entry) → weights_in (support_entries es) ≡ support-weights (weights_in es)
unfolding support_entries support-weights
entries-weights [] = refl
entries-weights (e ∷ es) = go e.target e.weight (entries-weights es)
  where
    go : (t w : ℕ) → weights_in (support_entries es) ≡ support-weights (weights_in es)
        → weights_in (if_counted w (record { target = t; weight = w }) (support_entries es)) ≡ support-weights (w ∷ weights_in es)
    go t zero h = h
    go t (suc w) h = ap (◌∷◌ (suc w)) h

entries-targets : (es : List Entry) (i : ℕ) → i < length (support-weights (weights_in es))
    → get_or (targets_in (support_entries es)) i 0 ≡ get_or (targets_in es) (place (weights_in es) i) 0
unfolding support_entries support-weights place
entries-targets [] i b = absurd (not-suc-le-zero b)
entries-targets (e ∷ es) i b = go e.weight (entries-targets es) i b
  where
    go : (w : ℕ) → ((i : ℕ) → i < length (support-weights (weights_in es)) → get_or (targets_in (support_entries es)) i 0 ≡ get_or (targets_in es) (place (weights_in es) i) 0)
        → (i : ℕ) → i < length (support-weights (w ∷ weights_in es))
        → get_or (targets_in (if_counted w e (support_entries es))) i 0 ≡ get_or (targets_in (e ∷ es)) (place (w ∷ weights_in es) i) 0
    go zero h i b = h i b
    go (suc w) h zero b = refl
    go (suc w) h (suc i) b = h i (le_of_suc-le-suc b)

-- where no weight is 0, nothing is dropped
pub support-same : (es : List Entry) → Positive (map (λ (e : Entry). e.weight) es) → support_entries es ≡ es
unfolding support_entries
support-same [] h = refl
support-same (e ∷ es) h = support_keeps e es (h 0 (suc-le-suc zero-le)) ∙ ap (◌∷◌ e) (support-same es (λ i b. h (suc i) (suc-le-suc b)))

module _ (m : Transition) where
  pub support_step-code : (support_step m).code ≡ m.code
  unfolding support_step
  support_step-code = refl

  pub support_step-weights : weights (support_step m) ≡ support-weights (weights m)
  unfolding support_step
  support_step-weights = entries-weights m.entries

  -- a target stands where its weight does
  pub support_step-target : (i : ℕ) → i < length (weights (support_step m)) → target_at (support_step m) i ≡ target_at m (place (weights m) i)
  unfolding support_step
  support_step-target i b = entries-targets m.entries i (subst (λ (vs : List ℕ). i < length vs) support_step-weights b)

  pub support_step-positive : Positive (weights (support_step m))
  support_step-positive = rw support_step-weights (support-weights-positive (weights m))

  pub support_step-same : Positive (weights m) → support_step m ≡ m
  unfolding support_step
  support_step-same h = ap (λ (es : List Entry). record { code = m.code; entries = es }) (support-same m.entries h)

  pub support_step-total : total (weights (support_step m)) ≡ total (weights m)
  support_step-total = ap total support_step-weights ∙ total-support (weights m)
