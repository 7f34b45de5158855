-- A completed table: its states, its transitions and their places.
-- Assumes nothing.
use mathlib.Core.Path.{◌≡◌, refl, sym, ◌∙◌, ap, ap₂, subst}
use mathlib.Core.Bool.{Bool}
use mathlib.Core.List.{List, [], ◌∷◌, ◌++◌, map, append-nil, map-append}
use mathlib.Core.Logic.{◌⊎◌, inl, inr}
use Prim.Native.Nat.{ℕ, zero, suc, ◌+◌, ◌-◌, ◌≤◌, ◌<◌}
use native.Mathlib.Nat.{not-suc-le-zero, le_of_suc-le-suc}
use native.Mathlib.Omega.{arith}
use native.Mathlib.Decide.{dec_lt}
use lib.Dec.{T}
use lib.ListN.{length, get_or, length-append, length-map, get_or-append}
use lib.Seq.{get_or-append-add}
use Rattle.simulation.specs.Sum.{any_of}
use Rattle.simulation.specs.Fit.{weight}
use Rattle.simulation.specs.Table.{Transition, Table, weights, target_at, states_of, steps, no_transition, transition}
use Rattle.simulation.specs.Demands.{Sound}
use Rattle.simulation.specs.Complete.{lists, added, self_loop, complete}
use Rattle.simulation.specs.Support.{support_entries, support_step, supported}
use Rattle.simulation.proofs.Finite.Tests.{same_test, below_one}
use Rattle.simulation.proofs.Finite.Lists.{any_of-at, any_of_by, below_at, below_length}
use Rattle.simulation.proofs.Support.Tables.{same-table, supported-codes, supported-states, supported-steps}
use Rattle.simulation.proofs.Simulation.Steps.{step-state}
use Rattle.simulation.proofs.Complete.Codes.{lists_at, lists-same, added_new, added-from, added-all, added-once, added_none}

-- the transitions of a table have codes that it lists; this holds of every accepted one
pub record OwnCodes (N : Table) : Type 0 where
  pub listed : (t k : ℕ) → k < length (steps N t) → T (lists N.codes (transition N t k).code)

-- the added transition of t for the code c: where it is, and that no other transition of t has the code
pub record AddedStep (cs : List ℕ) (N : Table) (t c : ℕ) : Type 0 where
  pub place : ℕ
  pub after : length (steps N t) ≤ place
  pub within : place < length (steps (complete cs N) t)
  pub is : transition (complete cs N) t place ≡ self_loop t c
  pub only : (k : ℕ) → k < length (steps (complete cs N) t) → (transition (complete cs N) t k).code ≡ c → k ≡ place

-- an element of a list of values, whatever stands past its end
map_at : {A : Type 0} (f : ℕ → A) (l : List ℕ) (d : A) (p : ℕ) → p < length l → get_or (map f l) p d ≡ f (get_or l p 0)
map_at f [] d p b = absurd (not-suc-le-zero b)
map_at f (x ∷ l) d zero b = refl
map_at f (x ∷ l) d (suc p) b = map_at f l d p (le_of_suc-le-suc b)

-- a completed table

-- a place of the state t in it: that of a listed transition, or the p-th after those
abbrev pub Placed : List ℕ → Table → ℕ → ℕ → Type 0
Placed cs N t k = (t < states_of N) × ((k < length (steps N t)) ⊎ ((p : ℕ) × (p < length (added N.codes cs)) × (k ≡ length (steps N t) + p)))

module _ (cs : List ℕ) (N : Table) where
  abbrev new_codes : List ℕ
  new_codes = added N.codes cs

  pub complete-codes : (complete cs N).codes ≡ N.codes ++ added N.codes cs
  unfolding complete
  complete-codes = refl

  pub complete-states : states_of (complete cs N) ≡ states_of N
  unfolding complete
  complete-states = below_length (λ t. steps N t ++ map (self_loop t) new_codes) 0 (states_of N)

  -- the added transitions come after the listed ones, in the order of cs
  pub complete-steps : (t : ℕ) → t < states_of N → steps (complete cs N) t ≡ steps N t ++ map (self_loop t) (added N.codes cs)
  unfolding complete
  complete-steps t b = below_at [] (λ t. steps N t ++ map (self_loop t) new_codes) (states_of N) t b

  pub complete-length : (t : ℕ) → t < states_of N → length (steps (complete cs N) t) ≡ length (steps N t) + length (added N.codes cs)
  complete-length t b = ap length (complete-steps t b) ∙ length-append (steps N t) (map (self_loop t) new_codes) ∙ ap (λ (n : ℕ). length (steps N t) + n) (length-map new_codes (self_loop t))

  -- a listed transition keeps its place
  pub complete-listed : (t k : ℕ) → k < length (steps N t) → transition (complete cs N) t k ≡ transition N t k
  complete-listed t k b =
      ap (λ (l : List Transition). get_or l k no_transition) (complete-steps t (step-state N t k b)) ∙ get_or-append (steps N t) (map (self_loop t) new_codes) no_transition k b

  -- the p-th code added has the p-th place after them
  pub complete-added : (t p : ℕ) → t < states_of N → p < length (added N.codes cs) → transition (complete cs N) t (length (steps N t) + p) ≡ self_loop t (get_or (added N.codes cs) p 0)
  complete-added t p a b =
      ap (λ (l : List Transition). get_or l (length (steps N t) + p) no_transition) (complete-steps t a)
      ∙ get_or-append-add (steps N t) (map (self_loop t) new_codes) p no_transition
      ∙ map_at (self_loop t) new_codes no_transition p b

  -- every place is a listed transition's or an added one's
  pub complete-place : (t k : ℕ) → k < length (steps (complete cs N) t) → Placed cs N t k
  complete-place t k b = (state, go (dec_lt k (length (steps N t))))
    where
      state : t < states_of N
      state = omega (arith, step-state (complete cs N) t k b, complete-states)

      go : Dec (k < length (steps N t)) → (k < length (steps N t)) ⊎ ((p : ℕ) × (p < length new_codes) × (k ≡ length (steps N t) + p))
      go (yes a) = inl a
      go (no a) = inr (k - length (steps N t), omega (arith, complete-length t state), omega arith)

  -- what holds of the listed transitions and of the added ones holds of all
  pub by_place : (P : ℕ → Transition → Type 0) → ((t k : ℕ) → k < length (steps N t) → P t (transition N t k)) → ((t c : ℕ) → t < states_of N → T (lists cs c) → P t (self_loop t c))
      → (t k : ℕ) → k < length (steps (complete cs N) t) → P t (transition (complete cs N) t k)
  by_place P old new t k b = go (complete-place t k b)
    where
      go : Placed cs N t k → P t (transition (complete cs N) t k)
      go (a, inl h) = subst (P t) (sym (complete-listed t k h)) (old t k h)
      go (a, inr (p, h, e)) =
          subst (P t) (sym (ap (transition (complete cs N) t) e ∙ complete-added t p a h)) (new t (get_or new_codes p 0) a (added-from cs N.codes p h))

  pub complete_sound : Sound N → Sound (complete cs N)
  complete_sound sound =
      record {
        target_bound = λ s k i b.
            by_place (λ t m. (i : ℕ) → i < length (weights m) → target_at m i < states_of (complete cs N)) (λ t k b i c. omega (arith, sound.target_bound t k i b c, complete-states)) (λ t c a _. below_one (λ i. get_or (t ∷ []) i 0 < states_of (complete cs N)) (omega (arith, complete-states))) s k b i;
        nonempty = by_place (λ t m. 0 < length (weights m)) (λ t k b. sound.nonempty t k b) (λ t c a _. omega arith);
        positive = λ s k i b. by_place (λ t m. (i : ℕ) → i < length (weights m) → 0 < weight (weights m) i) (λ t k b i c. sound.positive t k i b c) (λ t c a _. below_one (λ i. 0 < get_or (1 ∷ []) i 0) (omega arith)) s k b i;
      }

  -- codes that N lists already add nothing
  pub complete-same : ((c : ℕ) → T (lists cs c) → T (lists N.codes c)) → complete cs N ≡ N
  complete-same h = same-table (complete cs N) N (complete-codes ∙ ap (λ (a : List ℕ). N.codes ++ a) nothing ∙ append-nil N.codes) complete-states (λ t b. state t (omega (arith, complete-states)))
    where
      nothing : new_codes ≡ []
      nothing = added_none cs N.codes h

      state : (t : ℕ) → t < states_of N → steps (complete cs N) t ≡ steps N t
      state t b = complete-steps t b ∙ ap (λ (a : List ℕ). steps N t ++ map (self_loop t) a) nothing ∙ append-nil (steps N t)

-- the transitions of a state that have one code, in a test that only these pass

module _ (cs : List ℕ) (N : Table) (t c : ℕ) where
  -- the one added for a code that N does not list
  pub added-step : OwnCodes N → t < states_of N → T (lists cs c) → ¬ T (lists N.codes c) → AddedStep cs N t c
  added-step lt a h n =
      record {
        place = length (steps N t) + r.0;
        after = omega arith;
        within = omega (arith, complete-length cs N t a, r.1);
        is = complete-added cs N t r.0 a r.1 ∙ ap (self_loop t) (sym r.2);
        only = λ k b e. only k b e (complete-place cs N t k b).1;
      }
    where
      r : (p : ℕ) × (p < length (added N.codes cs)) × (c ≡ get_or (added N.codes cs) p 0)
      r = lists_at (added N.codes cs) c (added-all cs N.codes c h n)

      only : (k : ℕ) → k < length (steps (complete cs N) t) → (transition (complete cs N) t k).code ≡ c
          → (k < length (steps N t)) ⊎ ((p : ℕ) × (p < length (added N.codes cs)) × (k ≡ length (steps N t) + p)) → k ≡ length (steps N t) + r.0
      only k b e (inl d) = absurd (n (lists-same N.codes (sym e ∙ ap (λ (m : Transition). m.code) (complete-listed cs N t k d)) (lt.listed t k d)))
      only k b e (inr (p, d, q)) =
          q
          ∙ ap (λ (i : ℕ). length (steps N t) + i)
          (added-once cs N.codes p r.0 d r.1 (ap (λ (m : Transition). m.code) (sym (ap (transition (complete cs N) t) q ∙ complete-added cs N t p a d)) ∙ e ∙ r.2))

  module _ (f : Transition → Bool) (like : (n : Transition) → T (f n) → n.code ≡ c) where
    pub search_added : OwnCodes N → t < states_of N → T (lists cs c) → ¬ T (lists N.codes c) → any_of f (steps (complete cs N) t) ≡ f (self_loop t c)
    search_added lt a h n =
        let w = added-step lt a h n in
        same_test (any_of f (steps (complete cs N) t)) (f (self_loop t c))
        (λ u.
        let r = any_of-at f no_transition (steps (complete cs N) t) u in
        subst (λ (n : Transition). T (f n)) (ap (transition (complete cs N) t) (w.only r.0 r.1 (like (transition (complete cs N) t r.0) r.2)) ∙ w.is) r.2)
        (λ u. any_of_by f no_transition (steps (complete cs N) t) w.place w.within (subst (λ (n : Transition). T (f n)) (sym w.is) u))

    -- a code that N lists is searched for among the transitions of N
    pub search_listed : T (lists N.codes c) → any_of f (steps (complete cs N) t) ≡ any_of f (steps N t)
    search_listed h =
        same_test (any_of f (steps (complete cs N) t)) (any_of f (steps N t))
        (λ u. let r = any_of-at f no_transition (steps (complete cs N) t) u in go r.0 r.2 (complete-place cs N t r.0 r.1))
        (λ u.
        let r = any_of-at f no_transition (steps N t) u in
        any_of_by f no_transition (steps (complete cs N) t) r.0 (omega (arith, r.1, complete-length cs N t (step-state N t r.0 r.1)))
        (subst (λ (n : Transition). T (f n)) (sym (complete-listed cs N t r.0 r.1)) r.2))
      where
        go : (k : ℕ) → T (f (transition (complete cs N) t k)) → Placed cs N t k
            → T (any_of f (steps N t))
        go k u (a, inl d) = any_of_by f no_transition (steps N t) k d (subst (λ (n : Transition). T (f n)) (complete-listed cs N t k d) u)
        go k u (a, inr (p, d, q)) =
            let e : transition (complete cs N) t k ≡ self_loop t (get_or (added N.codes cs) p 0) = ap (transition (complete cs N) t) q ∙ complete-added cs N t p a d in
            absurd (added_new cs N.codes p d (lists-same N.codes (ap (λ (m : Transition). m.code) (sym e) ∙ like (transition (complete cs N) t k) u) h))

-- a self-loop has no entry of weight 0 to be dropped
loops-supported : (t : ℕ) (l : List ℕ) → map support_step (map (self_loop t) l) ≡ map (self_loop t) l
unfolding support_step support_entries
loops-supported t [] = refl
loops-supported t (c ∷ l) = ap (λ (r : List Transition). self_loop t c ∷ r) (loops-supported t l)

pub supported-complete : (cs : List ℕ) (N : Table) → supported (complete cs N) ≡ complete cs (supported N)
supported-complete cs N =
    same-table (supported (complete cs N)) (complete cs (supported N))
    (supported-codes (complete cs N) ∙ complete-codes cs N ∙ sym (complete-codes cs (supported N) ∙ ap₂ ◌++◌ (supported-codes N) same_new))
    (supported-states (complete cs N) ∙ complete-states cs N ∙ sym (complete-states cs (supported N) ∙ supported-states N))
    (λ t b. state t (omega (arith, supported-states (complete cs N), complete-states cs N)))
  where
    same_new : added (supported N).codes cs ≡ added N.codes cs
    same_new = ap (λ (l : List ℕ). added l cs) (supported-codes N)

    state : (t : ℕ) → t < states_of N → steps (supported (complete cs N)) t ≡ steps (complete cs (supported N)) t
    state t b =
        supported-steps (complete cs N) t
        ∙ ap (map support_step) (complete-steps cs N t b)
        ∙ map-append support_step (steps N t) (map (self_loop t) (added N.codes cs))
        ∙ ap₂ ◌++◌ (sym (supported-steps N t)) (loops-supported t (added N.codes cs))
        ∙ sym (complete-steps cs (supported N) t (omega (arith, supported-states N)) ∙ ap (λ (l : List ℕ). steps (supported N) t ++ map (self_loop t) l) same_new)
