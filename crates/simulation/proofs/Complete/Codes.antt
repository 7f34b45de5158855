-- Lists of codes, and the codes that one adds to another.
-- Assumes nothing.
use mathlib.Core.Path.{◌≡◌, refl, sym, ◌∙◌, ap, subst}
use mathlib.Core.Bool.{Bool, true, false}
use mathlib.Core.List.{List, [], ◌∷◌}
use mathlib.Core.Logic.{◌⊎◌, inl, inr, ⊎_elim}
use Prim.Native.Nat.{ℕ, zero, suc, ◌<◌, suc-le-suc, zero-le}
use native.Mathlib.Nat.{not-suc-le-zero, le_of_suc-le-suc}
use lib.Dec.{T, T_not, eqb, eqb→eq, eqb_refl}
use lib.ListN.{length, get_or}
use Rattle.simulation.specs.Sum.{any_of}
use Rattle.simulation.specs.Complete.{lists, added}
use Rattle.simulation.proofs.Finite.Tests.{true_or_not, or_cases, or_right, is_true, is_false, same?}
use Rattle.simulation.proofs.Finite.Lists.{any_of-at, any_of_by}

pub lists_at : (l : List ℕ) (c : ℕ) → T (lists l c) → (k : ℕ) × (k < length l) × (c ≡ get_or l k 0)
unfolding lists
lists_at l c t = let r = any_of-at (eqb c) 0 l t in (r.0, r.1, eqb→eq c (get_or l r.0 0) r.2)

pub lists_by : (l : List ℕ) (k : ℕ) → k < length l → T (lists l (get_or l k 0))
unfolding lists
lists_by l k b = any_of_by (eqb (get_or l k 0)) 0 l k b (eqb_refl (get_or l k 0))

lists-head : (c : ℕ) (l : List ℕ) → T (lists (c ∷ l) c)
lists-head c l = lists_by (c ∷ l) 0 (suc-le-suc zero-le)

lists_tail : (c : ℕ) (l : List ℕ) (x : ℕ) → T (lists l x) → T (lists (c ∷ l) x)
unfolding lists any_of
lists_tail c l x t = or_right (eqb x c) (any_of (eqb x) l) t

lists_cases : (c : ℕ) (l : List ℕ) (x : ℕ) → T (lists (c ∷ l) x) → (x ≡ c) ⊎ T (lists l x)
unfolding lists any_of
lists_cases c l x t = ⊎_elim (λ u. inl (eqb→eq x c u)) (λ u. inr u) (or_cases (eqb x c) (any_of (eqb x) l) t)

-- the element at a place, under another name
pub lists-same : (l : List ℕ) {x y : ℕ} → x ≡ y → T (lists l y) → T (lists l x)
lists-same l e t = subst (λ (z : ℕ). T (lists l z)) (sym e) t

-- the codes that are added

added_skip : (l : List ℕ) (c : ℕ) (cs : List ℕ) → T (lists l c) → added l (c ∷ cs) ≡ added l cs
unfolding added
added_skip l c cs t = ap (λ (b : Bool). elim b as (λ _. List ℕ) [ true ↦ added l cs | false ↦ c ∷ added (c ∷ l) cs ]) (is_true (lists l c) t)

added_keep : (l : List ℕ) (c : ℕ) (cs : List ℕ) → ¬ T (lists l c) → added l (c ∷ cs) ≡ c ∷ added (c ∷ l) cs
unfolding added
added_keep l c cs n = ap (λ (b : Bool). elim b as (λ _. List ℕ) [ true ↦ added l cs | false ↦ c ∷ added (c ∷ l) cs ]) (is_false (lists l c) n)

added_nil : (l : List ℕ) → added l [] ≡ []
unfolding added
added_nil l = refl

-- what is said of the codes added, by the two ways of the next code
by_next : (P : List ℕ → Type 0) (l : List ℕ) (c : ℕ) (cs : List ℕ) → (T (lists l c) → P (added l cs)) → (¬ T (lists l c) → P (c ∷ added (c ∷ l) cs)) → P (added l (c ∷ cs))
by_next P l c cs skip keep =
    ⊎_elim (λ t. subst P (sym (added_skip l c cs t)) (skip t)) (λ f. let n = T_not (lists l c) f in subst P (sym (added_keep l c cs n)) (keep n)) (true_or_not (lists l c))

-- none of them is listed
pub added_new : (cs l : List ℕ) (p : ℕ) → p < length (added l cs) → ¬ T (lists l (get_or (added l cs) p 0))
added_new [] l = rw (added_nil l) (λ p b. absurd (not-suc-le-zero b))
added_new (c ∷ cs) l = by_next (λ a. (p : ℕ) → p < length a → ¬ T (lists l (get_or a p 0))) l c cs (λ _. added_new cs l) (λ n. later n (added_new cs (c ∷ l)))
  where
    later : ¬ T (lists l c) → ((p : ℕ) → p < length (added (c ∷ l) cs) → ¬ T (lists (c ∷ l) (get_or (added (c ∷ l) cs) p 0)))
        → (p : ℕ) → p < suc (length (added (c ∷ l) cs)) → ¬ T (lists l (get_or (c ∷ added (c ∷ l) cs) p 0))
    later n h zero b t = n t
    later n h (suc p) b t = h p (le_of_suc-le-suc b) (lists_tail c l (get_or (added (c ∷ l) cs) p 0) t)

-- each is a code of cs
pub added-from : (cs l : List ℕ) (p : ℕ) → p < length (added l cs) → T (lists cs (get_or (added l cs) p 0))
added-from [] l = rw (added_nil l) (λ p b. absurd (not-suc-le-zero b))
added-from (c ∷ cs) l =
    by_next (λ a. (p : ℕ) → p < length a → T (lists (c ∷ cs) (get_or a p 0))) l c cs (λ _ p b. lists_tail c cs (get_or (added l cs) p 0) (added-from cs l p b)) (λ _. later (added-from cs (c ∷ l)))
  where
    later : ((p : ℕ) → p < length (added (c ∷ l) cs) → T (lists cs (get_or (added (c ∷ l) cs) p 0)))
        → (p : ℕ) → p < suc (length (added (c ∷ l) cs)) → T (lists (c ∷ cs) (get_or (c ∷ added (c ∷ l) cs) p 0))
    later h zero b = lists-head c cs
    later h (suc p) b = lists_tail c cs (get_or (added (c ∷ l) cs) p 0) (h p (le_of_suc-le-suc b))

-- each code of cs that is not listed is one
pub added-all : (cs l : List ℕ) (x : ℕ) → T (lists cs x) → ¬ T (lists l x) → T (lists (added l cs) x)
added-all [] l x t n = absurd (not-suc-le-zero (lists_at [] x t).1)
added-all (c ∷ cs) l x t n =
    by_next (λ a. T (lists a x)) l c cs
    (λ u. ⊎_elim (λ (e : x ≡ c). absurd (n (lists-same l e u))) (λ r. added-all cs l x r n) (lists_cases c cs x t))
    (λ u.
    ⊎_elim (λ (e : x ≡ c). lists-same (c ∷ added (c ∷ l) cs) e (lists-head c (added (c ∷ l) cs)))
    (λ d.
    lists_tail c (added (c ∷ l) cs) x
    (added-all cs (c ∷ l) x (⊎_elim (λ e. absurd (d e)) (λ r. r) (lists_cases c cs x t)) (λ v. ⊎_elim d n (lists_cases c l x v))))
    (same? x c))

-- none of them twice
pub added-once : (cs l : List ℕ) (p q : ℕ) → p < length (added l cs) → q < length (added l cs) → get_or (added l cs) p 0 ≡ get_or (added l cs) q 0 → p ≡ q
added-once [] l = rw (added_nil l) (λ p q b. absurd (not-suc-le-zero b))
added-once (c ∷ cs) l = by_next (λ a. (p q : ℕ) → p < length a → q < length a → get_or a p 0 ≡ get_or a q 0 → p ≡ q) l c cs (λ _. added-once cs l) (λ _. later (added-once cs (c ∷ l)))
  where
    rest : List ℕ
    rest = added (c ∷ l) cs

    new : (p : ℕ) → p < length rest → ¬ (c ≡ get_or rest p 0)
    new p b e = added_new cs (c ∷ l) p b (subst (λ (z : ℕ). T (lists (c ∷ l) z)) e (lists-head c l))

    later : ((p q : ℕ) → p < length rest → q < length rest → get_or rest p 0 ≡ get_or rest q 0 → p ≡ q)
        → (p q : ℕ) → p < suc (length rest) → q < suc (length rest) → get_or (c ∷ rest) p 0 ≡ get_or (c ∷ rest) q 0 → p ≡ q
    later h zero zero a b e = refl
    later h zero (suc q) a b e = absurd (new q (le_of_suc-le-suc b) e)
    later h (suc p) zero a b e = absurd (new p (le_of_suc-le-suc a) (sym e))
    later h (suc p) (suc q) a b e = ap suc (h p q (le_of_suc-le-suc a) (le_of_suc-le-suc b) e)

pub added_none : (cs l : List ℕ) → ((c : ℕ) → T (lists cs c) → T (lists l c)) → added l cs ≡ []
added_none [] l h = added_nil l
added_none (c ∷ cs) l h = added_skip l c cs (h c (lists-head c cs)) ∙ added_none cs l (λ x t. h x (lists_tail c cs x t))
