-- Rows and ranks written place by place.
-- Assumes nothing.
use mathlib.Core.Path.{◌≡◌, refl, sym, ap, ap₂, ◌∙◌, subst, fun_ext}
use mathlib.Core.Bool.{Bool, true, false, cond, not, ◌&&◌, and-true, and-false, true≢false}
use mathlib.Core.List.{List}
use mathlib.Core.Logic.{◌≢◌}
use Prim.Native.Nat.{ℕ, suc, ◌+◌, ◌-◌, ◌*◌, ◌≤◌, ◌<◌}
use native.Mathlib.Nat.{mul-le-mul_right, suc-mul}
use native.Mathlib.Omega.{arith}
use native.Mathlib.Decide.{ℕ_discrete, dec_le}
use borrow.Author.Tests.{le-leb, lt-leb}
use lib.Dec.{T, T_not}
use lib.ListN.{get_or}
use Rattle.simulation.proofs.Finite.Tests.{and_left, and_right, is_true, is_false}
use Rattle.word.specs.Mask.{Test, member, without_member, except}
use Rattle.set.specs.Words.{mask}
use Rattle.relation.specs.Rows.{height, put_row}
use Rattle.set.specs.declared.Set.{Set}
use Rattle.word.proofs.Mask.{member-none}
use Rattle.relation.proofs.RowLaws.{row_put, row_put_other}
use Rattle.relation.specs.Related.{holds}
use Rattle.rounds.specs.Rounds.{marked, Settled}
use Rattle.links.specs.Links.{Covered}
use Rattle.links.proofs.Walks.{left_self, left_other}

-- rows of q places each lie one after the other
pub row-place : (s n q t : ℕ) → s < n → t < q → s * q + t < n * q
row-place s n q t a b = let m : suc s * q ≤ n * q = mul-le-mul_right q a in omega (arith, suc-mul s q)

-- places of two rows differ
apart : (s n q t u : ℕ) → t < q → u < q → s ≢ n → s * q + t ≢ n * q + u
apart s n q t u a b d e = go (dec_le s n)
  where
    go : Dec (s ≤ n) → ⊥
    go (yes c) = let m : suc s * q ≤ n * q = mul-le-mul_right q (let f : s < n = omega arith in f) in omega (arith, suc-mul s q)
    go (no c) = let m : suc n * q ≤ s * q = mul-le-mul_right q (let f : n < s = omega arith in f) in omega (arith, suc-mul n q)

module _ (X : Test) (base k : ℕ) (l : List ℕ) where
  marked-at : (t : ℕ) → marked X base k l (base + t) ≡ cond (X t) k (get_or l (base + t) 0)
  marked-at t =
      ap (λ (b : Bool). cond (b && X (base + t - base)) k (get_or l (base + t) 0)) (le-leb base (base + t) (omega arith))
      ∙ ap (λ (n : ℕ). cond (X n) k (get_or l (base + t) 0)) (let e : base + t - base ≡ t = omega arith in e)

  -- a place of no member is as it was
  marked_other : (i : ℕ) → ((t : ℕ) → X t ≡ true → i ≢ base + t) → marked X base k l i ≡ get_or l i 0
  marked_other i h = go (dec_le base i)
    where
      go : Dec (base ≤ i) → marked X base k l i ≡ get_or l i 0
      go (yes a) =
          ap₂ (λ (b c : Bool). cond (b && c) k (get_or l i 0)) (le-leb base i a)
          (is_false (X (i - base)) (λ m. h (i - base) (is_true (X (i - base)) m) (omega arith)))
      go (no a) = ap (λ (b : Bool). cond (b && X (i - base)) k (get_or l i 0)) (lt-leb base i (omega arith))

-- the lost pairs of the rows that are not left
abbrev pub passed : List ℕ → ℕ → ℕ → Test
passed lost left s t = holds lost s t && not (member left s)

-- at first all lost pairs are left
pub settled_none : {q k : ℕ} {rows ranks : List ℕ} (lost : List ℕ) (fell : ℕ) → Covered fell lost → Settled q k (passed lost fell) rows rows ranks ranks
settled_none {q} {k} {rows} {ranks} lost fell covered =
    record {
      rows_done = λ s t. sym (ap (λ (b : Bool). holds rows s t && not b) (none s t) ∙ and-true (holds rows s t));
      ranks_done = λ s t a. ap (λ (b : Bool). cond b k (get_or ranks (s * q + t) 0)) (sym (none s t));
      ranks_left = λ i h. refl;
    }
  where
    none : (s t : ℕ) → passed lost fell s t ≡ false
    none s t = is_false (passed lost fell s t) (λ h.
        T_not (member fell s) (and_right (holds lost s t) (not (member fell s)) h)
        (subst T (sym (covered s t (is_true (holds lost s t) (and_left (holds lost s t) (not (member fell s)) h)))) tt))

-- one row more is settled
pub settled_next : {q k n : ℕ} {rows rows' ranks ranks' : List ℕ} (lost : List ℕ) (left rest : ℕ) (ranks'' : List ℕ) (x : Set) → n < height rows'
    → member left n ≡ true → member rest ≡ without_member n (member left)
    → ((t : ℕ) → holds lost n t ≡ true → t < q)
    → ((i : ℕ) → get_or ranks'' i 0 ≡ marked (holds lost n) (n * q) k ranks' i)
    → member (mask x) ≡ except (holds rows' n) (holds lost n)
    → Settled q k (passed lost left) rows rows' ranks ranks' → Settled q k (passed lost rest) rows (put_row rows' n x) ranks ranks''
settled_next {q} {k} {n} {rows} {rows'} {ranks} {ranks'} lost left rest ranks'' x room has e within m d h =
    record {
      rows_done = λ s t. row s t (ℕ_discrete s n);
      ranks_done = λ s t a. place s t a (ℕ_discrete s n);
      ranks_left = λ i a.
          m i
          ∙ marked_other (holds lost n) (n * q) k ranks' i (λ t b. a n t (new t ∙ b))
          ∙ h.ranks_left i (λ s t b. a s t (more s t b (ℕ_discrete s n)));
    }
  where
    old : (t : ℕ) → passed lost left n t ≡ false
    old t = ap (λ (b : Bool). holds lost n t && not b) has ∙ and-false (holds lost n t)

    new : (t : ℕ) → passed lost rest n t ≡ holds lost n t
    new t = ap (λ (b : Bool). holds lost n t && not b) (left_self left rest n e) ∙ and-true (holds lost n t)

    same : (s t : ℕ) → s ≢ n → passed lost rest s t ≡ passed lost left s t
    same s t c = ap (λ (b : Bool). holds lost s t && not b) (left_other left rest n e s c)

    more : (s t : ℕ) → passed lost left s t ≡ true → Dec (s ≡ n) → passed lost rest s t ≡ true
    more s t b (yes c) = absurd (true≢false (sym b ∙ ap (λ (s : ℕ). passed lost left s t) c ∙ old t))
    more s t b (no c) = same s t c ∙ b

    here : (t : ℕ) → holds (put_row rows' n x) n t ≡ (holds rows n t && not (passed lost rest n t))
    here t =
        ap (λ (y : ℕ). member y t) (row_put rows' n x room)
        ∙ ap (λ (X : Test). X t) d
        ∙ ap (λ (b : Bool). b && not (holds lost n t)) (h.rows_done n t ∙ ap (λ (b : Bool). holds rows n t && not b) (old t) ∙ and-true (holds rows n t))
        ∙ ap (λ (b : Bool). holds rows n t && not b) (sym (new t))

    row : (s t : ℕ) → Dec (s ≡ n) → holds (put_row rows' n x) s t ≡ (holds rows s t && not (passed lost rest s t))
    row s t (yes c) = subst (λ (s : ℕ). holds (put_row rows' n x) s t ≡ (holds rows s t && not (passed lost rest s t))) (sym c) (here t)
    row s t (no c) =
        ap (λ (y : ℕ). member y t) (row_put_other rows' n s x c)
        ∙ h.rows_done s t
        ∙ ap (λ (b : Bool). holds rows s t && not b) (sym (same s t c))

    there : (t : ℕ) → t < q → get_or ranks'' (n * q + t) 0 ≡ cond (passed lost rest n t) k (get_or ranks (n * q + t) 0)
    there t a =
        m (n * q + t)
        ∙ marked-at (holds lost n) (n * q) k ranks' t
        ∙ ap (λ (v : ℕ). cond (holds lost n t) k v) (h.ranks_done n t a ∙ ap (λ (b : Bool). cond b k (get_or ranks (n * q + t) 0)) (old t))
        ∙ ap (λ (b : Bool). cond b k (get_or ranks (n * q + t) 0)) (sym (new t))

    place : (s t : ℕ) → t < q → Dec (s ≡ n) → get_or ranks'' (s * q + t) 0 ≡ cond (passed lost rest s t) k (get_or ranks (s * q + t) 0)
    place s t a (yes c) = subst (λ (s : ℕ). get_or ranks'' (s * q + t) 0 ≡ cond (passed lost rest s t) k (get_or ranks (s * q + t) 0)) (sym c) (there t a)
    place s t a (no c) =
        m (s * q + t)
        ∙ marked_other (holds lost n) (n * q) k ranks' (s * q + t) (λ u b. apart s n q t u a (within u b) c)
        ∙ h.ranks_done s t a
        ∙ ap (λ (b : Bool). cond b k (get_or ranks (s * q + t) 0)) (sym (same s t c))

-- none is left
pub settled_all : {q k : ℕ} {rows rows' ranks ranks' : List ℕ} (lost : List ℕ) (left : ℕ) → left ≡ 0 → Settled q k (passed lost left) rows rows' ranks ranks'
    → Settled q k (holds lost) rows rows' ranks ranks'
settled_all {q} {k} {rows} {rows'} {ranks} {ranks'} lost left e h =
    subst (λ (R : ℕ → Test). Settled q k R rows rows' ranks ranks')
    (fun_ext (λ s. fun_ext (λ t. ap (λ (n : ℕ). holds lost s t && not (member n s)) e ∙ ap (λ (b : Bool). holds lost s t && not b) (member-none s) ∙ and-true (holds lost s t)))) h
