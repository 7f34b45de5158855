-- A rank for each member of a mask.
-- Assumes nothing.
use mathlib.Core.Path.{◌≡◌, sym, ap, ap₂, ◌∙◌, subst}
use mathlib.Core.Bool.{Bool, true, false, cond, not, ◌&&◌, and-true, and-false}
use mathlib.Core.List.{List}
use mathlib.Core.Logic.{◌≢◌}
use Prim.Native.Nat.{ℕ, ◌+◌, ◌-◌, ◌≤◌, ◌<◌}
use native.Mathlib.Omega.{arith}
use native.Mathlib.Decide.{ℕ_discrete, dec_le}
use borrow.Author.Tests.{le-leb, lt-leb}
use lib.Dec.{leb}
use lib.ListN.{length, get_or, set}
use lib.Seq.{get_or-set_same, get_or-set_other}
use Rattle.word.specs.Mask.{Test, member, without_member, except}
use Rattle.word.proofs.Mask.{member-none}
use Rattle.links.proofs.Walks.{left_self, left_other}
use Rattle.rounds.specs.Rounds.{marked}

module _ (X : Test) (base k : ℕ) (l₀ : List ℕ) where
  none_of : (b c : Bool) → (b && (c && not c)) ≡ false
  none_of b true = and-false b
  none_of b false = and-false b

  -- before the walk no place is written
  pub mark_start : (x : ℕ) → member x ≡ X → (i : ℕ) → get_or l₀ i 0 ≡ marked (except X (member x)) base k l₀ i
  mark_start x e i =
      ap (λ (b : Bool). cond b k (get_or l₀ i 0)) (sym (none_of (leb base i) (X (i - base))))
      ∙ ap (λ (Y : Test). marked (except X Y) base k l₀ i) (sym e)

  -- after it all are
  pub mark_end : (l : List ℕ) (x : ℕ) → x ≡ 0 → ((i : ℕ) → get_or l i 0 ≡ marked (except X (member x)) base k l₀ i) → (i : ℕ) → get_or l i 0 ≡ marked X base k l₀ i
  mark_end l x e h i =
      h i
      ∙ ap (λ (n : ℕ). marked (except X (member n)) base k l₀ i) e
      ∙ ap (λ (b : Bool). cond (leb base i && b) k (get_or l₀ i 0)) (ap (λ (b : Bool). X (i - base) && not b) (member-none (i - base)) ∙ and-true (X (i - base)))

  module _ (l : List ℕ) (x y t : ℕ) (has : X t ≡ true) (rest : member y ≡ without_member t (member x)) where
    here : marked (except X (member y)) base k l₀ (base + t) ≡ k
    here =
        let e : base + t - base ≡ t = omega arith in
        ap (λ (b : Bool). cond (b && except X (member y) (base + t - base)) k (get_or l₀ (base + t) 0)) (le-leb base (base + t) (omega arith))
        ∙ ap (λ (n : ℕ). cond (except X (member y) n) k (get_or l₀ (base + t) 0)) e
        ∙ ap₂ (λ (a b : Bool). cond (a && not b) k (get_or l₀ (base + t) 0)) has (left_self x y t rest)

    there : (i : ℕ) → i ≢ base + t → marked (except X (member x)) base k l₀ i ≡ marked (except X (member y)) base k l₀ i
    there i d = go (dec_le base i)
      where
        go : Dec (base ≤ i) → marked (except X (member x)) base k l₀ i ≡ marked (except X (member y)) base k l₀ i
        go (yes a) = ap (λ (b : Bool). cond (leb base i && (X (i - base) && not b)) k (get_or l₀ i 0)) (sym (left_other x y t rest (i - base) (λ e. d (omega arith))))
        go (no a) =
            ap (λ (b : Bool). cond (b && except X (member x) (i - base)) k (get_or l₀ i 0)) (lt-leb base i (omega arith))
            ∙ ap (λ (b : Bool). cond (b && except X (member y) (i - base)) k (get_or l₀ i 0)) (sym (lt-leb base i (omega arith)))

    pub mark_next : base + t < length l → ((i : ℕ) → get_or l i 0 ≡ marked (except X (member x)) base k l₀ i)
        → (i : ℕ) → get_or (set l (base + t) k) i 0 ≡ marked (except X (member y)) base k l₀ i
    mark_next room h i = go (ℕ_discrete i (base + t))
      where
        go : Dec (i ≡ base + t) → get_or (set l (base + t) k) i 0 ≡ marked (except X (member y)) base k l₀ i
        go (yes e) = subst (λ (n : ℕ). get_or (set l (base + t) k) n 0 ≡ marked (except X (member y)) base k l₀ n) (sym e) (get_or-set_same l (base + t) k 0 room ∙ sym here)
        go (no d) = get_or-set_other l (base + t) i k 0 d ∙ h i ∙ there i d
