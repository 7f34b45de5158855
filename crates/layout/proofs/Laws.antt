-- Laws that several proofs cite: a test by what is left, and what a loop over the items from 0 on has shown.
-- Assumes nothing.
use mathlib.Core.Path.{◌≡◌, refl, sym, ◌∙◌}
use mathlib.Core.Bool.{Bool, true, false, ◌&&◌}
use Prim.Native.Nat.{ℕ, zero, suc, ◌+◌, ◌-◌, ◌≤◌, ◌<◌}
use native.Mathlib.Numerals.{add-one}
use native.Mathlib.Omega.{arith}
use lib.Dec.{leb, ltb}
use borrow.Author.Tests.{leb-true, leb-false, le-leb, lt-leb, le-ltb, lt-ltb}
use Rattle.layout.specs.Bytes.{first, ◌then◌, refuse◌unless◌}

-- a count of bytes is compared with what is left from a place on
pub leb_sub : (at n len : ℕ) → at ≤ len → leb n (len - at) ≡ leb (at + n) len
leb_sub at n len h = go (leb n (len - at)) refl
  where
    go : (t : Bool) → leb n (len - at) ≡ t → leb n (len - at) ≡ leb (at + n) len
    go true e = e ∙ sym (le-leb (at + n) len (omega (arith, leb-true n (len - at) e)))
    go false e = e ∙ sym (lt-leb (at + n) len (omega (arith, leb-false n (len - at) e)))

-- the items below i pass
abbrev pub ItemsPass : ℕ → (ℕ → ℕ) → ℕ → Type 0
ItemsPass n f i = first 0 n f ≡ first i (n - i) f

module _ (n : ℕ) (f : ℕ → ℕ) where
  left : (i : ℕ) → i < n → first i (n - i) f ≡ f i then first (i + 1) (n - (i + 1)) f
  unfolding first
  left i l =
      let e : n - i ≡ suc (n - (i + 1)) = omega arith in
      rw (e, add-one i)

  pub items_none : ItemsPass n f 0
  items_none = let e : n - 0 ≡ n = omega arith in rw e

  pub items_more : (i : ℕ) → ItemsPass n f i → i < n → f i ≡ 0 → ItemsPass n f (i + 1)
  unfolding ◌then◌
  items_more i h l e = h ∙ left i l ∙ rw e

  pub items_all : (i : ℕ) → ItemsPass n f i → n ≤ i → first 0 n f ≡ 0
  unfolding first
  items_all i h l = let e : n - i ≡ 0 = omega arith in h ∙ rw e

pub refused_unless : (k : ℕ) {t : Bool} → t ≡ false → refuse k unless t ≡ k
unfolding refuse◌unless◌
refused_unless k e = rw e

pub not_refused : (k : ℕ) {t : Bool} → t ≡ true → refuse k unless t ≡ 0
unfolding refuse◌unless◌
not_refused k e = rw e

-- the same where the test compares two numbers
pub leb_refused : (k a b : ℕ) → b < a → refuse k unless leb a b ≡ k
leb_refused k a b h = refused_unless k (lt-leb a b h)

pub leb_passes : (k a b : ℕ) → a ≤ b → refuse k unless leb a b ≡ 0
leb_passes k a b h = not_refused k (le-leb a b h)

pub ltb_refused : (k a b : ℕ) → b ≤ a → refuse k unless ltb a b ≡ k
ltb_refused k a b h = refused_unless k (le-ltb a b h)

pub ltb_passes : (k a b : ℕ) → a < b → refuse k unless ltb a b ≡ 0
ltb_passes k a b h = not_refused k (lt-ltb a b h)

-- the first of two refusals
pub then_second : {f : ℕ} (g : ℕ) → f ≡ 0 → g ≡ f then g
unfolding ◌then◌
then_second g e = rw e

pub then_first : (f g : ℕ) → (f ≡ 0 → ⊥) → f ≡ f then g
unfolding ◌then◌
then_first zero g d = absurd (d refl)
then_first (suc f) g d = refl

-- the refusal at i is the first
pub items_here : (n : ℕ) (f : ℕ → ℕ) (i : ℕ) {r : ℕ} → ItemsPass n f i → i < n → f i ≡ r → 0 < r → first 0 n f ≡ r
items_here n f i {r} h l e p =
    h ∙ left n f i l ∙ sym (then_first (f i) _ (λ z. omega arith)) ∙ e

pub both_hold : {a b : Bool} → a ≡ true → b ≡ true → a && b ≡ true
both_hold p q = rw (p, q)
