-- Sets of places as numbers.
-- Assumes nothing.
use mathlib.Core.Path.{◌≡◌, sym, ap, ◌∙◌, fun_ext, subst}
use mathlib.Core.Bool.{Bool, not, ◌&&◌}
use Prim.Native.Nat.{ℕ, zero, suc, ◌+◌, ◌^◌, ◌≤◌, ◌<◌, zero-le}
use native.Mathlib.Nat.{pow-suc, pow-le-pow_right}
use native.Mathlib.Omega.{arith}
use borrow.Author.Tests.{lt-ltb, le-ltb}
use lib.Dec.{T, eqb, ltb, ltb→lt, leb-suc-suc, lit<}
use lib.Arith.{digits_div, digits_mod}
use Rattle.simulation.specs.Sum.{any, when}
use Rattle.simulation.specs.Fit.{Set, touched}
use Rattle.simulation.proofs.Finite.Tests.{same_test, any_some, some-any, touched-some, some-touched, and_both, and_left, and_right}
use Rattle.simulation.proofs.Finite.Sums.{one-most}
use Rattle.word.specs.Mask.{member, part}
use Rattle.word.proofs.Mask.{member-none, mask_by_members, one-is}
use Rattle.excess.specs.Excess.{few, set_count, within, set_of, related_to}

one_below : (c : Bool) → when c 1 < 2
one_below c = omega (arith, one-most c)

-- its members are the places that pass
member-set-at : (n : ℕ) (X : ℕ → Bool) (k : ℕ) → member (set_of n X) k ≡ part n X k
unfolding member set_of
member-set-at zero X k = member-none k ∙ ap (λ (b : Bool). b && X k) (sym (le-ltb k 0 zero-le))
member-set-at (suc n) X zero =
    ap (λ (m : ℕ). eqb m 1) (digits_mod (set_of n (λ i. X (suc i))) (one_below (X 0))) ∙ one-is (X 0) ∙ ap (λ (b : Bool). b && X 0) (sym (lt-ltb 0 (suc n) (omega arith)))
member-set-at (suc n) X (suc k) =
    ap (λ (m : ℕ). member m k) (digits_div (set_of n (λ i. X (suc i))) (one_below (X 0))) ∙ member-set-at n (λ i. X (suc i)) k
    ∙ ap (λ (b : Bool). b && X (suc k)) (sym (leb-suc-suc (suc k) n))

-- a place below the bound is a member if it passes
pub member-at : (n : ℕ) (X : ℕ → Bool) (k : ℕ) → k < n → member (set_of n X) k ≡ X k
member-at n X k l = member-set-at n X k ∙ ap (λ (b : Bool). b && X k) (lt-ltb k n l)

member-set : (n : ℕ) (X : ℕ → Bool) → member (set_of n X) ≡ part n X
member-set n X = fun_ext (member-set-at n X)

set_below : (n : ℕ) (X : ℕ → Bool) → set_of n X < 2 ^ n
unfolding set_of
set_below zero X = lit< tt
set_below (suc n) X = let p = pow-suc 2 n in omega (arith, set_below n (λ i. X (suc i)), one_below (X 0))

pub set-small : (n : ℕ) (X : ℕ → Bool) → n ≤ few → set_of n X < set_count
set-small n X h = let p : 2 ^ n ≤ 2 ^ few = pow-le-pow_right (lit< tt) h in omega (arith, set_below n X)

below_power : (x n m : ℕ) → x < 2 ^ n → n ≤ m → x < 2 ^ m
below_power x n m l h = let p : 2 ^ n ≤ 2 ^ m = pow-le-pow_right (lit< tt) h in omega arith

below-own : (x : ℕ) → x < 2 ^ x
below-own zero = lit< tt
below-own (suc x) = let p = pow-suc 2 x in omega (arith, below-own x)

-- a number with these members is the set
pub set_is : (n : ℕ) (X : ℕ → Bool) (x : ℕ) → member x ≡ part n X → x ≡ set_of n X
set_is n X x e =
    mask_by_members (x + n) x (set_of n X) (below_power x x (x + n) (below-own x) (omega arith)) (below_power (set_of n X) n (x + n) (set_below n X) (omega arith))
    (e ∙ sym (member-set n X))

-- a number whose members are few places
pub few_members : (n : ℕ) (X : ℕ → Bool) (x : ℕ) → n ≤ few → member x ≡ part n X → x < set_count
few_members n X x le e = omega (arith, set_is n X x e, set-small n X le)

abbrev pub outside : ℕ → Set
outside k i = not (member k i)

-- the places that are related to j lie within k exactly if no place outside k is related to j
module _ (p : ℕ) (R : ℕ → ℕ → Bool) (small : p ≤ few) (k j : ℕ) where
  abbrev lost : ℕ → Bool
  lost i = member (related_to p R j) i && outside k i

  touches : T (any few lost) → T (touched p R (outside k) j)
  touches t =
      let w = any_some few lost t in
      let m : T (ltb w.0 p && R w.0 j) = subst T (member-set-at p (λ i. R i j) w.0) (and_left (member (related_to p R j) w.0) (outside k w.0) w.2) in
      some-touched p R (outside k) w.0 j (ltb→lt w.0 p (and_left (ltb w.0 p) (R w.0 j) m)) (and_right (member (related_to p R j) w.0) (outside k w.0) w.2)
      (and_right (ltb w.0 p) (R w.0 j) m)

  leaves : T (touched p R (outside k) j) → T (any few lost)
  leaves t =
      let w = touched-some p R (outside k) j t in
      some-any few lost w.0 (omega (arith, w.1))
      (and_both (member (related_to p R j) w.0) (outside k w.0) (subst T (sym (member-at p (λ i. R i j) w.0 w.1)) w.3) w.2)

  pub within-is : within (related_to p R j) k ≡ not (touched p R (outside k) j)
  unfolding within
  within-is = ap not (same_test (any few lost) (touched p R (outside k) j) touches leaves)
