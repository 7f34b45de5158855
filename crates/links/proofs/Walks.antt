-- Walks of the members of a set: what is left, and what holds of each member passed.
-- Assumes nothing.
use mathlib.Core.Path.{◌≡◌, refl, sym, ap, ◌∙◌, subst}
use mathlib.Core.Bool.{Bool, true, false, not, ◌&&◌, and-true, and-false, true≢false}
use mathlib.Core.Logic.{◌≢◌}
use Prim.Native.Nat.{ℕ}
use native.Mathlib.Decide.{ℕ_discrete}
use borrow.Author.Tests.{eq-eqb, ne_eqb}
use lib.Dec.{eqb}
use Rattle.simulation.proofs.Finite.Tests.{both_true}
use Rattle.word.specs.Mask.{Test, member, without_member}
use Rattle.set.specs.Words.{mask}
use Rattle.set.specs.declared.Set.{Set}
use Rattle.set.proofs.Walks.{begun}
use Rattle.word.proofs.Mask.{member-none}

-- what is left of a set without one of its members
module _ (x y t : ℕ) (rest : member y ≡ without_member t (member x)) where
  pub left_self : member y t ≡ false
  left_self = ap (λ (Y : Test). Y t) rest ∙ ap (λ (b : Bool). member x t && not b) (eq-eqb t t refl) ∙ and-false (member x t)

  pub left_other : (u : ℕ) → u ≢ t → member y u ≡ member x u
  left_other u d = ap (λ (Y : Test). Y u) rest ∙ ap (λ (b : Bool). member x u && not b) (ne_eqb u t d) ∙ and-true (member x u)

  -- it was in the set
  pub left-member : (u : ℕ) → member y u ≡ true → member x u ≡ true
  left-member u m = (both_true (member x u) (not (eqb u t)) (sym (ap (λ (Y : Test). Y u) rest) ∙ m)).0

-- what holds of each member of a set that is no longer left
abbrev pub EachPassed : Set → (left : ℕ) → (ℕ → Type 0) → Type 0
EachPassed set left P = (u : ℕ) → member (mask set) u ≡ true → member left u ≡ false → P u

-- the walk begins, passes a member and ends
module _ (set : Set) (P : ℕ → Type 0) where
  pub passed_none : (left : Set) → left ≡ set → EachPassed set (mask left) P
  passed_none left e = begun (λ n. EachPassed set n P) e (λ u m l. absurd (true≢false (sym m ∙ l)))

  pub passed-next : (left left' t : ℕ) → member left' ≡ without_member t (member left) → P t → EachPassed set left P → EachPassed set left' P
  passed-next left left' t e here h u m l = go (ℕ_discrete u t)
    where
      go : Dec (u ≡ t) → P u
      go (yes q) = subst P (sym q) here
      go (no d) = h u m (sym (left_other left left' t e u d) ∙ l)

  pub passed-all : (left : ℕ) → left ≡ 0 → EachPassed set left P → (u : ℕ) → member (mask set) u ≡ true → P u
  passed-all left e h u m = h u m (ap (λ (n : ℕ). member n u) e ∙ member-none u)
