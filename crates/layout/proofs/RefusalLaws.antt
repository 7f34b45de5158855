-- The number of a refusal is above 0 and tells it; and what follows for a result that tells the first of two refusals.
-- Assumes nothing.
use Rattle.std.specs.Prelude.{[], ◌∷◌, get_or}
use mathlib.Core.Bool.{Bool, true, false, ◌&&◌}
use mathlib.Core.Path.{◌≡◌, refl, sym, ◌∙◌}
use Prim.Native.Nat.{ℕ, zero, suc, ◌<◌, ◌≤◌}
use lib.Dec.{leb}
use borrow.Author.Tests.{leb-false}
use native.Mathlib.Omega.{arith}
use Rattle.layout.specs.declared.refusals.Refusal.{Refusal}
use Rattle.layout.specs.declared.refusals.Refusal.TheVariants.{Cut, Trailing, Codes, States, Transitions, Unlisted, Entries, Empty, Target, Weight}
use Rattle.layout.specs.Bytes.{◌then◌, refuse◌unless◌, section}
use Rattle.layout.specs.Refusals.{number_of}
use Rattle.layout.proofs.Laws.{then_first, not_refused, leb_refused}
use Rattle.layout.proofs.SectionLaws.{then_zero}

pub number_positive : (e : Refusal) → 0 < number_of e
number_positive Cut = omega arith
number_positive Trailing = omega arith
number_positive Codes = omega arith
number_positive States = omega arith
number_positive Transitions = omega arith
number_positive Unlisted = omega arith
number_positive Entries = omega arith
number_positive Empty = omega arith
number_positive Target = omega arith
number_positive Weight = omega arith

-- the refusals by their numbers
abbrev numbered : ℕ → Refusal
numbered k = get_or (Cut ∷ Cut ∷ Trailing ∷ Codes ∷ States ∷ Transitions ∷ Unlisted ∷ Entries ∷ Empty ∷ Target ∷ Weight ∷ []) k Cut

number_tells : (e : Refusal) → numbered (number_of e) ≡ e
number_tells Cut = refl
number_tells Trailing = refl
number_tells Codes = refl
number_tells States = refl
number_tells Transitions = refl
number_tells Unlisted = refl
number_tells Entries = refl
number_tells Empty = refl
number_tells Target = refl
number_tells Weight = refl

-- two refusals with one number are one, so a number and PassesUnless leave one result
pub number_injective : (d e : Refusal) → number_of d ≡ number_of e → d ≡ e
number_injective d e p = sym (number_tells d) ∙ rw (p, number_tells e)

-- the first refusal is told, whatever comes after it
pub told_first : {f : ℕ} (g : ℕ) (e : Refusal) → f ≡ number_of e → f then g ≡ number_of e
told_first {f} g e p =
    let pos = number_positive e in
    sym (then_first f g (λ z. omega arith)) ∙ p

-- what was not refused holds
pub held : (e : Refusal) (t : Bool) → refuse number_of e unless t ≡ 0 → t ≡ true
unfolding refuse◌unless◌
held e true h = refl
held e false h = let p = number_positive e in absurd (omega arith)

-- bytes that end before a place end before each later one
pub cut_at : (a n : ℕ) (e : Refusal) → refuse 1 unless leb a n ≡ number_of e → n < a
cut_at a n e h = go (leb a n) refl
  where
    go : (t : Bool) → leb a n ≡ t → n < a
    go true q = let p = number_positive e in absurd (omega (arith, not_refused 1 q))
    go false q = leb-false a n q

pub cut_before : (a b n : ℕ) (e : Refusal) → a ≤ b → refuse 1 unless leb a n ≡ number_of e → refuse 1 unless leb b n ≡ number_of e
cut_before a b n e l h =
    let short = cut_at a n e h in
    leb_refused 1 b n (omega arith) ∙ sym (leb_refused 1 a n short) ∙ h

-- two tests with one refusal
pub refuse_both : (k : ℕ) (a b : Bool) → refuse k unless (a && b) ≡ refuse k unless a then refuse k unless b
unfolding refuse◌unless◌ ◌then◌
refuse_both k true b = refl
refuse_both zero false true = refl
refuse_both zero false false = refl
refuse_both (suc k) false b = refl

-- a section's refusal is the first of its parts
module _ (present : Bool) (rule : ℕ) (whole : Bool) (items : ℕ) where
  pub told_count : (e : Refusal) → refuse 1 unless present ≡ number_of e → section present rule whole items ≡ number_of e
  unfolding section
  told_count e h = told_first _ e (told_first _ e (told_first _ e h))

  module _ (p : refuse 1 unless present ≡ 0) where
    pub told_rule : (e : Refusal) → rule ≡ number_of e → section present rule whole items ≡ number_of e
    unfolding section
    told_rule e h = told_first _ e (told_first _ e (then_zero _ p ∙ h))

    module _ (q : rule ≡ 0) where
      pub told_whole : (e : Refusal) → refuse 1 unless whole ≡ number_of e → section present rule whole items ≡ number_of e
      unfolding section
      told_whole e h = told_first _ e (then_zero _ (then_zero _ p ∙ q) ∙ h)

      pub told_items : refuse 1 unless whole ≡ 0 → section present rule whole items ≡ items
      unfolding section
      told_items h = then_zero _ (then_zero _ (then_zero _ p ∙ q) ∙ h)
