-- The targets of a transition tested one by one against a state, and what that tells of a transition to that state alone.
-- Assumes nothing.
use mathlib.Core.Path.{◌≡◌, refl, sym, ap, ap₂, ◌∙◌, subst}
use mathlib.Core.Bool.{Bool, true, false, not, ◌&&◌, ◌||◌}
use mathlib.Core.List.{List}
use mathlib.Core.Logic.{⊎_elim}
use Prim.Native.Nat.{ℕ, ◌+◌, ◌≤◌, ◌<◌}
use native.Mathlib.Numerals.{add-one}
use native.Mathlib.Omega.{arith}
use lib.Dec.{T, T_not, not_T, eqb, eqb→eq, eqb_refl}
use lib.ListN.{length}
use Rattle.simulation.specs.Sum.{any, when}
use Rattle.simulation.specs.Fit.{Positive}
use Rattle.simulation.specs.Table.{Transition, weights, target_at}
use Rattle.simulation.specs.Limits.{most_states}
use Rattle.simulation.specs.Round.{Relation, related, between, fits_step}
use Rattle.simulation.specs.Tree.{apart_by}
use Rattle.simulation.proofs.Finite.Tests.{and_both, and_right, same_test, same_eqb, same?, any_some, some-any, below_one}
use Rattle.form.proofs.FormLaws.{weights-length}
use Rattle.word.specs.Mask.{member, with_bit, either}
use Rattle.word.proofs.Mask.{member-none, some-member, one-is}
use Rattle.set.proofs.Sets.{mask_lt}
use Rattle.matrix.proofs.MaskedLaws.{neither}
use Rattle.set.specs.Words.{mask}
use Rattle.set.specs.declared.Set.{Set}
use Rattle.relation.specs.Rows.{row_of, height, put_row}
use Rattle.relation.proofs.RowLaws.{row_put}
use Rattle.choice.specs.Choice.{Parted}
use Rattle.simulation.proofs.Fit.Lone.{lone-step, lone-apart}
use Rattle.choice.proofs.Choosing.{eqb_flip}

module _ (R : Relation) (s : ℕ) (n : Transition) where
  -- the target at place k is not related to s, and is u
  abbrev pub apart-at : ℕ → ℕ → Bool
  apart-at u k = eqb (target_at n k) u && not (related R s (target_at n k))

  -- of the targets before place i, those that s is not related to
  pub record Unrelating (apart i : ℕ) : Type 0 where
    pub within : i ≤ length n.entries
    pub tested : (u : ℕ) → member apart u ≡ any i (apart-at u)

  pub unrelating_start : {z : ℕ} → z ≡ 0 → Unrelating z 0
  unfolding any
  unrelating_start e = record { within = omega arith; tested = λ u. ap (λ (z : ℕ). member z u) e ∙ member-none u }

  pub unrelating_next : {apart i : ℕ} → Unrelating apart i → (x : Set) {t b : ℕ} → i < length n.entries → t ≡ target_at n i → b ≡ when (not (related R s (target_at n i))) 1
      → member (mask x) ≡ with_bit t b (member apart) → Unrelating (mask x) (i + 1)
  unfolding any
  unrelating_next {apart} {i} w x {t} {b} lt e h v =
      record {
        within = omega arith;
        tested = λ u.
            ap (λ X. X u) v
            ∙ ap₂ (λ (p q : Bool). p || q)
            (ap₂ (λ (t : ℕ) (p : Bool). eqb u t && p) e (ap (λ (b : ℕ). eqb b 1) h ∙ one-is (not (related R s (target_at n i))))
            ∙ ap (λ (p : Bool). p && not (related R s (target_at n i))) (eqb_flip u (target_at n i)))
            (w.tested u)
            ∙ sym (ap (λ (k : ℕ). any k (apart-at u)) (add-one i));
      }

-- m has one target, and `more` has the targets of n that this is not related to
module _ (R : Relation) (m n : Transition) (one : length m.entries ≡ 1) (positive : Positive (weights m)) (positive' : Positive (weights n)) (same : m.code ≡ n.code)
    (more : Set) (found : (u : ℕ) → member (mask more) u ≡ any (length n.entries) (apart-at R (target_at m 0) n u)) where
  one-weight : length (weights m) ≡ 1
  one-weight = weights-length m ∙ one

  -- what `more` has is what m must be told apart from
  more-is : (u : ℕ) → apart_by R m 0 n u ≡ member (mask more) u
  more-is u = lone-apart R m n one-weight positive positive' same u ∙ ap (λ (q : ℕ). any q (apart-at R (target_at m 0) n u)) (weights-length n) ∙ sym (found u)

  -- m fits n exactly if it has nothing
  lone-fit : {b : Bool} → b ≡ eqb (mask more) 0 → b ≡ fits_step R m n
  lone-fit {b} e =
      e
      ∙ same_test (eqb (mask more) 0) (not missing) none some
      ∙ sym (lone-step R m n one-weight positive positive' same)
    where
      missing : Bool
      missing = any (length (weights n)) (λ k. not (between R m n 0 k))

      none : T (eqb (mask more) 0) → T (not missing)
      none z =
          not_T missing (λ t.
          let w = any_some (length (weights n)) (λ k. not (between R m n 0 k)) t in
          let u = target_at n w.0 in
          let in-more : T (member (mask more) u) = subst T (sym (found u)) (some-any (length n.entries) (apart-at R (target_at m 0) n u) w.0 (omega (arith, w.1, weights-length n)) (and_both (eqb u u) (not (between R m n 0 w.0)) (eqb_refl u) w.2)) in
          subst T (ap (λ (x : ℕ). member x u) (eqb→eq (mask more) 0 z) ∙ member-none u) in-more)

      some : T (not missing) → T (eqb (mask more) 0)
      some f =
          ⊎_elim same_eqb
          (λ d.
          let w = some-member most_states (mask more) (mask_lt more) d in
          let k = any_some (length n.entries) (apart-at R (target_at m 0) n w.0) (subst T (sym (sym (found w.0) ∙ w.1)) tt) in
          absurd (T_not missing f
          (some-any (length (weights n)) (λ k. not (between R m n 0 k)) k.0 (omega (arith, k.1, weights-length n))
          (and_right (eqb (target_at n k.0) w.0) (not (between R m n 0 k.0)) k.2))))
          (same? (mask more) 0)

  pub lone_parted_fit : {b : Bool} (sets : List ℕ) → b ≡ eqb (mask more) 0 → b ≡ true → Parted R m n true sets sets
  lone_parted_fit sets e h = record { fit = sym h ∙ lone-fit e; added = λ f. absurd (neither refl f) }

  pub lone_parted : {b : Bool} {row : ℕ} (x : Set) {sets sets' : List ℕ} → b ≡ eqb (mask more) 0 → b ≡ false → 1 ≤ height sets → row ≡ row_of sets 0
      → member (mask x) ≡ either (member (mask more)) (member row) → sets' ≡ put_row sets 0 x → Parted R m n false sets sets'
  lone_parted {row = row} x {sets} {sets'} e h room old joined put =
      record {
        fit = sym h ∙ lone-fit e;
        added = λ _. record { join = λ i b u. below_one (λ i. member (row_of sets' i) u ≡ (apart_by R m i n u || member (row_of sets i) u)) (here u) i (omega (arith, one)) };
      }
    where
      here : (u : ℕ) → member (row_of sets' 0) u ≡ (apart_by R m 0 n u || member (row_of sets 0) u)
      here u =
          ap (λ (l : List ℕ). member (row_of l 0) u) put
          ∙ ap (λ (y : ℕ). member y u) (row_put sets 0 x (omega arith))
          ∙ ap (λ X. X u) joined
          ∙ ap₂ ◌||◌ (sym (more-is u)) (ap (λ (y : ℕ). member y u) old)
