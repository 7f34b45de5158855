-- The rows that lack a column, gathered row by row, and the cut that they settle.
-- Assumes nothing.
use mathlib.Core.Path.{◌≡◌, refl, sym, ap, ap₂, ◌∙◌, subst}
use mathlib.Core.Bool.{Bool, true, false, not, cond, ◌&&◌, ◌||◌}
use mathlib.Core.List.{List}
use mathlib.Core.Logic.{◌≢◌, inl, inr, ⊎_elim}
use Prim.Native.Nat.{ℕ, ◌+◌, ◌*◌, ◌^◌, ◌≤◌, ◌<◌, zero-le}
use native.Mathlib.Nat.{mul_comm, lt_of_le_of_lt}
use native.Mathlib.Decide.{ℕ_discrete}
use native.Mathlib.Omega.{arith}
use borrow.Author.Tests.{lt-ltb, ltb-true, ltb-false, eq-eqb, ne_eqb}
use lib.Dec.{eqb, ltb}
use lib.ListN.{length}
use Rattle.simulation.specs.Limits.{most_states}
use Rattle.simulation.specs.Fit.{Positive, total, weight_of, fits?, cut}
use Rattle.simulation.proofs.Fit.Quick.{weight-short, cut_products, cut-none, cut-some}
use Rattle.word.specs.Mask.{Test, member, up_to, with_member, both, either, except}
use Rattle.relation.specs.Rows.{row_of}
use Rattle.word.proofs.Mask.{member-none, below_or_not, no_member, some-member}
use Rattle.relation.specs.Related.{holds}
use Rattle.cut.specs.Quick.{CutOf, Lacking, IsCut, heavier}
use Rattle.cut.proofs.Alike.{alike-fits, alike-cut}
use Rattle.matrix.proofs.MaskedLaws.{true_or_false, neither, both_at, both_in, both_out, except-at, except-out, either-at, either_left, either-right, no_members}

-- ---- the rows that lack a column

lacking_none : (rel : List ℕ) (q : ℕ) → Lacking rel 0 q 0 0 0
lacking_none rel q =
    record {
      inside = λ i t. absurd (neither t (member-none i));
      gap = λ i t. absurd (neither t (member-none i));
      others = λ i j l. absurd (omega arith);
      columns = λ j t. absurd (neither t (member-none j));
      had = λ i j t. absurd (neither t (member-none i));
      lacked = λ i j t. absurd (neither t (member-none i));
    }

pub lacking_start : (rel : List ℕ) (q : ℕ) {rows has lacks : ℕ} → rows ≡ 0 → has ≡ 0 → lacks ≡ 0 → Lacking rel 0 q rows has lacks
lacking_start rel q {rows} {has} {lacks} e f g =
    subst (λ (n : ℕ). Lacking rel 0 q n has lacks) (sym e)
    (subst (λ (n : ℕ). Lacking rel 0 q 0 n lacks) (sym f) (subst (λ (n : ℕ). Lacking rel 0 q 0 0 n) (sym g) (lacking_none rel q)))

pub lacking_is : {rel : List ℕ} {n n' q rows has lacks : ℕ} → n ≡ n' → Lacking rel n q rows has lacks → Lacking rel n' q rows has lacks
lacking_is {rel} {q = q} {rows} {has} {lacks} e s = subst (λ (n : ℕ). Lacking rel n q rows has lacks) e s

module _ {rel : List ℕ} {n q rows has lacks : ℕ} (all gap : ℕ) (s : Lacking rel n q rows has lacks)
    (ea : member all ≡ up_to q) (eg : member gap ≡ except (member all) (member (row_of rel n))) where
  in_all : (j : ℕ) → j < q → member all j ≡ true
  in_all j l = ap (λ (X : Test). X j) ea ∙ lt-ltb j q l

  in_gap : (j : ℕ) → j < q → holds rel n j ≡ false → member gap j ≡ true
  in_gap j l f = ap (λ (X : Test). X j) eg ∙ ap₂ (λ a b. a && not b) (in_all j l) f

  -- row n has all columns
  pub lacking_skip : gap ≡ 0 → Lacking rel (n + 1) q rows has lacks
  lacking_skip z =
      record {
        inside = λ i t. omega (arith, s.inside i t);
        gap = s.gap;
        others = λ i j l f b. elim (ℕ_discrete i n) [
          | yes e ↦ subst (λ (k : ℕ). holds rel k j ≡ true) (sym e) (here j b)
          | no o ↦ s.others i j (omega arith) f b
        ];
        columns = s.columns;
        had = s.had;
        lacked = s.lacked;
      }
    where
      here : (j : ℕ) → j < q → holds rel n j ≡ true
      here j b =
          ⊎_elim (λ t. t) (λ f. absurd (neither (in_all j b) f))
          (except-out (member all) (member (row_of rel n)) j eg (no_members z j))

  -- row n lacks a column
  module _ (row rows' has' lacks' : ℕ) (some : gap ≢ 0) (fits : gap < 2 ^ most_states) (er : member row ≡ both (member all) (member (row_of rel n)))
      (e : member rows' ≡ with_member n (member rows)) (eh : member has' ≡ either (member row) (member has)) (el : member lacks' ≡ either (member gap) (member lacks)) where
    row_here : member rows' n ≡ true
    row_here = ap (λ (X : Test). X n) e ∙ ap (λ (b : Bool). b || member rows n) (eq-eqb n n refl)

    row-there : (i : ℕ) → i ≢ n → member rows' i ≡ member rows i
    row-there i o = ap (λ (X : Test). X i) e ∙ ap (λ (b : Bool). b || member rows i) (ne_eqb i n o)

    gap_here : (j : ℕ) × (j < q) × (holds rel n j ≡ false)
    gap_here =
        let w = some-member most_states gap fits some in
        let h = except-at (member all) (member (row_of rel n)) w.0 eg w.1 in
        (w.0, ltb-true w.0 q (sym (ap (λ (X : Test). X w.0) ea) ∙ h.0), h.1)

    pub lacking_next : Lacking rel (n + 1) q rows' has' lacks'
    lacking_next =
        record {
          inside = λ i t. elim (ℕ_discrete i n) [ yes c ↦ omega arith | no o ↦ omega (arith, s.inside i (sym (row-there i o) ∙ t)) ];
          gap = λ i t. elim (ℕ_discrete i n) [
            | yes c ↦ subst (λ (k : ℕ). (j : ℕ) × (j < q) × (holds rel k j ≡ false)) (sym c) gap_here
            | no o ↦ s.gap i (sym (row-there i o) ∙ t)
          ];
          others = λ i j l f b. elim (ℕ_discrete i n) [
            | yes c ↦ absurd (neither (ap (member rows') c ∙ row_here) f)
            | no o ↦ s.others i j (omega arith) (sym (row-there i o) ∙ f) b
          ];
          columns = λ j t. elim (either-at (member row) (member has) j eh t) [
            | inl h ↦ ltb-true j q (sym (ap (λ (X : Test). X j) ea) ∙ (both_at (member all) (member (row_of rel n)) j er h).0)
            | inr h ↦ s.columns j h
          ];
          had = λ i j t b r. elim (ℕ_discrete i n) [
            | yes c ↦ either_left (member row) (member has) j eh (both_in (member all) (member (row_of rel n)) j er (in_all j b) (subst (λ (k : ℕ). holds rel k j ≡ true) c r))
            | no o ↦ either-right (member row) (member has) j eh (s.had i j (sym (row-there i o) ∙ t) b r)
          ];
          lacked = λ i j t b r. elim (ℕ_discrete i n) [
            | yes c ↦ either_left (member gap) (member lacks) j el (in_gap j b (subst (λ (k : ℕ). holds rel k j ≡ false) c r))
            | no o ↦ either-right (member gap) (member lacks) j el (s.lacked i j (sym (row-there i o) ∙ t) b r)
          ];
        }

-- ---- when they settle the cut

module _ (p rows has lacks : ℕ) where
  -- they have no column
  pub settled_none : has ≡ 0 → IsCut p rows has lacks
  settled_none z = record { alike = λ j t. absurd (neither t (no_members z j)); alone = λ j t. absurd (neither t (no_members z j)) }

  -- they have the same columns, and are all
  pub settled_alike :
      (both_of others all : ℕ) → member both_of ≡ both (member has) (member lacks) → both_of ≡ 0
      → member all ≡ up_to p → member others ≡ except (member all) (member rows) → others ≡ 0 → IsCut p rows has lacks
  settled_alike both_of others all e z ea eo y =
      record {
        alike = λ j t. both_out (member has) (member lacks) j e (no_members z j) t;
        alone = λ _ _ i l.
            ⊎_elim (λ t. t) (λ f. absurd (neither (ap (λ (X : Test). X i) ea ∙ lt-ltb i p l) f))
            (except-out (member all) (member rows) i eo (no_members y i));
      }

-- ---- the cut

module _ (ws vs rel : List ℕ) (r : ℕ) (fits : r < 2 ^ most_states)
    (smallest : (i : ℕ) → i < length ws → cut (holds rel) ws vs i ≡ member r i) (no_others : (i : ℕ) → length ws ≤ i → member r i ≡ false) where
  -- a cut has no member exactly if m fits n
  empty-fits : fits? (holds rel) ws vs ≡ eqb r 0
  empty-fits =
      ⊎_elim
      (λ t.
      let none : r ≡ 0 = no_member most_states r fits (λ i _. ⊎_elim (λ l. sym (smallest i l) ∙ cut-none (holds rel) ws vs t i l) (no_others i) (below_or_not i (length ws))) in
      t ∙ sym (eq-eqb r 0 none))
      (λ f.
      let w = cut-some (holds rel) ws vs f in
      f ∙ sym (ne_eqb r 0 (λ z. neither (sym (smallest w.0 w.1) ∙ w.2) (no_members z w.0))))
      (true_or_false (fits? (holds rel) ws vs))

  cut_of : CutOf ws vs rel r
  cut_of = record { fit = empty-fits; smallest = smallest; no_others = no_others }

-- only rows are gathered
inside-only : {rel : List ℕ} {n q rows has lacks : ℕ} → Lacking rel n q rows has lacks → (i : ℕ) → n ≤ i → member rows i ≡ false
inside-only {rows = rows} s i l = ⊎_elim (λ t. absurd (let b = s.inside i t in omega arith)) (λ f. f) (true_or_false (member rows i))

-- the rows that lack a column are the cut
pub cut_settled :
    {ws vs rel : List ℕ} {rows has lacks : ℕ} → Positive ws → Positive vs → rows < 2 ^ most_states
    → Lacking rel (length ws) (length vs) rows has lacks → IsCut (length ws) rows has lacks → CutOf ws vs rel rows
cut_settled {ws} {vs} {rel} {rows} pw pv fits s e =
    cut_of ws vs rel rows fits
    (cut_products (holds rel) ws vs (member rows) pw
    (λ i j l m f. s.others i j l f m)
    (λ i l t. let g = s.gap i t in weight-short vs (holds rel i) g.0 g.1 (pv g.0 g.1) g.2)
    (λ i j i' l m l' t r.
    let h = s.had i j t m r in
    let t' = e.alone j h i' l' in
    (⊎_elim (λ y. y) (λ f. absurd (neither (s.lacked i' j t' m f) (e.alike j h))) (true_or_false (holds rel i' j)), t')))
    (inside-only s)

-- where these have the same columns, they are the cut if they are the heavier side, and else m fits n
module _ (ws vs : List ℕ) {rel : List ℕ} {rows has lacks : ℕ} (both_of : ℕ) (pw : Positive ws) (small : rows < 2 ^ most_states)
    (s : Lacking rel (length ws) (length vs) rows has lacks) (e : member both_of ≡ both (member has) (member lacks)) (z : both_of ≡ 0) where
  full : (i j : ℕ) → i < length ws → j < length vs → member rows i ≡ false → holds rel i j ≡ true
  full i j l m f = s.others i j l f m

  alike : (i j : ℕ) → i < length ws → j < length vs → member rows i ≡ true → holds rel i j ≡ member has j
  alike i j l m t =
      ⊎_elim (λ r. r ∙ sym (s.had i j t m r))
      (λ f.
      f ∙ ⊎_elim (λ h. absurd (neither (s.lacked i j t m f) (both_out (member has) (member lacks) j e (no_members z j) h))) sym (true_or_false (member has j)))
      (true_or_false (holds rel i j))

  rows_cut : weight_of vs (member has) * total ws < weight_of ws (member rows) * total vs → CutOf ws vs rel rows
  rows_cut h =
      cut_of ws vs rel rows small
      (alike-cut (holds rel) ws vs (member rows) (member has) full alike pw
      (omega (arith, mul_comm (weight_of vs (member has)) (total ws), mul_comm (weight_of ws (member rows)) (total vs))))
      (inside-only s)

  none-cut : weight_of ws (member rows) * total vs ≤ weight_of vs (member has) * total ws → CutOf ws vs rel 0
  none-cut h =
      let fit = alike-fits (holds rel) ws vs (member rows) (member has) full alike
      (omega (arith, mul_comm (weight_of vs (member has)) (total ws), mul_comm (weight_of ws (member rows)) (total vs))) in
      cut_of ws vs rel 0 (lt_of_le_of_lt zero-le small) (λ i l. cut-none (holds rel) ws vs fit i l ∙ sym (member-none i)) (λ i _. member-none i)

  pub cut-heavier : {r : ℕ} → r ≡ heavier ws vs rows has → CutOf ws vs rel r
  unfolding heavier
  cut-heavier {r} q =
      let a = weight_of vs (member has) * total ws in
      let b = weight_of ws (member rows) * total vs in
      ⊎_elim
      (λ t. subst (CutOf ws vs rel) (sym (q ∙ ap (λ (c : Bool). cond c rows 0) t)) (rows_cut (ltb-true a b t)))
      (λ f. subst (CutOf ws vs rel) (sym (q ∙ ap (λ (c : Bool). cond c rows 0) f)) (none-cut (ltb-false a b f)))
      (true_or_false (ltb a b))
