-- The doubts that lost pairs raise: a row of doubts that gets more, and a row of lost pairs that is forgotten.
-- Assumes nothing.
use mathlib.Core.Path.{◌≡◌, refl, sym, ap, ◌∙◌}
use mathlib.Core.Bool.{true, false, true≢false}
use mathlib.Core.List.{List}
use mathlib.Core.Logic.{◌≢◌, ◌⊎◌, inl, inr}
use Prim.Native.Nat.{ℕ, ◌≤◌, ◌<◌}
use native.Mathlib.Omega.{arith}
use native.Mathlib.Decide.{ℕ_discrete}
use Rattle.std.specs.Borrow.{MutBor}
use Rattle.simulation.specs.Limits.{most_states}
use Rattle.simulation.proofs.Finite.Tests.{is_true, is_false, either_true}
use Rattle.word.specs.Mask.{Test, member, without_member, either}
use Rattle.set.specs.Words.{mask}
use Rattle.relation.specs.Rows.{row_of, height, put_row}
use Rattle.relation.specs.Related.{holds}
use Rattle.set.specs.declared.Set.{Set}
use Rattle.word.proofs.Mask.{member-none}
use Rattle.relation.proofs.RowLaws.{row_put, row_put_other}
use Rattle.links.specs.declared.lists.Sets.{Sets}
use Rattle.links.specs.declared.lists.Marks.{Marks}
use Rattle.links.specs.Links.{Covered, Same, SameMarks, RowsBelow, RowsGrown, DoubtsAdded, Doubted}
use Rattle.links.proofs.Walks.{left_self, left_other, EachPassed, passed-next}
use Rattle.links.proofs.Growing.{union_left, union_right, grown-more, grown-set, set_here}

-- lists that stay lent
pub same_refl : {l : MutBor (List ℕ)} → Same l l
same_refl = record { name = refl; size = refl }

pub same_more : {l k m : MutBor (List ℕ)} → Same l k → Same k m → Same l m
same_more a b = record { name = b.name ∙ a.name; size = b.size ∙ a.size }

pub same_marks_refl : {marks : Marks} → SameMarks marks marks
same_marks_refl = record { doubt = same_refl; lost = same_refl }

pub same_marks_more : {marks₁ marks₂ marks₃ : Marks} → SameMarks marks₁ marks₂ → SameMarks marks₂ marks₃ → SameMarks marks₁ marks₃
same_marks_more a b = record { doubt = same_more a.doubt b.doubt; lost = same_more a.lost b.lost }

-- each member of a set is in doubt in row s
abbrev pub InDoubt : (more : ℕ) (doubt : List ℕ) (s : ℕ) → Type 0
InDoubt more doubt s = (t : ℕ) → member more t ≡ true → holds doubt s t ≡ true

-- row s of the doubts, read and written again with more
module _ (doubt : List ℕ) {doubt' : List ℕ} {s : ℕ} (more : ℕ) (old new : Set) (room : most_states ≤ height doubt) (lt : s < most_states)
    (read : mask old ≡ row_of doubt s) (joined : member (mask new) ≡ either (member (mask old)) (member more))
    (put : doubt' ≡ put_row doubt s new) where
  grows : RowsGrown doubt doubt'
  grows =
      rw put
      (grown-set doubt s new (omega arith) (λ t h. union_left (mask old) more (mask new) t joined (ap (λ (n : ℕ). member n t) read ∙ h)))

  here : InDoubt more doubt' s
  here t h = rw put (set_here doubt s new t (omega arith) (union_right (mask old) more (mask new) t joined h))

  -- one row more of a walk over a set
  pub more-next : {doubt₀ : List ℕ} (set : Set) (left left' : ℕ) → member left' ≡ without_member s (member left)
      → RowsGrown doubt₀ doubt × EachPassed set left (InDoubt more doubt) → RowsGrown doubt₀ doubt' × EachPassed set left' (InDoubt more doubt')
  more-next set left left' e h =
      (grown-more h.0 grows, passed-next set (InDoubt more doubt') left left' s e here (λ u m l t x. grows.still u t (h.1 u m l t x)))

-- the lost pairs of the rows that are not left have raised their doubts, and are lost no longer
pub record Raised (sets : Sets) (marks : Marks) (left doubtful : ℕ) (marks' : Marks) : Type 0 where
  pub raised : (a : ℕ) → member left a ≡ false
      → (s u t : ℕ) → holds sets.before.now a s ≡ true → holds marks.lost.now a u ≡ true → holds sets.behind.now u t ≡ true
      → (member doubtful s ≡ true) × (holds marks'.doubt.now s t ≡ true)
  pub within : (n : ℕ) → RowsBelow n sets.before.now → (s : ℕ) → member doubtful s ≡ true → s < n
  pub same : (a : ℕ) → member left a ≡ true → row_of marks'.lost.now a ≡ row_of marks.lost.now a
  pub empty : (a t : ℕ) → member left a ≡ false → holds marks'.lost.now a t ≡ false

pub raised-none : {sets : Sets} {marks : Marks} {fell doubtful : ℕ} → Covered fell marks.lost.now → doubtful ≡ 0 → Raised sets marks fell doubtful marks
raised-none {marks = marks} covered e =
    record {
      raised = λ a l s u t x y z. absurd (true≢false (sym (covered a u y) ∙ l));
      within = λ n h s m. absurd (true≢false (sym m ∙ ap (λ (n : ℕ). member n s) e ∙ member-none s));
      same = λ a l. refl;
      empty = λ a t l. is_false (holds marks.lost.now a t) (λ h. true≢false (sym (covered a t (is_true (holds marks.lost.now a t) h)) ∙ l));
    }

-- the lost pairs of row a raise their doubts, in the rows of its sources, and are forgotten
module _ {sets : Sets} {marks marks₁ : Marks} {a left doubtful : ℕ} (marks₂ : Marks) (rest doubtful' : ℕ) (sources lost more none : Set)
    (room : most_states ≤ height marks₁.lost.now) (lt : a < most_states) (has : member left a ≡ true) (drops : member rest ≡ without_member a (member left))
    (from : mask sources ≡ row_of sets.before.now a) (read : mask lost ≡ row_of marks₁.lost.now a)
    (behind : (u t : ℕ) → member (mask lost) u ≡ true → holds sets.behind.now u t ≡ true → member (mask more) t ≡ true)
    (added : DoubtsAdded (mask sources) (mask more) marks₁.doubt.now marks₂.doubt.now)
    (nothing : mask none ≡ 0) (put : marks₂.lost.now ≡ put_row marks₁.lost.now a none)
    (joined : member doubtful' ≡ either (member doubtful) (member (mask sources)))
    (h : Raised sets marks left doubtful marks₁) where
  source : (s : ℕ) → member (mask sources) s ≡ holds sets.before.now a s
  source s = ap (λ (n : ℕ). member n s) from

  lost-row : (u : ℕ) → member (mask lost) u ≡ holds marks.lost.now a u
  lost-row u = ap (λ (n : ℕ). member n u) (read ∙ h.same a has)

  lost-there : row_of marks₂.lost.now a ≡ 0
  lost-there = ap (λ (l : List ℕ). row_of l a) put ∙ row_put marks₁.lost.now a none (omega arith) ∙ nothing

  lost-other : (b : ℕ) → b ≢ a → row_of marks₂.lost.now b ≡ row_of marks₁.lost.now b
  lost-other b d = ap (λ (l : List ℕ). row_of l b) put ∙ row_put_other marks₁.lost.now a b none d

  left_of : (b : ℕ) → b ≢ a → member rest b ≡ member left b
  left_of = left_other left rest a drops

  step : (b : ℕ) → member rest b ≡ false → Dec (b ≡ a)
      → (s u t : ℕ) → holds sets.before.now b s ≡ true → holds marks.lost.now b u ≡ true → holds sets.behind.now u t ≡ true
      → (member doubtful' s ≡ true) × (holds marks₂.doubt.now s t ≡ true)
  step b l (yes c) s u t x y z =
      let x' : member (mask sources) s ≡ true = source s ∙ ap (λ (b : ℕ). holds sets.before.now b s) (sym c) ∙ x in
      let y' : member (mask lost) u ≡ true = lost-row u ∙ ap (λ (b : ℕ). holds marks.lost.now b u) (sym c) ∙ y in
      (union_right doubtful (mask sources) doubtful' s joined x', added.added s t x' (behind u t y' z))
  step b l (no c) s u t x y z =
      let r = h.raised b (sym (left_of b c) ∙ l) s u t x y z in
      (union_left doubtful (mask sources) doubtful' s joined r.0, added.grown.still s t r.1)

  split : (n : ℕ) → RowsBelow n sets.before.now → (s : ℕ) → (member doubtful s ≡ true) ⊎ (member (mask sources) s ≡ true) → s < n
  split n w s (inl x) = h.within n w s x
  split n w s (inr x) = w a s (sym (source s) ∙ x)

  kept : (b : ℕ) → member rest b ≡ true → Dec (b ≡ a) → row_of marks₂.lost.now b ≡ row_of marks.lost.now b
  kept b l (yes c) = absurd (true≢false (sym l ∙ ap (member rest) c ∙ left_self left rest a drops))
  kept b l (no c) = lost-other b c ∙ h.same b (sym (left_of b c) ∙ l)

  gone : (b t : ℕ) → member rest b ≡ false → Dec (b ≡ a) → holds marks₂.lost.now b t ≡ false
  gone b t l (yes c) = ap (λ (b : ℕ). holds marks₂.lost.now b t) c ∙ ap (λ (n : ℕ). member n t) lost-there ∙ member-none t
  gone b t l (no c) = ap (λ (n : ℕ). member n t) (lost-other b c) ∙ h.empty b t (sym (left_of b c) ∙ l)

  pub raised-next : Raised sets marks rest doubtful' marks₂
  raised-next =
      record {
        raised = λ b l. step b l (ℕ_discrete b a);
        within = λ n w s m. split n w s (either_true (member doubtful s) (member (mask sources) s) (sym (ap (λ (X : Test). X s) joined) ∙ m));
        same = λ b l. kept b l (ℕ_discrete b a);
        empty = λ b t l. gone b t l (ℕ_discrete b a);
      }

pub raised_all : {sets : Sets} {marks marks' : Marks} {left doubtful : ℕ} → left ≡ 0 → Raised sets marks left doubtful marks' → Doubted sets doubtful marks marks'
raised_all {left = left} e h =
    let none : (a : ℕ) → member left a ≡ false = λ a. ap (λ (n : ℕ). member n a) e ∙ member-none a in
    record { raised = λ a s u t. h.raised a (none a) s u t; within = h.within; empty = λ a t. h.empty a t (none a) }
