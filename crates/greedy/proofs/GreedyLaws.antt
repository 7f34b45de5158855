-- The greedy start's loops: the columns of a row, and the rows.
-- Assumes nothing.
use mathlib.Core.Path.{◌≡◌, refl, sym, ap, ap₂, ◌∙◌, subst, fun_ext}
use mathlib.Core.Bool.{Bool, true, false, not, ◌&&◌}
use mathlib.Core.List.{List}
use mathlib.Core.Logic.{◌≢◌, ⊎_elim}
use Prim.Native.Nat.{ℕ, zero, suc, ◌+◌, ◌-◌, ◌≤◌, ◌<◌, min}
use native.Mathlib.Decide.{ℕ_discrete}
use native.Mathlib.Omega.{arith}
use lib.Dec.{eqb}
use lib.ListN.{length, get_or}
use borrow.Author.Tests.{eq-eqb, ne_eqb}
use Rattle.simulation.specs.Limits.{most_states}
use Rattle.simulation.specs.Sum.{sum, when}
use Rattle.word.specs.Mask.{Test, member, without_member, both, Lowest}
use Rattle.relation.specs.Rows.{row_of}
use Rattle.word.proofs.Mask.{member-none, below_or_not}
use Rattle.relation.specs.Related.{holds}
use Rattle.matrix.specs.Matrix.{cell, delta, row_sum, column_sum, Adds}
use Rattle.matrix.specs.Masks.{with_nonzero, MaskOf}
use Rattle.matrix.specs.Flow.{Partial, FlowIn, ImprovedIn, Preserves}
use Rattle.greedy.specs.Greedy.{Greedy, CellFilled, RowFilled}
use Rattle.matrix.proofs.MatrixLaws.{delta-same, sum-next, row_same, column-same, row_sum-none, column-none, row_adds, adds_row, adds_column, adds_at-other}
use Rattle.matrix.proofs.MaskedLaws.{neither, both_at, both_out, drop_at, drop-out, no_members, mask_put, used_adds}
use Rattle.matrix.proofs.FlowLaws.{improves_refl, flow_now, improves-on, improved, cell_extends}

when-none : (c : Bool) (n : ℕ) → (c ≡ true → n ≡ 0) → when c n ≡ 0
when-none true n h = h refl
when-none false n h = refl

when_true : {c : Bool} (n : ℕ) → c ≡ true → n ≡ when c n
when_true n e = sym (ap (λ (c : Bool). when c n) e)

-- less of one has no more than nothing
when-less : (c : Bool) (m m' n : ℕ) → m' ≤ m → when c (min m n) ≡ 0 → when c (min m' n) ≡ 0
when-less true m m' n h e = omega arith
when-less false m m' n h e = refl

least : (c : Bool) {m m' n n' : ℕ} → m ≡ m' → n ≡ n' → when c (min m n) ≡ when c (min m' n')
least c = ap₂ (λ (m n : ℕ). when c (min m n))

-- terms that are 0 add nothing
sum_idle : (k n : ℕ) (f : ℕ → ℕ) → ((j : ℕ) → k ≤ j → j < k + n → f j ≡ 0) → sum (k + n) f ≡ sum k f
sum_idle k zero f h = ap (λ (m : ℕ). sum m f) (omega arith)
sum_idle k (suc n) f h = let e : k + suc n ≡ (k + n) + 1 = omega arith in
    ap (λ (m : ℕ). sum m f) e ∙ sum-next (k + n) f ∙ omega (arith, h (k + n) (omega arith) (omega arith), sum_idle k n f (λ j l m. h j l (omega arith)))

sum_idle_to : (k n : ℕ) (f : ℕ → ℕ) → k ≤ n → ((j : ℕ) → k ≤ j → j < n → f j ≡ 0) → sum n f ≡ sum k f
sum_idle_to k n f l h = let e : n ≡ k + (n - k) = omega arith in
    ap (λ (m : ℕ). sum m f) e ∙ sum_idle k (n - k) f (λ j a b. h j a (omega arith))

row_idle : (k n i : ℕ) (x : List ℕ) → k ≤ n → ((j : ℕ) → k ≤ j → j < n → cell x i j ≡ 0) → row_sum n x i ≡ row_sum k x i
unfolding row_sum
row_idle k n i x l h = sum_idle_to k n (λ j. cell x i j) l h

column_idle : (k n j : ℕ) (x : List ℕ) → k ≤ n → ((i : ℕ) → k ≤ i → i < n → cell x i j ≡ 0) → column_sum n x j ≡ column_sum k x j
unfolding column_sum
column_idle k n j x l h = sum_idle_to k n (λ i. cell x i j) l h

-- a related cell of a flow is filled: another flow of the same supplies and demands
pub cell-improves : {rel : List ℕ} {i j : ℕ} {F G : Partial} → FlowIn rel F → i < length F.supply → j < length F.demand → holds rel i j ≡ true
    → length G.amounts ≡ length F.amounts → length G.supply ≡ length F.supply → length G.demand ≡ length F.demand → length G.senders ≡ length F.senders
    → CellFilled i j F G → ImprovedIn rel F G
cell-improves f hi hj r lx la lb lu s =
    improved f lx la lb lu (cell_extends f hi hj r s.added) s.sent s.taken (used_adds f.sized.few_columns hi hj s.added f.used s.noted)

-- what is left to visit: nothing once the row has nothing left to send
pub stopped : {v : ℕ} (X : Test) → v ≡ 0 → member 0 ≡ both (λ k. not (eqb v 0)) X
stopped X e = fun_ext (λ k. member-none k ∙ ap (λ b. not b && X k) (sym (eq-eqb _ 0 e)))

pub going : {v : ℕ} {Z : Test} (X : Test) → v ≢ 0 → Z ≡ X → Z ≡ both (λ k. not (eqb v 0)) X
going X n e = e ∙ fun_ext (λ k. ap (λ b. not b && X k) (sym (ne_eqb _ 0 n)))

-- row i is filled up to column `next`; a column from there on that is not left gets nothing
pub record Filling (q i : ℕ) (rel a₀ b₀ x₀ x a b : List ℕ) (left : ℕ) : Type 0 where
  pub next : ℕ
  pub each : (j : ℕ) → j < next → j < q → cell x i j ≡ when (holds rel i j) (min (get_or a₀ i 0 - row_sum j x i) (get_or b₀ j 0))
  pub clean : (j : ℕ) → next ≤ j → j < q → cell x i j ≡ 0
  pub same : (j : ℕ) → next ≤ j → get_or b j 0 ≡ get_or b₀ j 0
  pub part : (j : ℕ) → member left j ≡ true → (j < q) × (holds rel i j ≡ true)
  pub later : (j : ℕ) → member left j ≡ true → next ≤ j
  pub idle : (j : ℕ) → next ≤ j → j < q → member left j ≡ false → when (holds rel i j) (min (get_or a i 0) (get_or b₀ j 0)) ≡ 0
  pub sent : row_sum q x i + get_or a i 0 ≡ get_or a₀ i 0
  pub others : (k j : ℕ) → k ≢ i → j < most_states → cell x k j ≡ cell x₀ k j

filling_none : {q i : ℕ} {rel x a b : List ℕ} {free left : ℕ} → ((j : ℕ) → j < q → cell x i j ≡ 0) → MaskOf q (λ j. get_or b j 0) free
    → member left ≡ both (member (row_of rel i)) (member free) → Filling q i rel a b x x a b left
filling_none {q} {i} {rel} {x} {a} {b} {free} {left} z m e = record {
  next = 0;
  each = λ j l. absurd (omega arith);
  clean = λ j l h. z j h;
  same = λ j l. refl;
  part = λ j t. let w = both_at (member (row_of rel i)) (member free) j e t in (m.below j w.1, w.0);
  later = λ j t. omega arith;
  idle = λ j l h t. when-none (holds rel i j) (min (get_or a i 0) (get_or b j 0)) (λ r. elim (ℕ_discrete (get_or b j 0) 0) [
    | yes c ↦ omega arith
    | no o ↦ absurd (neither (m.there j h o) (both_out (member (row_of rel i)) (member free) j e t r))
  ]);
  sent = omega (arith, row_sum-none q i x z);
  others = λ k j o l. refl;
}

module _ {q i : ℕ} {rel a₀ b₀ x₀ x a b : List ℕ} {left : ℕ} (s : Filling q i rel a₀ b₀ x₀ x a b left) where
  -- what the row has left is what it had without the columns before j
  so_far : (j : ℕ) → s.next ≤ j → j < q → get_or a i 0 ≡ get_or a₀ i 0 - row_sum j x i
  so_far j l h = omega (arith, s.sent, row_idle j q i x (omega arith) (λ k m n. s.clean k (omega arith) n))

  skipped : (j : ℕ) → s.next ≤ j → j < q → member left j ≡ false → cell x i j ≡ when (holds rel i j) (min (get_or a₀ i 0 - row_sum j x i) (get_or b₀ j 0))
  skipped j l h t = s.clean j l h ∙ sym (s.idle j l h t) ∙ least (holds rel i j) (so_far j l h) refl

  filling_end : left ≡ 0 → RowFilled q i rel a₀ b₀ x₀ x
  filling_end z = record {
    each = λ j h. ⊎_elim (λ l. s.each j l h) (λ l. skipped j l h (no_members z j)) (below_or_not j s.next);
    others = s.others;
  }

  -- the lowest column that is left gets as much as both have
  module _ {j : ℕ} (l : Lowest (member left) j) (w : q ≤ most_states) {x' : List ℕ} (t : Adds x x' i j (min (get_or a i 0) (get_or b j 0))) where
    h : j < q
    h = (s.part j l.here).0

    before : (k : ℕ) → k < j → k < q → cell x i k ≡ when (holds rel i k) (min (get_or a₀ i 0 - row_sum k x i) (get_or b₀ k 0))
    before k m n = ⊎_elim (λ c. s.each k c n) (λ c. skipped k c n (l.before k m)) (below_or_not k s.next)

    kept : (k : ℕ) → k < most_states → k ≢ j → cell x' i k ≡ cell x i k
    kept k m n = adds_column t i k m (λ e. n (sym e))

    row_before : (k : ℕ) → k ≤ j → row_sum k x' i ≡ row_sum k x i
    row_before k m = row_same k i x x' (λ c n. kept c (omega (arith, h)) (λ e. omega arith))

    here : cell x' i j ≡ when (holds rel i j) (min (get_or a₀ i 0 - row_sum j x' i) (get_or b₀ j 0))
    here = let m = s.later j l.here in
        omega (arith, t.more i j (omega (arith, h)), s.clean j m h, delta-same i (delta j j (min (get_or a i 0) (get_or b j 0))), delta-same j (min (get_or a i 0) (get_or b j 0)))
        ∙ when_true (min (get_or a i 0) (get_or b j 0)) (s.part j l.here).1
        ∙ least (holds rel i j) (omega (arith, so_far j m h, row_before j (omega arith))) (s.same j m)

    was_left : (a' : List ℕ) (left' : ℕ) → member left' ≡ both (λ k. not (eqb (get_or a' i 0) 0)) (without_member j (member left)) → (k : ℕ) → member left' k ≡ true → (member left k ≡ true) × (k ≢ j)
    was_left a' left' e k m = drop_at (member left) j k refl (both_at (λ k. not (eqb (get_or a' i 0) 0)) (without_member j (member left)) k e m).1

    filling_next : (a' b' : List ℕ) (left' : ℕ) → row_sum q x' i + get_or a' i 0 ≡ row_sum q x i + get_or a i 0 → ((c : ℕ) → c ≢ j → get_or b' c 0 ≡ get_or b c 0)
        → member left' ≡ both (λ k. not (eqb (get_or a' i 0) 0)) (without_member j (member left)) → Filling q i rel a₀ b₀ x₀ x' a' b' left'
    filling_next a' b' left' bal o e = let less : get_or a' i 0 ≤ get_or a i 0 = omega (arith, row_adds q q w t h i) in record {
      next = suc j;
      each = λ k m n. elim (ℕ_discrete k j) [
        | yes c ↦ subst (λ (k : ℕ). cell x' i k ≡ when (holds rel i k) (min (get_or a₀ i 0 - row_sum k x' i) (get_or b₀ k 0))) (sym c) here
        | no c ↦ kept k (omega arith) c ∙ before k (omega arith) n ∙ least (holds rel i k) (omega (arith, row_before k (omega arith))) refl
      ];
      clean = λ k m n. kept k (omega arith) (λ c. omega arith) ∙ s.clean k (omega (arith, s.later j l.here)) n;
      same = λ k m. o k (λ c. omega arith) ∙ s.same k (omega (arith, s.later j l.here));
      part = λ k m. s.part k (was_left a' left' e k m).0;
      later = λ k m. let d = was_left a' left' e k m in
          ⊎_elim (λ c. absurd (neither d.0 (l.before k c))) (λ c. let n = d.1 in omega arith) (below_or_not k j);
      idle = λ k m n f. elim (ℕ_discrete (get_or a' i 0) 0) [
        | yes c ↦ when-none (holds rel i k) (min (get_or a' i 0) (get_or b₀ k 0)) (λ _. omega arith)
        | no c ↦ ⊎_elim
            (λ g. absurd (omega arith))
            (λ g. when-less (holds rel i k) (get_or a i 0) (get_or a' i 0) (get_or b₀ k 0) less (s.idle k (omega (arith, s.later j l.here)) n g))
            (drop-out (member left) j k refl (both_out (λ k. not (eqb (get_or a' i 0) 0)) (without_member j (member left)) k e f (ap not (ne_eqb (get_or a' i 0) 0 c))))
      ];
      sent = omega (arith, s.sent);
      others = λ k c n m. adds_row t k c m (λ e. n (sym e)) ∙ s.others k c n m;
    }

-- row i under way from F₀ to F: the columns that are still free, and those left to visit
pub record UnderWay (i : ℕ) (rel : List ℕ) (F₀ F : Partial) (still left : ℕ) : Type 0 where
  pub improves : ImprovedIn rel F₀ F
  pub free : MaskOf (length F₀.demand) (λ j. get_or F.demand j 0) still
  pub filling : Filling (length F₀.demand) i rel F₀.supply F₀.demand F₀.amounts F.amounts F.supply F.demand left

pub under_way_none : {i : ℕ} {rel : List ℕ} {F : Partial} {free left : ℕ} → FlowIn rel F → MaskOf (length F.demand) (λ j. get_or F.demand j 0) free
    → ((j : ℕ) → j < length F.demand → cell F.amounts i j ≡ 0) → member left ≡ both (member (row_of rel i)) (member free) → UnderWay i rel F F free left
under_way_none f m z e = record { improves = improves_refl f; free = m; filling = filling_none z m e }

module _ {i : ℕ} {rel : List ℕ} {F₀ F : Partial} {still left : ℕ} (s : UnderWay i rel F₀ F still left) where
  pub under_way_end : left ≡ 0 → ImprovedIn rel F₀ F × MaskOf (length F₀.demand) (λ j. get_or F.demand j 0) still
      × RowFilled (length F₀.demand) i rel F₀.supply F₀.demand F₀.amounts F.amounts
  under_way_end z = (s.improves, s.free, filling_end s.filling z)

  -- the lowest column that is left is filled
  module _ (hi : i < length F₀.supply) {j : ℕ} (l : Lowest (member left) j) where
    column : j < length F₀.demand
    column = (s.filling.part j l.here).0

    module _ {G : Partial} (lx : length G.amounts ≡ length F.amounts) (la : length G.supply ≡ length F.supply) (lb : length G.demand ≡ length F.demand)
        (lu : length G.senders ≡ length F.senders) (f : CellFilled i j F G) where
      pub cell-on : ImprovedIn rel F₀ G
      cell-on = let k = s.improves in
          improves-on k (cell-improves (flow_now k) (omega (arith, k.same_a)) (omega (arith, column, k.same_b)) (s.filling.part j l.here).1 lx la lb lu f)

      others : (c : ℕ) → c ≢ j → get_or G.demand c 0 ≡ get_or F.demand c 0
      others c o = sym (adds_at-other f.taken c (λ e. o (sym e)))

      pub under_way_next : (still' : ℕ) {left' : ℕ} → member still' ≡ with_nonzero j (get_or G.demand j 0) (member still)
          → member left' ≡ both (λ k. not (eqb (get_or G.supply i 0) 0)) (without_member j (member left)) → UnderWay i rel F₀ G still' left'
      under_way_next still' {left'} e n = record {
        improves = cell-on;
        free = mask_put still' s.free column refl others e;
        filling = filling_next s.filling l s.improves.flow.sized.few_columns f.added G.supply G.demand left' (cell-on.preserves.sent i hi ∙ sym (s.improves.preserves.sent i hi)) others n;
      }

-- one row more
greedy-none : {q : ℕ} {rel : List ℕ} {s d : ℕ → ℕ} {x : List ℕ} → Greedy 0 q rel s d x
greedy-none = record { each = λ i j h. absurd (omega arith) }

module _ {p q n : ℕ} {rel a₀ b₀ x₀ x a b x' : List ℕ} (hp : n < p) (w : q ≤ most_states) (z₀ : (i j : ℕ) → i < p → j < q → cell x₀ i j ≡ 0) (z : (i j : ℕ) → n ≤ i → i < p → j < q → cell x i j ≡ 0)
    (k : Preserves p q x₀ a₀ b₀ x a b) (f : RowFilled q n rel a b x x') where
  row-left : get_or a n 0 ≡ get_or a₀ n 0
  row-left = omega (arith, k.sent n hp, row_sum-none q n x (λ j h. z n j (omega arith) hp h), row_sum-none q n x₀ (λ j h. z₀ n j hp h))

  column-kept : (i j : ℕ) → i ≤ n → j < q → column_sum i x' j ≡ column_sum i x j
  column-kept i j l h = column-same i j x x' (λ c m. f.others c j (λ e. omega arith) (omega arith))

  column-left : (j : ℕ) → j < q → get_or b j 0 ≡ get_or b₀ j 0 - column_sum n x' j
  column-left j h = omega (
    arith,
    k.taken j h,
    column-none p j x₀ (λ i l. z₀ i j l h),
    column_idle n p j x (omega arith) (λ i l m. z i j l m h),
    column-kept n j (omega arith) h,
  )

  greedy-next : Greedy n q rel (λ i. get_or a₀ i 0) (λ j. get_or b₀ j 0) x → Greedy (n + 1) q rel (λ i. get_or a₀ i 0) (λ j. get_or b₀ j 0) x'
  greedy-next g = record {
    each = λ i j l h. elim (ℕ_discrete i n) [
      | yes c ↦ subst (λ (i : ℕ). cell x' i j ≡ when (holds rel i j) (min (get_or a₀ i 0 - row_sum j x' i) (get_or b₀ j 0 - column_sum i x' j))) (sym c)
          (f.each j h ∙ least (holds rel n j) (ap (λ (m : ℕ). m - row_sum j x' n) row-left) (column-left j h))
      | no c ↦ f.others i j c (omega arith) ∙ g.each i j (omega arith) h
          ∙ least (holds rel i j)
          (ap (λ (m : ℕ). get_or a₀ i 0 - m) (sym (row_same j i x x' (λ l m. f.others i l c (omega arith)))))
          (ap (λ (m : ℕ). get_or b₀ j 0 - m) (sym (column-kept i j (omega arith) h)))
    ];
  }

  empty-next : (i j : ℕ) → n + 1 ≤ i → i < p → j < q → cell x' i j ≡ 0
  empty-next i j l m h = f.others i j (λ e. omega arith) (omega arith) ∙ z i j (omega arith) m h

-- from F₀ to F: the rows before n are filled, the others empty
pub record RowsFilled (n : ℕ) (rel : List ℕ) (F₀ F : Partial) (free : ℕ) : Type 0 where
  pub improves : ImprovedIn rel F₀ F
  pub columns : MaskOf (length F₀.demand) (λ j. get_or F.demand j 0) free
  pub greedy : Greedy n (length F₀.demand) rel (λ i. get_or F₀.supply i 0) (λ j. get_or F₀.demand j 0) F.amounts
  pub empty : (i j : ℕ) → n ≤ i → i < length F₀.supply → j < length F₀.demand → cell F.amounts i j ≡ 0

pub rows_none : {rel : List ℕ} {F : Partial} {free : ℕ} → FlowIn rel F → MaskOf (length F.demand) (λ j. get_or F.demand j 0) free
    → ((i j : ℕ) → i < length F.supply → j < length F.demand → cell F.amounts i j ≡ 0) → RowsFilled 0 rel F F free
rows_none f m z = record { improves = improves_refl f; columns = m; greedy = greedy-none; empty = λ i j l. z i j }

module _ {n : ℕ} {rel : List ℕ} {F₀ F : Partial} {free : ℕ} (s : RowsFilled n rel F₀ F free) (h : n < length F.supply) where
  row : n < length F₀.supply
  row = omega (arith, s.improves.same_a)

  pub rows_next : {G : Partial} {free' : ℕ} → ((i j : ℕ) → i < length F₀.supply → j < length F₀.demand → cell F₀.amounts i j ≡ 0)
      → ImprovedIn rel F G × MaskOf (length F.demand) (λ j. get_or G.demand j 0) free' × RowFilled (length F.demand) n rel F.supply F.demand F.amounts G.amounts
      → RowsFilled (n + 1) rel F₀ G free'
  rows_next {G} {free'} z t =
      let k = s.improves in
      let w = k.flow.sized.few_columns in
      let e = subst (λ (q : ℕ). MaskOf q (λ j. get_or G.demand j 0) free' × RowFilled q n rel F.supply F.demand F.amounts G.amounts) k.same_b (t.1, t.2) in record {
        improves = improves-on k t.0;
        columns = e.0;
        greedy = greedy-next row w z s.empty k.preserves e.1 s.greedy;
        empty = empty-next row w z s.empty k.preserves e.1;
      }

-- the same with equal supplies and demands
pub greedy-is : {p p' q : ℕ} {rel : List ℕ} {s s' d d' : ℕ → ℕ} {x : List ℕ} → p' ≡ p → ((i : ℕ) → i < p → s i ≡ s' i) → ((j : ℕ) → j < q → d j ≡ d' j) → Greedy p q rel s d x → Greedy p' q rel s' d' x
greedy-is {p} {rel = rel} {x = x} e u v g = record {
  each = λ i j h l. let k : i < p = omega arith in
      g.each i j k l ∙ least (holds rel i j) (ap (λ (m : ℕ). m - row_sum j x i) (u i k)) (ap (λ (m : ℕ). m - column_sum i x j) (v j l));
}

-- there is one greedy flow: an amount hangs only on those of the rows above and of the columns before
module _ {p q : ℕ} {rel : List ℕ} {s d : ℕ → ℕ} {x y : List ℕ} (f : Greedy p q rel s d x) (g : Greedy p q rel s d y) where
  same_row : (i : ℕ) → i < p → ((k j : ℕ) → k < i → j < q → cell x k j ≡ cell y k j) → (n j : ℕ) → j < n → j < q → cell x i j ≡ cell y i j
  same_row i h above zero j l m = absurd (omega arith)
  same_row i h above (suc n) j l m =
      f.each i j h m
      ∙ least (holds rel i j)
      (ap (λ (t : ℕ). s i - t) (row_same j i y x (λ k o. same_row i h above n k (omega arith) (omega arith))))
      (ap (λ (t : ℕ). d j - t) (column-same i j y x (λ k o. above k j o m)))
      ∙ sym (g.each i j h m)

  same_rows : (n i j : ℕ) → i < n → i < p → j < q → cell x i j ≡ cell y i j
  same_rows zero i j l h m = absurd (omega arith)
  same_rows (suc n) i j l h m = same_row i h (λ k c o u. same_rows n k c (omega arith) (omega arith) u) (suc j) j (omega arith) m

  pub greedy_unique : (i j : ℕ) → i < p → j < q → cell x i j ≡ cell y i j
  greedy_unique i j h m = same_rows (suc i) i j (omega arith) h m
