-- A path of the search's forest carries d from its root to a free column.
-- Assumes nothing.
use mathlib.Core.Path.{◌≡◌, refl, sym, ap, ◌∙◌}
use mathlib.Core.Bool.{Bool, true}
use mathlib.Core.List.{List}
use mathlib.Core.Logic.{◌≢◌}
use Prim.Native.Nat.{ℕ, zero, suc, ◌+◌, ◌^◌, ◌≤◌, ◌<◌, min}
use native.Mathlib.Omega.{arith}
use lib.ListN.{get_or}
use Rattle.simulation.specs.Limits.{most_states}
use Rattle.word.specs.Mask.{Test}
use Rattle.relation.specs.Related.{holds}
use Rattle.matrix.specs.Matrix.{cell, Outside, delta, row_sum, column_sum, Adds}
use Rattle.matrix.specs.Masks.{MaskOf, Used}
use Rattle.matrix.specs.Flow.{Supported, Small, Extends}
use Rattle.search.specs.Search.{Forest}
use Rattle.augment.specs.Path.{root, carried, Safe, Movable, Moved}
use Rattle.matrix.proofs.MatrixLaws.{delta-same, row_adds, column_adds, cell_le, adds_row, outside_refl, outside_trans, outside_sym, outside_adds}
use Rattle.matrix.proofs.MaskedLaws.{used_adds, used_takes, sender-column, sender-row}
use Rattle.matrix.proofs.FlowLaws.{added-support}
use Rattle.search.proofs.SearchLaws.{forest-all}

-- each amount on the path, and what its root has left, is at least d
unfoldable pub PathCarries : (x a : List ℕ) (from via : ℕ → ℕ) → ℕ → ℕ → ℕ → Type 0
PathCarries x a from via d zero i = d ≤ get_or a i 0
PathCarries x a from via d (suc k) i = (d ≤ cell x i (via i)) × PathCarries x a from via d k (from i)

pub carries_of : (x a : List ℕ) (from via : ℕ → ℕ) (d k i m : ℕ) → d ≤ carried from via x k i m → d ≤ get_or a (root from via k i) 0
    → PathCarries x a from via d k i × (d ≤ m)
unfolding carried root PathCarries
carries_of x a from via d zero i m h l = (l, h)
carries_of x a from via d (suc k) i m h l =
    let w = carries_of x a from via d k (from i) (min m (cell x i (via i))) h l in
    ((omega (arith, w.1), w.0), omega (arith, w.1))

module _ (p q : ℕ) (rel x a : List ℕ) (from via : ℕ → ℕ) where
  -- the reached rows with their ranks, and the edges between them
  pub record ReachedTree : Type 0 where
    pub inside : ℕ → Bool
    pub rank : ℕ → ℕ
    pub row : (i : ℕ) → inside i ≡ true → i < p
    pub short : (i : ℕ) → inside i ≡ true → rank i ≡ 0 → get_or a i 0 ≢ 0
    pub before : (i k : ℕ) → inside i ≡ true → rank i ≡ suc k → inside (from i) ≡ true
    pub lower : (i k : ℕ) → inside i ≡ true → rank i ≡ suc k → rank (from i) ≡ k
    pub column : (i k : ℕ) → inside i ≡ true → rank i ≡ suc k → via i < q
    pub related : (i k : ℕ) → inside i ≡ true → rank i ≡ suc k → holds rel (from i) (via i) ≡ true
    pub held : (i k : ℕ) → inside i ≡ true → rank i ≡ suc k → cell x i (via i) ≢ 0

  -- y is x with d moved along the path down to row r: column c still lacks d
  pub record PathWalk (j d : ℕ) (y : List ℕ) (k r c : ℕ) : Type 0 where
    pub tree : ReachedTree
    pub inside : tree.inside r ≡ true
    pub deep : tree.rank r ≡ k
    pub column : c < q
    pub related : holds rel r c ≡ true
    pub carries : PathCarries x a from via d k r
    pub rows : (i : ℕ) → i < p → row_sum q y i ≡ row_sum q x i
    pub columns : (l : ℕ) → l < q → column_sum p y l + delta c l d ≡ column_sum p x l + delta j l d
    pub supported : Supported p q rel y
    pub untouched : (i l : ℕ) → tree.rank i ≤ k → l < most_states → cell y i l ≡ cell x i l
    pub outside : Outside p q x y

module _ {p q : ℕ} {rel x a : List ℕ} {from via : ℕ → ℕ} (t : ReachedTree p q rel x a from via) where
  pub tree_safe : p ≤ most_states → q ≤ most_states → (k i : ℕ) → t.inside i ≡ true → t.rank i ≡ k → Safe from via k i
  unfolding Safe
  tree_safe hp hq zero i h e = omega (arith, t.row i h)
  tree_safe hp hq (suc k) i h e =
      (omega (arith, t.row i h), omega (arith, t.column i k h e), tree_safe hp hq k (from i) (t.before i k h e) (t.lower i k h e))

  pub tree-root : (k i : ℕ) → t.inside i ≡ true → t.rank i ≡ k → (root from via k i < p) × (get_or a (root from via k i) 0 ≢ 0)
  unfolding root
  tree-root zero i h e = (t.row i h, t.short i h e)
  tree-root (suc k) i h e = tree-root k (from i) (t.before i k h e) (t.lower i k h e)

  pub tree_carries : (k i m : ℕ) → t.inside i ≡ true → t.rank i ≡ k → m ≢ 0 → carried from via x k i m ≢ 0
  unfolding carried
  tree_carries zero i m h e n = n
  tree_carries (suc k) i m h e n =
      tree_carries k (from i) (min m (cell x i (via i))) (t.before i k h e) (t.lower i k h e) (λ z. t.held i k h e (omega (arith, n)))

  pub walk_start : {j d k r : ℕ} → t.inside r ≡ true → t.rank r ≡ k → j < q → holds rel r j ≡ true → PathCarries x a from via d k r
      → Supported p q rel x → PathWalk p q rel x a from via j d x k r j
  walk_start h e l f c s = record {
    tree = t;
    inside = h;
    deep = e;
    column = l;
    related = f;
    carries = c;
    rows = λ i h. refl;
    columns = λ l h. refl;
    supported = s;
    untouched = λ i l h m. refl;
    outside = outside_refl x;
  }

module _ {p q : ℕ} {rel x a : List ℕ} {from via : ℕ → ℕ} {j d : ℕ} (w : q ≤ most_states) where
  walk_row : {y : List ℕ} {k r c : ℕ} → PathWalk p q rel x a from via j d y k r c → r < p
  walk_row {r = r} s = s.tree.row r s.inside

  module _ {y : List ℕ} {k r c : ℕ} (s : PathWalk p q rel x a from via j d y (suc k) r c) where
    walk_via : via r < q
    walk_via = s.tree.column r k s.inside s.deep

    walk_step : {y₁ y₂ : List ℕ} → Adds y₁ y r (via r) d → Adds y₁ y₂ r c d → PathWalk p q rel x a from via j d y₂ k (from r) (via r)
    unfolding PathCarries
    walk_step t u = let n = s.tree in record {
      tree = n;
      inside = n.before r k s.inside s.deep;
      deep = n.lower r k s.inside s.deep;
      column = walk_via;
      related = n.related r k s.inside s.deep;
      carries = s.carries.1;
      rows = λ i h. omega (arith, s.rows i h, row_adds p q w t walk_via i, row_adds p q w u s.column i);
      columns = λ l h. omega (arith, s.columns l h, column_adds p q w t (walk_row s) l h, column_adds p q w u (walk_row s) l h);
      supported = added-support w s.related u
          (λ i l hi hl z. s.supported.support i l hi hl (λ e. z (omega (arith, t.more i l (omega arith)))));
      untouched = λ i l m h. let o : r ≢ i = λ e. omega (arith, s.deep, ap n.rank e) in
          adds_row u i l h o ∙ sym (adds_row t i l h o) ∙ s.untouched i l (omega arith) h;
      outside = outside_trans s.outside
          (outside_trans (outside_sym (outside_adds (walk_row s) walk_via t)) (outside_adds (walk_row s) s.column u));
    }

    walk_held : d ≤ cell y r (via r)
    unfolding PathCarries
    walk_held = omega (arith, s.carries.0, s.untouched r (via r) (omega (arith, s.deep)) (omega (arith, walk_via)))

    -- a step has room in the cell that it adds d to
    walk_room : {y₁ : List ℕ} → Small p q x a → Adds y₁ y r (via r) d → cell y₁ r c + d < 2 ^ 32
    walk_room {y₁} m t =
        omega (arith, m.fits r (walk_row s), s.rows r (walk_row s), row_adds p q w t walk_via r, delta-same r d, cell_le q y₁ r c s.column)

  module _ {y : List ℕ} {r c : ℕ} (s : PathWalk p q rel x a from via j d y 0 r c) where
    walk_last : Small p q x a → cell y r c + d < 2 ^ 32
    unfolding PathCarries
    walk_last m = omega (arith, m.fits r (walk_row s), s.rows r (walk_row s), cell_le q y r c s.column, s.carries)

    walk_end : {y' : List ℕ} → Adds y y' r c d → Extends p q rel x y' r j d
    walk_end u = record {
      rows = λ i h. omega (arith, s.rows i h, row_adds p q w u s.column i);
      columns = λ l h. omega (arith, s.columns l h, column_adds p q w u (walk_row s) l h);
      supported = added-support w s.related u s.supported.support;
      outside = outside_trans s.outside (outside_adds (walk_row s) s.column u);
    }

  pub movable : Small p q x a → {y : List ℕ} (k : ℕ) {r c : ℕ} → PathWalk p q rel x a from via j d y k r c → Movable from via d k r c y
  unfolding Movable
  movable m {y = y} zero s = (omega (arith, s.column), walk_last s m)
  movable m {y = y} (suc k) s = (omega (arith, s.column), walk_held s, λ y₁ t. (walk_room s m t, λ z u. movable m {y = z} k (walk_step s t u)))

  pub moved : {k r c : ℕ} {y senders y' senders' : List ℕ} → PathWalk p q rel x a from via j d y k r c → Used p q y senders
      → Moved from via d k r c y senders y' senders' → Extends p q rel x y' (root from via k r) j d × Used p q y' senders'
  unfolding root
  moved s u (Moved.last t n) = (walk_end s t, used_adds w (walk_row s) s.column t u n)
  moved s u (Moved.next t n t' n' m) =
      moved (walk_step s t t') (used_adds w (walk_row s) s.column t' (used_takes w (walk_row s) (walk_via s) t u n) n') m

-- the forest of a search over a flow
module _ {p q : ℕ} {rel x a senders : List ℕ} {short : ℕ} {from via : ℕ → ℕ} {S : Test} {rank : ℕ → ℕ}
    (t : Forest rel senders short from via S rank) (u : Used p q x senders) (h : MaskOf p (λ i. get_or a i 0) short) where
  abbrev pub tree_of : ReachedTree p q rel x a from via
  tree_of = record {
    inside = S;
    rank = rank;
    row = λ i m. forest-all (λ (k : ℕ). k < p) t h.below (sender-row u) (rank i) i m refl;
    short = λ i m e. h.some i (t.root i m e);
    before = t.before;
    lower = t.lower;
    column = λ i k m e. sender-column u i (via i) (t.sender i k m e);
    related = t.related;
    held = λ i k m e. (u.column (via i) (sender-column u i (via i) (t.sender i k m e))).some i (t.sender i k m e);
  }
