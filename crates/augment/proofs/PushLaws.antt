-- One path found by the search: how much it carries, and the flow after the move.
-- Assumes nothing.
use mathlib.Core.Path.{◌≡◌, refl, sym, ap, ◌∙◌}
use mathlib.Core.Bool.{true}
use mathlib.Core.List.{List}
use Prim.Native.Nat.{ℕ, ◌+◌, ◌<◌, ◌≤◌, min}
use native.Mathlib.Numerals.{add-one}
use native.Mathlib.Omega.{arith}
use lib.ListN.{length, get_or}
use Rattle.word.specs.Mask.{Test, member, both, Lowest}
use Rattle.relation.specs.Rows.{row_of}
use Rattle.relation.specs.Related.{holds}
use Rattle.set.proofs.Sets.{both_of}
use Rattle.matrix.specs.Matrix.{AddsAt}
use Rattle.matrix.specs.Masks.{with_nonzero, MaskOf}
use Rattle.matrix.specs.Flow.{Flow, Partial, FlowIn}
use Rattle.search.specs.Search.{SearchRoom, Reaches}
use Rattle.augment.specs.Path.{root, carried, Safe, Movable, Moved}
use Rattle.augment.specs.Augments.{Augments, Augmented, AugmentsIn, EndsOf, Pushed}
use Rattle.matrix.proofs.MatrixLaws.{delta-other}
use Rattle.matrix.proofs.MaskedLaws.{both_at, both_in, not_zero, mask_put, sender-row}
use Rattle.matrix.proofs.FlowLaws.{improved, missing-falls}
use Rattle.augment.proofs.PathLaws.{ReachedTree, PathWalk, PathCarries, carries_of, tree_of, tree_safe, tree-root, tree_carries, walk_start, movable, moved}

-- a search has room in a flow
pub room_of : {p q : ℕ} {rel x a b senders : List ℕ} {short : ℕ} → Flow p q rel x a b senders → MaskOf p (λ i. get_or a i 0) short → SearchRoom rel senders short
room_of f h = let z = f.sized in record {
  columns = z.columns;
  starts = λ i m. omega (arith, h.below i m, z.masks);
  rows = λ i j m. omega (arith, sender-row f.used i j m, z.masks);
}

-- the column that push goes to
pub record Column (rel : List ℕ) (F : Partial) (free r j : ℕ) : Type 0 where
  pub below : j < length F.demand
  pub related : holds rel r j ≡ true
  pub is_free : member free j ≡ true

-- what push moves to it: d, from row i
pub record Load (rel : List ℕ) (F : Partial) (short free : ℕ) (from via : ℕ → ℕ) (S : Test) (r depth j i d : ℕ) : Type 0 where
  pub flow : FlowIn rel F
  pub ends : EndsOf F (length F.supply) (length F.demand) short free
  pub found : Reaches rel F.senders short free from via S r depth
  pub column : Column rel F free r j
  pub is-root : i ≡ root from via depth r
  pub most : d ≡ min (carried from via F.amounts depth r (get_or F.demand j 0)) (get_or F.supply i 0)
  pub row : i < length F.supply
  pub some : 0 < d
  pub within-row : d ≤ get_or F.supply i 0
  pub within-column : d ≤ get_or F.demand j 0
  pub walk : PathWalk (length F.supply) (length F.demand) rel F.amounts F.supply from via j d F.amounts depth r j

module _ {rel : List ℕ} {F : Partial} {short free : ℕ} {from via : ℕ → ℕ} {S : Test} {r depth : ℕ} (f : FlowIn rel F)
    (e : EndsOf F (length F.supply) (length F.demand) short free) (t : Reaches rel F.senders short free from via S r depth) where
  abbrev tree : ReachedTree (length F.supply) (length F.demand) rel F.amounts F.supply from via
  tree = tree_of t.forest f.used e.rows

  pub path_row : r < length F.supply
  path_row = tree.row r t.inside

  pub path_safe : Safe from via depth r
  path_safe = tree_safe tree f.sized.few_rows f.sized.few_columns depth r t.inside t.deep

  pub path_root : {i : ℕ} → i ≡ root from via depth r → i < length F.supply
  path_root c = omega (arith, (tree-root tree depth r t.inside t.deep).0)

  module _ {g : ℕ} (eg : g ≡ row_of rel r) where
    -- there is a free column
    pub path_some : {m : ℕ} → member m ≡ both (member g) (member free) → 0 < m
    path_some em =
        let h = t.hit in
        not_zero h.column (both_in (member (row_of rel r)) (member free) h.column (both_of eg (member free) em) h.related h.is_free)

    pub path_column : {Z : Test} {j : ℕ} → Z ≡ both (member g) (member free) → Lowest Z j → Column rel F free r j
    path_column {j = j} ez l =
        let w = both_at (member (row_of rel r)) (member free) j (both_of eg (member free) ez) l.here in
        record { below = e.columns.below j w.1; related = w.0; is_free = w.1 }

  module _ {j i m d : ℕ} (c : Column rel F free r j) (ei : i ≡ root from via depth r)
      (em : m ≡ carried from via F.amounts depth r (get_or F.demand j 0)) (ed : d ≡ min m (get_or F.supply i 0)) where
    left-root : get_or F.supply i 0 ≡ get_or F.supply (root from via depth r) 0
    left-root = ap (λ (n : ℕ). get_or F.supply n 0) ei

    carries : PathCarries F.amounts F.supply from via d depth r × (d ≤ get_or F.demand j 0)
    carries = carries_of F.amounts F.supply from via d depth r (get_or F.demand j 0) (omega (arith, em)) (omega (arith, left-root))

    positive : 0 < d
    positive =
        let w = tree-root tree depth r t.inside t.deep in
        let v = tree_carries tree depth r (get_or F.demand j 0) t.inside t.deep (e.columns.some j c.is_free) in
        omega (arith, left-root, w.1, v)

    pub path_load : Load rel F short free from via S r depth j i d
    path_load = record {
      flow = f;
      ends = e;
      found = t;
      column = c;
      is-root = ei;
      most = ed ∙ ap (λ (n : ℕ). min n (get_or F.supply i 0)) em;
      row = path_root ei;
      some = positive;
      within-row = omega arith;
      within-column = carries.1;
      walk = walk_start tree t.inside t.deep c.below c.related carries.0 f.supported;
    }

-- the mask of what is left, where d is taken away at one place
mask-left : {n m m' k d : ℕ} {a a' : List ℕ} → MaskOf n (λ i. get_or a i 0) m → k < n → AddsAt a' a k d
    → member m' ≡ with_nonzero k (get_or a' k 0) (member m) → MaskOf n (λ i. get_or a' i 0) m'
mask-left {m' = m'} {d = d} h l s e = mask_put m' h l refl (λ i o. omega (arith, s.more i, delta-other d (λ (z : _ ≡ i). o (sym z)))) e

module _ {rel : List ℕ} {F : Partial} {short free : ℕ} {from via : ℕ → ℕ} {S : Test} {r depth j i d : ℕ}
    (w : Load rel F short free from via S r depth j i d) where
  pub load_movable : Movable from via d depth r j F.amounts
  load_movable = movable w.flow.sized.few_columns w.flow.small depth w.walk

  module _ {G : Partial} (mv : Moved from via d depth r j F.amounts F.senders G.amounts G.senders)
      (s : AddsAt G.supply F.supply i d) (u : AddsAt G.demand F.demand j d) where
    augments : AugmentsIn rel F G
    augments = record {
      short = short;
      free = free;
      from = from;
      via = via;
      reached = S;
      r = r;
      depth = depth;
      c = j;
      d = d;
      rows = w.ends.rows;
      columns = w.ends.columns;
      found = w.found;
      related = w.column.related;
      is_free = w.column.is_free;
      most = rw (← w.is-root) w.most;
      moved = mv;
      sent = rw (← w.is-root) s;
      taken = u;
    }

    pub pushed : {short' free' : ℕ} → length G.amounts ≡ length F.amounts → length G.supply ≡ length F.supply
        → length G.demand ≡ length F.demand → length G.senders ≡ length F.senders
        → member short' ≡ with_nonzero i (get_or G.supply i 0) (member short) → member free' ≡ with_nonzero j (get_or G.demand j 0) (member free)
        → Pushed rel F G short' free'
    pushed lx la lb lu es ef = let v = moved w.flow.sized.few_columns w.walk w.flow.used mv in record {
      improves = improved w.flow lx la lb lu (rw w.is-root v.0) s u v.1;
      augments = augments;
      less = omega (arith, missing-falls w.column.below u, w.some);
      ends = record {
        rows = mask-left w.ends.rows w.row s es;
        columns = mask-left w.ends.columns w.column.below u ef;
      };
    }

-- one path more, as the loop counts
pub augmented_next : {p q n : ℕ} {rel x a b u x' a' b' u' x'' a'' b'' u'' : List ℕ} → Augmented p q rel n x a b u x' a' b' u'
    → Augments p q rel x' a' b' u' x'' a'' b'' u'' → Augmented p q rel (n + 1) x a b u x'' a'' b'' u''
augmented_next {n = n} s t = rw (add-one n) (Augmented.more s t)
