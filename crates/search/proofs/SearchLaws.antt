-- The search's loops: links, columns of a row, rows of a level, levels.
-- Assumes nothing.
use mathlib.Core.Path.{◌≡◌, refl, sym, ap, ◌∙◌, subst, subst⁻¹}
use mathlib.Core.Bool.{Bool, true, false, not, cond}
use mathlib.Core.List.{List}
use mathlib.Core.Logic.{◌≢◌, ⊎_elim}
use Prim.Native.Nat.{ℕ, zero, suc, ◌+◌, ◌^◌, ◌≤◌, ◌<◌, min}
use native.Mathlib.Numerals.{add-one}
use native.Mathlib.Decide.{ℕ_discrete}
use native.Mathlib.Omega.{arith}
use lib.Dec.{T}
use lib.ListN.{length, set}
use lib.Seq.{get_or-set_same, get_or-set_other}
use Rattle.simulation.specs.Limits.{most_states}
use Rattle.simulation.specs.Sum.{sum, when}
use Rattle.simulation.proofs.Finite.Tests.{is_true, true_T, false_T}
use Rattle.simulation.proofs.Finite.Sums.{sum_mono, sum_strict, when_not, one_less, members_most}
use Rattle.word.specs.Mask.{Test, member, without_member, both, except, either, Lowest}
use Rattle.relation.specs.Rows.{row_of, height}
use Rattle.relation.specs.Related.{holds}
use Rattle.word.proofs.Mask.{member-none, member_below, below_or_not, some-member}
use Rattle.search.specs.declared.Link.{Link}
use Rattle.search.specs.declared.Links.{Links}
use Rattle.search.specs.Links.{link_at, from, via}
use Rattle.std.specs.Prelude.{None}
use Rattle.search.specs.Search.{SearchRoom, RowsLinked, Grows, ColumnsFollowed, Closed, Levelled, Hit, HitOf, Forest, RowWalk, Reaches, Stuck}
use Rattle.matrix.proofs.MaskedLaws.{true_or_false, neither, both_at, both_out, except-at, except-out, either-at, either_left, either-right, drop_at, drop-out, no_members}

-- the rows of `new` but those left are linked
pub record Linking (new left r j : ℕ) (from via from' via' : ℕ → ℕ) : Type 0 where
  pub part : (i : ℕ) → member left i ≡ true → member new i ≡ true
  pub new_from : (i : ℕ) → member new i ≡ true → member left i ≡ false → from' i ≡ r
  pub new_via : (i : ℕ) → member new i ≡ true → member left i ≡ false → via' i ≡ j
  pub old_from : (i : ℕ) → member new i ≡ false → from' i ≡ from i
  pub old_via : (i : ℕ) → member new i ≡ false → via' i ≡ via i

pub linking_none : {new r j : ℕ} {from via : ℕ → ℕ} → Linking new new r j from via from via
linking_none = record {
  part = λ i h. h;
  new_from = λ i h l. absurd (neither h l);
  new_via = λ i h l. absurd (neither h l);
  old_from = λ i h. refl;
  old_via = λ i h. refl;
}

-- f' is f but at row t, where it is v
record Changes (f f' : ℕ → ℕ) (t v : ℕ) : Type 0 where
  here : f' t ≡ v
  other : (i : ℕ) → i ≢ t → f' i ≡ f i

-- the links with that of row t written
abbrev pub with_link : Links → ℕ → Link → Links
with_link links t link = record { rows = set links.rows t link }

-- one field of a link is written
written : (field : Link → ℕ) (links : Links) (t : ℕ) (link : Link) → t < length links.rows
    → Changes (λ i. field (link_at links i)) (λ i. field (link_at (with_link links t link) i)) t (field link)
written field links t link l = record {
  here = ap field (get_or-set_same links.rows t link _ l);
  other = λ i n. ap field (get_or-set_other links.rows t i link _ n);
}

-- one row more has its link: f is from or via
linked_at : (new left left' : ℕ) {r t : ℕ} {f f' : ℕ → ℕ} → Changes f f' t r → member left' ≡ without_member t (member left)
    → ((i : ℕ) → member new i ≡ true → member left i ≡ false → f i ≡ r) → (i : ℕ) → member new i ≡ true → member left' i ≡ false → f' i ≡ r
linked_at new left left' {r} {t} {f' = f'} c d s i m l = elim (ℕ_discrete i t) [
  | yes e ↦ ap f' e ∙ c.here
  | no o ↦ c.other i o ∙ s i m (⊎_elim (λ e. absurd (o e)) (λ f. f) (drop-out (member left) t i d l))
]

pub linking_next : {new left left' t : ℕ} {f v : ℕ → ℕ} (links : Links) (link : Link) → Linking new left link.from link.via f v (from links) (via links) → t < length links.rows
    → Lowest (member left) t → member left' ≡ without_member t (member left) → Linking new left' link.from link.via f v (from (with_link links t link)) (via (with_link links t link))
linking_next {new} {left} {left'} {t} links link s h l d =
    let cf = written (λ k. k.from) links t link h in
    let cv = written (λ k. k.via) links t link h in
    let not_t : (i : ℕ) → member new i ≡ false → i ≢ t = λ i m e. neither (s.part t l.here) (ap (member new) (sym e) ∙ m) in
    record {
      part = λ i m. s.part i (drop_at (member left) t i d m).0;
      new_from = linked_at new left left' cf d s.new_from;
      new_via = linked_at new left left' cv d s.new_via;
      old_from = λ i m. cf.other i (not_t i m) ∙ s.old_from i m;
      old_via = λ i m. cv.other i (not_t i m) ∙ s.old_via i m;
    }

pub linking_end : {new left r j : ℕ} {from via from' via' : ℕ → ℕ} → left ≡ 0 → Linking new left r j from via from' via' → RowsLinked (member new) r j from via from' via'
linking_end z s = record {
  new_from = λ i h. s.new_from i h (no_members z i);
  new_via = λ i h. s.new_via i h (no_members z i);
  old_from = s.old_from;
  old_via = s.old_via;
}

pub grows_refl : {E : ℕ → ℕ → Type 0} {senders : List ℕ} (S : Test) {from via : ℕ → ℕ} → Grows E senders S S from via from via
grows_refl S = record { kept = λ i h. h; old_from = λ i h. refl; old_via = λ i h. refl; step = λ i h l. absurd (neither l h); sender = λ i h l. absurd (neither l h) }

pub grows_trans : {E : ℕ → ℕ → Type 0} {senders : List ℕ} {S S₁ S₂ : Test} {f v f₁ v₁ f₂ v₂ : ℕ → ℕ}
    → Grows E senders S S₁ f v f₁ v₁ → Grows E senders S₁ S₂ f₁ v₁ f₂ v₂ → Grows E senders S S₂ f v f₂ v₂
grows_trans {E} {senders} {S} {S₁} {S₂} {f₁ = f₁} {v₁ = v₁} {f₂ = f₂} {v₂ = v₂} s t = record {
  kept = λ i h. t.kept i (s.kept i h);
  old_from = λ i h. t.old_from i (s.kept i h) ∙ s.old_from i h;
  old_via = λ i h. t.old_via i (s.kept i h) ∙ s.old_via i h;
  step = λ i h l. ⊎_elim
      (λ m. subst⁻¹ (λ (n : ℕ). E n (v₂ i)) (t.old_from i m) (subst⁻¹ (λ (n : ℕ). E (f₁ i) n) (t.old_via i m) (s.step i h m)))
      (λ m. t.step i m l) (true_or_false (S₁ i));
  sender = λ i h l. ⊎_elim (λ m. subst⁻¹ (λ (n : ℕ). holds senders n i ≡ true) (t.old_via i m) (s.sender i h m)) (λ m. t.sender i m l) (true_or_false (S₁ i));
}

pub grows_mono : {E E' : ℕ → ℕ → Type 0} {senders : List ℕ} {S S' : Test} {f v f' v' : ℕ → ℕ} → ((k j : ℕ) → E k j → E' k j) → Grows E senders S S' f v f' v' → Grows E' senders S S' f v f' v'
grows_mono {f' = f'} {v' = v'} h s = record { kept = s.kept; old_from = s.old_from; old_via = s.old_via; step = λ i m l. h (f' i) (v' i) (s.step i m l); sender = s.sender }

-- the senders of one column that are not reached yet
module _ (senders : List ℕ) (new S S' : ℕ) {r j : ℕ} {f v f' v' : ℕ → ℕ} (l : RowsLinked (member new) r j f v f' v')
    (en : member new ≡ except (member (row_of senders j)) (member S)) (es : member S' ≡ either (member S) (member new)) where
  is_new : (i : ℕ) → member S i ≡ false → member S' i ≡ true → member new i ≡ true
  is_new i h m = ⊎_elim (λ c. absurd (neither c h)) (λ c. c) (either-at (member S) (member new) i es m)

  is-old : (i : ℕ) → member S i ≡ true → member new i ≡ false
  is-old i h = ⊎_elim (λ c. absurd (neither h (except-at (member (row_of senders j)) (member S) i en c).1)) (λ c. c) (true_or_false (member new i))

  pub grows_link : Grows (λ k c. (k ≡ r) × (c ≡ j)) senders (member S) (member S') f v f' v'
  grows_link = record {
    kept = λ i h. either_left (member S) (member new) i es h;
    old_from = λ i h. l.old_from i (is-old i h);
    old_via = λ i h. l.old_via i (is-old i h);
    step = λ i h m. (l.new_from i (is_new i h m), l.new_via i (is_new i h m));
    sender = λ i h m. let c = is_new i h m in
        subst⁻¹ (λ (n : ℕ). holds senders n i ≡ true) (l.new_via i c) (except-at (member (row_of senders j)) (member S) i en c).0;
  }

  pub senders-reached : (i : ℕ) → holds senders j i ≡ true → member S' i ≡ true
  senders-reached i h = ⊎_elim
      (λ c. either-right (member S) (member new) i es c)
      (λ c. ⊎_elim (λ s. either_left (member S) (member new) i es s) (λ n. absurd (neither h n)) (except-out (member (row_of senders j)) (member S) i en c))
      (true_or_false (member new i))

-- the columns of C but those left were gone to from row r
pub record Following (senders : List ℕ) (C left r S S' : ℕ) (from via from' via' : ℕ → ℕ) : Type 0 where
  pub part : (j : ℕ) → member left j ≡ true → member C j ≡ true
  pub grows : Grows (λ k j. (k ≡ r) × (member C j ≡ true)) senders (member S) (member S') from via from' via'
  pub all : (i j : ℕ) → member C j ≡ true → member left j ≡ false → holds senders j i ≡ true → member S' i ≡ true

pub following_none : {senders : List ℕ} {C r S : ℕ} {from via : ℕ → ℕ} → Following senders C C r S S from via from via
following_none {S = S} = record { part = λ j h. h; grows = grows_refl (member S); all = λ i j h l. absurd (neither h l) }

pub following_next : {senders : List ℕ} {C left left' r S S' S'' j : ℕ} (new : ℕ) {from via f v f' v' : ℕ → ℕ} → Following senders C left r S S' from via f v → Lowest (member left) j
    → member left' ≡ without_member j (member left) → member new ≡ except (member (row_of senders j)) (member S') → RowsLinked (member new) r j f v f' v' → member S'' ≡ either (member S') (member new)
    → Following senders C left' r S S'' from via f' v'
following_next {senders} {C} {left} {left'} {r} {S} {S'} {S''} {j} new s l d en k es =
    let g = grows_link senders new S' S'' k en es in
    record {
      part = λ i h. s.part i (drop_at (member left) j i d h).0;
      grows = grows_trans s.grows (grows_mono (λ i c e. (e.0, ap (member C) e.1 ∙ s.part j l.here)) g);
      all = λ i c h m u. ⊎_elim
          (λ e. senders-reached senders new S' S'' k en es i (subst (λ (n : ℕ). holds senders n i ≡ true) e u))
          (λ f. g.kept i (s.all i c h f u))
          (drop-out (member left) j c d m);
    }

pub following_end : {senders : List ℕ} {C left r S S' : ℕ} {from via from' via' : ℕ → ℕ} → left ≡ 0 → Following senders C left r S S' from via from' via' → ColumnsFollowed senders (member C) r (member S) (member S') from via from' via'
following_end z s = record { grows = s.grows; all = λ i j h u. s.all i j h (no_members z j) u }

-- the rows of F but those left were gone from
pub record Levelling (rel senders : List ℕ) (F left seen seen' S S' : ℕ) (from via from' via' : ℕ → ℕ) : Type 0 where
  pub part : (k : ℕ) → member left k ≡ true → member F k ≡ true
  pub grows : Grows (λ k j. (member F k ≡ true) × (holds rel k j ≡ true)) senders (member S) (member S') from via from' via'
  pub still : (j : ℕ) → member seen j ≡ true → member seen' j ≡ true
  pub closed : Closed senders (member seen') (member S')
  pub all : (k j : ℕ) → member F k ≡ true → member left k ≡ false → holds rel k j ≡ true → member seen' j ≡ true

pub levelling_none : {rel senders : List ℕ} {F seen S : ℕ} {from via : ℕ → ℕ} → Closed senders (member seen) (member S) → Levelling rel senders F F seen seen S S from via from via
levelling_none {S = S} c = record { part = λ k h. h; grows = grows_refl (member S); still = λ j h. h; closed = c; all = λ k j h l. absurd (neither h l) }

pub levelling_next : {rel senders : List ℕ} {F left left' seen seen' seen'' S S' S'' r : ℕ} (C : ℕ) {from via f v f' v' : ℕ → ℕ} → Levelling rel senders F left seen seen' S S' from via f v → Lowest (member left) r
    → member left' ≡ without_member r (member left) → member C ≡ except (member (row_of rel r)) (member seen') → ColumnsFollowed senders (member C) r (member S') (member S'') f v f' v'
    → member seen'' ≡ either (member seen') (member C) → Levelling rel senders F left' seen seen'' S S'' from via f' v'
levelling_next {rel} {senders} {F} {left} {left'} {seen} {seen'} {seen''} {S} {S'} {S''} {r} C s l d ec g es = record {
  part = λ k h. s.part k (drop_at (member left) r k d h).0;
  grows = grows_trans s.grows
      (grows_mono (λ k j e. (ap (member F) e.0 ∙ s.part r l.here, subst⁻¹ (λ (n : ℕ). holds rel n j ≡ true) e.0 (except-at (member (row_of rel r)) (member seen') j ec e.1).0)) g.grows);
  still = λ j h. either_left (member seen') (member C) j es (s.still j h);
  closed = record {
    senders_in = λ i j h u. ⊎_elim (λ c. g.grows.kept i (s.closed.senders_in i j c u)) (λ c. g.all i j c u) (either-at (member seen') (member C) j es h);
  };
  all = λ k j h m u. ⊎_elim
      (λ e. gone j (subst (λ (n : ℕ). holds rel n j ≡ true) e u))
      (λ f. either_left (member seen') (member C) j es (s.all k j h f u))
      (drop-out (member left) r k d m);
}
  where
    gone : (j : ℕ) → holds rel r j ≡ true → member seen'' j ≡ true
    gone j u = ⊎_elim
        (λ c. either-right (member seen') (member C) j es c)
        (λ c. ⊎_elim (λ t. either_left (member seen') (member C) j es t) (λ n. absurd (neither u n)) (except-out (member (row_of rel r)) (member seen') j ec c))
        (true_or_false (member C j))

pub levelling_end : {rel senders : List ℕ} {F left seen seen' S S' : ℕ} {from via from' via' : ℕ → ℕ} → left ≡ 0 → Levelling rel senders F left seen seen' S S' from via from' via'
    → Levelled rel senders (member F) (member seen) (member seen') (member S) (member S') from via from' via'
levelling_end z s = record { grows = s.grows; still = s.still; closed = s.closed; all = λ k j h u. s.all k j h (no_members z k) u }

-- the rows of F but those left have no free column
pub record Hitting (rel : List ℕ) (free F left : ℕ) : Type 0 where
  pub part : (i : ℕ) → member left i ≡ true → member F i ≡ true
  pub none : (i j : ℕ) → member F i ≡ true → member left i ≡ false → holds rel i j ≡ true → member free j ≡ false

pub hitting_none : {rel : List ℕ} {free F : ℕ} → Hitting rel free F F
hitting_none = record { part = λ i h. h; none = λ i j h l. absurd (neither h l) }

pub hitting_next : {rel : List ℕ} {free F left left' r : ℕ} (m : ℕ) → Hitting rel free F left → Lowest (member left) r → member left' ≡ without_member r (member left)
    → member m ≡ both (member (row_of rel r)) (member free) → m ≡ 0 → Hitting rel free F left'
hitting_next {rel} {free} {F} {left} {left'} {r} m s l d e z = record {
  part = λ i h. s.part i (drop_at (member left) r i d h).0;
  none = λ i j h k u. ⊎_elim
      (λ c. both_out (member (row_of rel r)) (member free) j e (no_members z j) (subst (λ (n : ℕ). holds rel n j ≡ true) c u))
      (λ f. s.none i j h f u)
      (drop-out (member left) r i d k);
}

pub hitting_found : {rel : List ℕ} {free F left r : ℕ} (m : ℕ) → m < 2 ^ most_states → Hitting rel free F left → Lowest (member left) r
    → member m ≡ both (member (row_of rel r)) (member free) → m ≢ 0 → (member F r ≡ true) × Hit rel free r
hitting_found {rel} {free} {r = r} m b s l e n =
    let k = some-member most_states m b n in
    let w = both_at (member (row_of rel r)) (member free) k.0 e k.1 in
    (s.part r l.here, record { column = k.0; related = w.0; is_free = w.1 })

pub hitting_end : {rel : List ℕ} {free F left : ℕ} → left ≡ 0 → Hitting rel free F left
    → (i j : ℕ) → member F i ≡ true → holds rel i j ≡ true → member free j ≡ false
hitting_end z s i j h u = s.none i j h (no_members z i) u

-- S is reached, the rows of F last, in `depth` steps and no fewer; the others have gone to all their columns and have no free one
pub record Frontier (rel senders : List ℕ) (short free : ℕ) (from via : ℕ → ℕ) (S F seen depth : ℕ) : Type 0 where
  pub rank : ℕ → ℕ
  pub forest : Forest rel senders short from via (member S) rank
  pub starts : (i : ℕ) → member short i ≡ true → member S i ≡ true
  pub inside : (i : ℕ) → member F i ≡ true → member S i ≡ true
  pub deep : (i : ℕ) → member F i ≡ true → rank i ≡ depth
  pub closed : Closed senders (member seen) (member S)
  pub gone : (i j : ℕ) → member S i ≡ true → member F i ≡ false → holds rel i j ≡ true → member seen j ≡ true
  pub shut : (i j : ℕ) → member S i ≡ true → member F i ≡ false → holds rel i j ≡ true → member free j ≡ false
  pub near : (k i : ℕ) → RowWalk rel senders short k i → k ≤ depth → member S i ≡ true
  pub nearer : (k i : ℕ) → RowWalk rel senders short k i → k < depth → member F i ≡ false

pub frontier_none : {rel senders : List ℕ} {short free : ℕ} {from via : ℕ → ℕ} → Frontier rel senders short free from via short short 0 0
frontier_none {rel} {senders} {short} = record {
  rank = λ i. 0;
  forest = record { root = λ i h e. h; before = λ i k h e. absurd (omega arith); lower = λ i k h e. absurd (omega arith); related = λ i k h e. absurd (omega arith); sender = λ i k h e. absurd (omega arith) };
  starts = λ i h. h;
  inside = λ i h. h;
  deep = λ i h. refl;
  closed = record { senders_in = λ i j h. absurd (neither h (member-none j)) };
  gone = λ i j h l. absurd (neither h l);
  shut = λ i j h l. absurd (neither h l);
  near = λ k i w l. none-near w l;
  nearer = λ k i w l. absurd (omega arith);
}
  where
    none-near : {k i : ℕ} → RowWalk rel senders short k i → k ≤ 0 → member short i ≡ true
    none-near (RowWalk.here m) l = m
    none-near (RowWalk.step i' j w r u) l = absurd (omega arith)

module _ {rel senders : List ℕ} {short free : ℕ} {from via from' via' : ℕ → ℕ} {S F seen depth : ℕ} (S' F' seen' : ℕ) (s : Frontier rel senders short free from via S F seen depth)
    (h : HitOf rel free (member F) None) (l : Levelled rel senders (member F) (member seen) (member seen') (member S) (member S') from via from' via')
    (e : member F' ≡ except (member S') (member S)) where
  abbrev new_rank : ℕ → ℕ
  new_rank i = cond (member S i) (s.rank i) (suc depth)

  old : (i : ℕ) → member S i ≡ true → new_rank i ≡ s.rank i
  old i m = ap (λ (b : Bool). cond b (s.rank i) (suc depth)) m

  fresh_rank : (i : ℕ) → member S i ≡ false → new_rank i ≡ suc depth
  fresh_rank i m = ap (λ (b : Bool). cond b (s.rank i) (suc depth)) m

  new_in : (i : ℕ) → member S i ≡ false → member S' i ≡ true → member S (from' i) ≡ true
  new_in i m t = s.inside (from' i) (l.grows.step i m t).0

  old_edge : (i k : ℕ) → member S i ≡ true → new_rank i ≡ suc k → s.rank i ≡ suc k
  old_edge i k m c = sym (old i m) ∙ c

  next-forest : Forest rel senders short from' via' (member S') new_rank
  next-forest = let g = l.grows in let t = s.forest in record {
    root = λ i m z. ⊎_elim (λ c. t.root i c (sym (old i c) ∙ z)) (λ c. absurd (omega (arith, fresh_rank i c))) (true_or_false (member S i));
    before = λ i k m z. ⊎_elim
        (λ c. g.kept (from' i) (subst⁻¹ (λ (n : ℕ). member S n ≡ true) (g.old_from i c) (t.before i k c (old_edge i k c z))))
        (λ c. g.kept (from' i) (new_in i c m)) (true_or_false (member S i));
    lower = λ i k m z. ⊎_elim
        (λ c. subst⁻¹ (λ (n : ℕ). new_rank n ≡ k) (g.old_from i c) (old (from i) (t.before i k c (old_edge i k c z)) ∙ t.lower i k c (old_edge i k c z)))
        (λ c. old (from' i) (new_in i c m) ∙ s.deep (from' i) (g.step i c m).0 ∙ omega (arith, fresh_rank i c)) (true_or_false (member S i));
    related = λ i k m z. ⊎_elim
        (λ c. subst⁻¹ (λ (n : ℕ). holds rel n (via' i) ≡ true) (g.old_from i c)
        (subst⁻¹ (λ (n : ℕ). holds rel (from i) n ≡ true) (g.old_via i c) (t.related i k c (old_edge i k c z))))
        (λ c. (g.step i c m).1) (true_or_false (member S i));
    sender = λ i k m z. ⊎_elim
        (λ c. subst⁻¹ (λ (n : ℕ). holds senders n i ≡ true) (g.old_via i c) (t.sender i k c (old_edge i k c z)))
        (λ c. g.sender i c m) (true_or_false (member S i));
  }

  was_in : (i : ℕ) → member S' i ≡ true → member F' i ≡ false → member S i ≡ true
  was_in i m n = ⊎_elim (λ c. c) (λ c. absurd (neither m c)) (except-out (member S') (member S) i e n)

  -- a walk of one step more ends in a row of S': its last step leaves a row of S
  next-near : {k i : ℕ} → RowWalk rel senders short k i → k ≤ depth + 1 → member S' i ≡ true
  next-near (RowWalk.here m) g = l.grows.kept _ (s.starts _ m)
  next-near (RowWalk.step {i = i} i' j w u v) g =
      let m = s.near _ i w (omega arith) in
      l.closed.senders_in i' j (⊎_elim (λ f. l.all i j f u) (λ f. l.still j (s.gone i j m f u)) (true_or_false (member F i))) v

  -- and a walk of fewer ends in one of S, which is not new
  next_nearer : (k i : ℕ) → RowWalk rel senders short k i → k < depth + 1 → member F' i ≡ false
  next_nearer k i w g = ⊎_elim (λ f. absurd (neither (s.near k i w (omega arith)) (except-at (member S') (member S) i e f).1)) (λ f. f) (true_or_false (member F' i))

  pub frontier_next : Frontier rel senders short free from' via' S' F' seen' (depth + 1)
  frontier_next = record {
    rank = new_rank;
    forest = next-forest;
    starts = λ i m. l.grows.kept i (s.starts i m);
    inside = λ i m. (except-at (member S') (member S) i e m).0;
    deep = λ i m. fresh_rank i (except-at (member S') (member S) i e m).1 ∙ sym (add-one depth);
    closed = l.closed;
    gone = λ i j m n u. let c = was_in i m n in ⊎_elim (λ f. l.all i j f u) (λ f. l.still j (s.gone i j c f u)) (true_or_false (member F i));
    shut = λ i j m n u. let c = was_in i m n in ⊎_elim (λ f. h i j f u) (λ f. s.shut i j c f u) (true_or_false (member F i));
    near = λ k i w g. next-near w g;
    nearer = next_nearer;
  }

-- a shorter walk ends in a row of S outside F, and none of those has a free column
frontier_shortest : {rel senders : List ℕ} {short free : ℕ} {from via : ℕ → ℕ} {S F seen depth : ℕ} → Frontier rel senders short free from via S F seen depth
    → (k i : ℕ) → RowWalk rel senders short k i → Hit rel free i → depth ≤ k
frontier_shortest {depth = depth} s k i w h =
    ⊎_elim (λ l. absurd (neither h.is_free (s.shut i h.column (s.near k i w (omega arith)) (s.nearer k i w l) h.related))) (λ l. l) (below_or_not k depth)

pub frontier_found : {rel senders : List ℕ} {short free : ℕ} {from via : ℕ → ℕ} {S F seen depth r : ℕ} → Frontier rel senders short free from via S F seen depth
    → (member F r ≡ true) × Hit rel free r → Reaches rel senders short free from via (member S) r depth
frontier_found s h = record { rank = s.rank; forest = s.forest; inside = s.inside _ h.0; deep = s.deep _ h.0; hit = h.1; shortest = frontier_shortest s }

pub frontier_end : {rel senders : List ℕ} {short free : ℕ} {from via : ℕ → ℕ} {S F seen depth : ℕ} → F ≡ 0 → Frontier rel senders short free from via S F seen depth
    → Stuck rel senders short free from via (member S)
frontier_end z s = record {
  rank = s.rank;
  forest = s.forest;
  starts = s.starts;
  shut = λ i j h u. s.shut i j h (no_members z i) u;
  closed = λ i i' j h u v. s.closed.senders_in i' j (s.gone i j h (no_members z i) u) v;
}

-- what holds of the short rows and of all senders holds of every row of a forest
pub forest-all : {rel senders : List ℕ} {from via : ℕ → ℕ} {short : ℕ} {S : Test} {rank : ℕ → ℕ} (P : ℕ → Type 0) → Forest rel senders short from via S rank → ((i : ℕ) → member short i ≡ true → P i)
    → ((i j : ℕ) → holds senders j i ≡ true → P i) → (k i : ℕ) → S i ≡ true → rank i ≡ k → P i
forest-all P t h u zero i m e = h i (t.root i m e)
forest-all {via = via} P t h u (suc k) i m e = u i (via i) (t.sender i k m e)

pub frontier_rows : {rel senders : List ℕ} {short free : ℕ} {from via : ℕ → ℕ} {S F seen depth : ℕ} → SearchRoom rel senders short → Frontier rel senders short free from via S F seen depth
    → (i : ℕ) → member F i ≡ true → i < height rel
frontier_rows {rel} w s i m = forest-all (λ (k : ℕ). k < height rel) s.forest w.starts w.rows (s.rank i) i (s.inside i m) refl

-- how many rows are not reached
unfoldable pub unreached : ℕ → ℕ
unreached S = sum most_states (λ i. when (not (member S i)) 1)

pub unreached_most : (S : ℕ) → unreached S ≤ most_states
unfolding unreached
unreached_most S = members_most most_states (λ i. not (member S i))

not-not : (b : Bool) → b ≡ true → T (not (not b))
not-not b e = subst (λ c. T (not (not c))) (sym e) tt

fewer_terms : (S S' : ℕ) → ((i : ℕ) → member S i ≡ true → member S' i ≡ true) → (i : ℕ) → i < most_states → when (not (member S' i)) 1 ≤ when (not (member S i)) 1
fewer_terms S S' k i l = when_not (member S i) (member S' i) 1 (λ t. true_T (k i (is_true (member S i) t)))

fewer : (S S' : ℕ) → ((i : ℕ) → member S i ≡ true → member S' i ≡ true) → unreached S' ≤ unreached S
unfolding unreached
fewer S S' k = sum_mono most_states (λ i. when (not (member S' i)) 1) (λ i. when (not (member S i)) 1) (fewer_terms S S' k)

one_fewer : (S S' : ℕ) → ((i : ℕ) → member S i ≡ true → member S' i ≡ true) → (i : ℕ) → i < most_states → member S i ≡ false → member S' i ≡ true → unreached S' < unreached S
unfolding unreached
one_fewer S S' k i l m m' = sum_strict most_states (λ i. when (not (member S' i)) 1) (λ i. when (not (member S i)) 1) (fewer_terms S S' k) i l
    (one_less (not (member S' i)) (not (member S i)) (not-not (member S' i) m') (false_T m))

-- each level reaches a row more, or is the last
pub unreached_falls : (S S' F' : ℕ) → F' < 2 ^ most_states → ((i : ℕ) → member S i ≡ true → member S' i ≡ true) → member F' ≡ except (member S') (member S) → unreached S' + min 1 F' ≤ unreached S
unreached_falls S S' F' b k e = elim (ℕ_discrete F' 0) [
  | yes z ↦ omega (arith, fewer S S' k)
  | no n ↦ let m = some-member most_states F' b n in
      let w = except-at (member S') (member S) m.0 e m.1 in
      omega (arith, one_fewer S S' k m.0 (member_below most_states F' m.0 b m.1) w.1 w.0)
]
