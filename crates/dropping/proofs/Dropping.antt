-- Those that fall, gathered member by member from a set, and the pairs that a round drops, row by row.
-- Assumes nothing.
use Rattle.form.specs.declared.tables.Tables.{Tables}
use mathlib.Core.Path.{◌≡◌, refl, sym, ap, ◌∙◌, subst, fun_ext}
use mathlib.Core.Bool.{Bool, true, false, not, ◌&&◌, ◌||◌, and-true, and-false, or-true, or-false, true≢false}
use mathlib.Core.List.{List}
use mathlib.Core.Logic.{◌≢◌}
use Prim.Native.Nat.{ℕ, ◌<◌}
use native.Mathlib.Decide.{ℕ_discrete, dec_lt}
use borrow.Author.Tests.{eq-eqb, ne_eqb}
use lib.Dec.{T, T_not, eqb}
use Rattle.simulation.specs.Limits.{most_states}
use Rattle.simulation.specs.Sum.{when}
use Rattle.simulation.specs.Table.{Table, states_of}
use Rattle.simulation.specs.Round.{Relation, related, survives}
use Rattle.simulation.proofs.Finite.Tests.{and_both, and_left, and_right, is_false}
use Rattle.simulation.proofs.Simulation.Relation.{relation-at, relation-right}
use Rattle.word.specs.Mask.{Test, member, with_member, without_member, except, Lowest}
use Rattle.set.specs.Words.{mask}
use Rattle.relation.specs.Rows.{row_of, height, put_row}
use Rattle.set.specs.declared.Set.{Set}
use Rattle.set.proofs.Sets.{mask_lt}
use Rattle.relation.proofs.RowLaws.{row_put, row_put_other}
use Rattle.word.proofs.Mask.{member-none, no_member, one-is, some-member}
use Rattle.relation.specs.Related.{holds}
use Rattle.form.specs.Tables.{first_table, contract_table}
use Rattle.decision.specs.Fitting.{held, relation_of}
use Rattle.fit.specs.Held.{matched}
use Rattle.dropping.specs.Falling.{falls, Doubtless, Judged, Fallen, StatesOnly, Falling, DoubtsKnown}
use Rattle.dropping.specs.Dropping.{Dropping}
use Rattle.links.specs.declared.lists.Marks.{Marks}
use Rattle.links.specs.Links.{Empty}
use Rattle.links.proofs.Walks.{left_self, left_other, left-member}

-- the test's outcome decides
judged_by : {pass outcome : Bool} {t x y : ℕ} → pass ≡ outcome → ((k : ℕ) → member y k ≡ ((eqb k t && not outcome) || member x k)) → Judged pass t x y
judged_by {pass} {outcome} {t} {x} e h =
    record { joins = fun_ext (λ k. h k ∙ ap (λ (b : Bool). (eqb k t && b) || member x k) (sym (one-is (not outcome)) ∙ ap (λ (b : Bool). eqb (when (not b) 1) 1) (sym e))) }

pub judged_pass : {t x : ℕ} (pass : Bool) → pass ≡ true → Judged pass t x x
judged_pass {t} {x} pass e = judged_by e (λ k. ap (λ (b : Bool). b || member x k) (sym (and-false (eqb k t))))

pub judged_fail : {t x y : ℕ} (pass : Bool) → pass ≡ false → member y ≡ with_member t (member x) → Judged pass t x y
judged_fail {t} {x} pass e h = judged_by e (λ k. ap (λ (X : Test). X k) h ∙ ap (λ (b : Bool). b || member x k) (sym (and-true (eqb k t))))

-- the test by another name
pub judged_is : {pass outcome : Bool} {t x y : ℕ} → outcome ≡ pass → Judged outcome t x y → Judged pass t x y
judged_is {t = t} {x} {y} e j = subst (λ (b : Bool). Judged b t x y) e j

module _ {pass : Bool} {t f g : ℕ} (j : Judged pass t f g) where
  judged_at : (u : ℕ) → member g u ≡ ((eqb u t && not pass) || member f u)
  judged_at u = ap (λ (X : Test). X u) j.joins ∙ ap (λ (b : Bool). (eqb u t && b) || member f u) (one-is (not pass))

  judged_here : member g t ≡ (not pass || member f t)
  judged_here = judged_at t ∙ ap (λ (b : Bool). (b && not pass) || member f t) (eq-eqb t t refl)

  judged_there : (u : ℕ) → u ≢ t → member g u ≡ member f u
  judged_there u d = judged_at u ∙ ap (λ (b : Bool). (b && not pass) || member f u) (ne_eqb u t d)

  judged_old : (u : ℕ) → member f u ≡ true → member g u ≡ true
  judged_old u m = judged_at u ∙ ap (λ (b : Bool). (eqb u t && not pass) || b) m ∙ or-true (eqb u t && not pass)

  judged_same : pass ≡ true → (u : ℕ) → member g u ≡ member f u
  judged_same e u = judged_at u ∙ ap (λ (b : Bool). (eqb u t && not b) || member f u) e ∙ ap (λ (b : Bool). b || member f u) (and-false (eqb u t))

-- of the set near, those that fail the test are in fallen, but for what is left to be judged
pub record Picked (near : ℕ) (P : Test) (left fallen : ℕ) : Type 0 where
  pub within : (u : ℕ) → member left u ≡ true → member near u ≡ true
  pub at : (u : ℕ) → member fallen u ≡ (except (member near) P u && not (member left u))

-- nothing has fallen where all of the set is left
pub picked_start : (near : ℕ) (P : Test) {f : ℕ} → f ≡ 0 → Picked near P near f
picked_start near P e = record { within = λ u m. m; at = λ u. ap (λ (n : ℕ). member n u) e ∙ member-none u ∙ none (member near u) (not (P u)) }
  where
    none : (a b : Bool) → false ≡ ((a && b) && not a)
    none true b = sym (and-false b)
    none false b = refl

-- the lowest member is judged
pub picked_next : {near : ℕ} {P : Test} {x y t f g : ℕ} → Lowest (member x) t → member y ≡ without_member t (member x) → Judged (P t) t f g → Picked near P x f → Picked near P y g
picked_next {near} {P} {x} {y} {t} {f} {g} low rest judged h = record { within = λ u m. h.within u (left-member x y t rest u m); at = λ u. go u (ℕ_discrete u t) }
  where
    F : Test
    F = except (member near) P

    here : member g t ≡ (F t && not (member y t))
    here =
        judged_here judged
        ∙ ap (λ (b : Bool). not (P t) || b) (h.at t ∙ ap (λ (b : Bool). F t && not b) low.here ∙ and-false (F t))
        ∙ or-false (not (P t))
        ∙ ap (λ (b : Bool). b && not (P t)) (sym (h.within t low.here))
        ∙ sym (and-true (F t))
        ∙ ap (λ (b : Bool). F t && not b) (sym (left_self x y t rest))

    go : (u : ℕ) → Dec (u ≡ t) → member g u ≡ (F u && not (member y u))
    go u (yes q) = subst (λ (u : ℕ). member g u ≡ (F u && not (member y u))) (sym q) here
    go u (no d) = judged_there judged u d ∙ h.at u ∙ ap (λ (b : Bool). F u && not b) (sym (left_other x y t rest u d))

pub picked_end : {near : ℕ} {P : Test} {x f : ℕ} → x ≡ 0 → Picked near P x f → (u : ℕ) → member f u ≡ (member near u && not (P u))
picked_end {near} {P} {x} e h u =
    h.at u ∙ ap (λ (b : Bool). except (member near) P u && not b) (ap (λ (n : ℕ). member n u) e ∙ member-none u) ∙ and-true (except (member near) P u)

-- both tests, or the one that decides
pub with_both : (a b : Bool) → (a && not (a && b)) ≡ (a && not b)
with_both true b = refl
with_both false b = refl

module _ (M N : Table) (rows : List ℕ) (s : ℕ) (a : s < states_of M) (columns : StatesOnly N (row_of rows s)) where
  -- a row of the relation is the mask
  pub related-row : (t : ℕ) → related (held M N rows) s t ≡ holds rows s t
  related-row t = go (dec_lt t (states_of N))
    where
      go : Dec (t < states_of N) → related (held M N rows) s t ≡ holds rows s t
      go (yes b) = relation-at (states_of M) (states_of N) (holds rows) a b
      go (no b) =
          is_false (related (held M N rows) s t) (λ h. b (relation-right (states_of M) (states_of N) (holds rows) s t h))
          ∙ sym (is_false (holds rows s t) (λ h. b (columns t h)))

  -- of a pair that is there, the match decides
  pub falls-is : (t : ℕ) → falls M N (held M N rows) s t ≡ (holds rows s t && not (matched M N (held M N rows) s t))
  unfolding survives
  falls-is t = with_both (related (held M N rows) s t) (matched M N (held M N rows) s t) ∙ ap (λ (b : Bool). b && not (matched M N (held M N rows) s t)) (related-row t)

-- of the rows that do not wait, those that have a pair that falls are in `fell`, and that pair in `lost`
pub record Finding (M N : Table) (R : Relation) (waits : Test) (lost : List ℕ) (fell : ℕ) : Type 0 where
  pub exact : (s t : ℕ) → s < states_of M → waits s ≡ false → holds lost s t ≡ falls M N R s t
  pub within : (s t : ℕ) → holds lost s t ≡ true → (s < states_of M) × (member fell s ≡ true)
  pub some : fell ≢ 0 → (s : ℕ) × (t : ℕ) × (s < states_of M) × T (falls M N R s t)

-- at first none is lost
pub finding_start : {M N : Table} {R : Relation} {waits : Test} {lost : List ℕ} {fell : ℕ} → fell ≡ 0 → Empty lost
    → ((s t : ℕ) → s < states_of M → waits s ≡ false → T (falls M N R s t) → ⊥) → Finding M N R waits lost fell
finding_start {M} {N} {R} none empty kept =
    record {
      exact = λ s t a m. empty s t ∙ sym (is_false (falls M N R s t) (kept s t a m));
      within = λ s t h. absurd (true≢false (sym h ∙ empty s t));
      some = λ d. absurd (d none);
    }

-- one row more is judged
pub finding_next : {M N : Table} {R : Relation} {waits later : Test} {s fell : ℕ} {lost : List ℕ} (row fell' : Set) → s < states_of M → s < height lost
    → ((u : ℕ) → u ≢ s → later u ≡ waits u) → member (mask row) ≡ falls M N R s → Judged (eqb (mask row) 0) s fell (mask fell')
    → Finding M N R waits lost fell → Finding M N R later (put_row lost s row) (mask fell')
finding_next {M} {N} {R} {waits} {later} {s} {fell} {lost} row fell' a room e d judged h =
    record {
      exact = λ u t a m. at u t a m (ℕ_discrete u s);
      within = λ u t m. inside u t m (ℕ_discrete u s);
      some = found (ℕ_discrete (mask row) 0);
    }
  where
    here : (t : ℕ) → holds (put_row lost s row) s t ≡ member (mask row) t
    here t = ap (λ (y : ℕ). member y t) (row_put lost s row room)

    at : (u t : ℕ) → u < states_of M → later u ≡ false → Dec (u ≡ s) → holds (put_row lost s row) u t ≡ falls M N R u t
    at u t b m (yes c) = subst (λ (u : ℕ). holds (put_row lost s row) u t ≡ falls M N R u t) (sym c) (here t ∙ ap (λ (X : Test). X t) d)
    at u t b m (no c) = ap (λ (y : ℕ). member y t) (row_put_other lost s u row c) ∙ h.exact u t b (sym (e u c) ∙ m)

    joined : mask row ≢ 0 → member (mask fell') s ≡ true
    joined n = judged_here judged ∙ ap (λ (b : Bool). not b || member fell s) (ne_eqb (mask row) 0 n)

    inside : (u t : ℕ) → holds (put_row lost s row) u t ≡ true → Dec (u ≡ s) → (u < states_of M) × (member (mask fell') u ≡ true)
    inside u t m (yes c) =
        let x : member (mask row) t ≡ true = sym (here t) ∙ ap (λ (u : ℕ). holds (put_row lost s row) u t) (sym c) ∙ m in
        subst (λ (u : ℕ). (u < states_of M) × (member (mask fell') u ≡ true)) (sym c)
        (a, joined (λ z. true≢false (sym x ∙ ap (λ (n : ℕ). member n t) z ∙ member-none t)))
    inside u t m (no c) =
        let x = h.within u t (ap (λ (y : ℕ). member y t) (sym (row_put_other lost s u row c)) ∙ m) in
        (x.0, judged_old judged u x.1)

    found : Dec (mask row ≡ 0) → mask fell' ≢ 0 → (s : ℕ) × (t : ℕ) × (s < states_of M) × T (falls M N R s t)
    found (yes y) n = h.some (λ q. n (no_member most_states (mask fell') (mask_lt fell') (λ t _. judged_same judged (eq-eqb (mask row) 0 y) t ∙ ap (λ (x : ℕ). member x t) q ∙ member-none t)))
    found (no y) n = let x = some-member most_states (mask row) (mask_lt row) y in (s, x.0, a, subst T (sym x.1 ∙ ap (λ (X : Test). X x.0) d) tt)

-- no row waits
pub finding_end : {M N : Table} {R : Relation} {waits : Test} {fell : ℕ} {lost : List ℕ} → ((s : ℕ) → s < states_of M → waits s ≡ false) → Finding M N R waits lost fell → Fallen M N R lost fell
finding_end {M} {N} {R} {waits} {fell} {lost} e h =
    record {
      exact = exact;
      within = h.within;
      some = λ d. let x = h.some d in (x.0, x.1, x.2, subst T (sym (exact x.0 x.1 x.2)) x.3);
    }
  where
    exact : Falling M N R lost
    exact s t a = h.exact s t a (e s a)

-- the rows of `left` wait, with what is in doubt of each
pub record Waiting (tables : Tables) (rows : List ℕ) (left : ℕ) (marks : Marks) (fell : ℕ) : Type 0 where
  pub waits : (s : ℕ) → member left s ≡ true
      → (s < states_of (first_table tables)) × Doubtless (first_table tables) (contract_table tables) (relation_of tables rows) s (holds marks.doubt.now s)
  pub found : Finding (first_table tables) (contract_table tables) (relation_of tables rows) (member left) marks.lost.now fell

-- at first the rows with a pair in doubt wait, and in no other a pair falls
pub waiting_start : {tables : Tables} {sets rows : List ℕ} {marks : Marks} {doubtful fell : ℕ} → fell ≡ 0 → Dropping tables sets rows marks doubtful → Waiting tables rows doubtful marks fell
unfolding survives
waiting_start {tables} {sets} {rows} {marks} {doubtful} none d =
    record {
      waits = λ s m. (ready.states s m, λ t o h. ready.sure s (ready.states s m) t (ap (λ (b : Bool). b && holds marks.doubt.now s t) m ∙ o) h);
      found = finding_start none d.none_lost kept;
    }
  where
    ready : DoubtsKnown (first_table tables) (contract_table tables) rows doubtful marks.doubt.now
    ready = d.ready

    kept : (s t : ℕ) → s < states_of (first_table tables) → member doubtful s ≡ false → T (falls (first_table tables) (contract_table tables) (relation_of tables rows) s t) → ⊥
    kept s t a m h =
        let R = relation_of tables rows in
        let lives = survives (first_table tables) (contract_table tables) R s t in
        let x : T (related R s t) = and_left (related R s t) (not lives) h in
        T_not lives (and_right (related R s t) (not lives) h)
        (and_both (related R s t) (matched (first_table tables) (contract_table tables) R s t) x (ready.sure s a t (ap (λ (b : Bool). b && holds marks.doubt.now s t) m) x))

-- one row more is judged: its doubts are settled, and the pairs that fall are lost
pub waiting_next : {tables : Tables} {rows : List ℕ} {marks marks' : Marks} {left rest s fell : ℕ} (z row fell' : Set) → s < height marks.lost.now
    → marks'.doubt.now ≡ put_row marks.doubt.now s z → marks'.lost.now ≡ put_row marks.lost.now s row
    → member left s ≡ true → member rest ≡ without_member s (member left) → member (mask row) ≡ falls (first_table tables) (contract_table tables) (relation_of tables rows) s
    → Judged (eqb (mask row) 0) s fell (mask fell') → Waiting tables rows left marks fell → Waiting tables rows rest marks' (mask fell')
waiting_next {tables} {rows} {marks} {marks'} {left} {rest} {s} {fell} z row fell' room p q has e d judged h =
    record {
      waits = λ u m. wait u m (ℕ_discrete u s);
      found =
          subst (λ l. Finding (first_table tables) (contract_table tables) (relation_of tables rows) (member rest) l (mask fell')) (sym q)
          (finding_next row fell' (h.waits s has).0 room (left_other left rest s e) d judged h.found);
    }
  where
    wait : (u : ℕ) → member rest u ≡ true → Dec (u ≡ s)
        → (u < states_of (first_table tables)) × Doubtless (first_table tables) (contract_table tables) (relation_of tables rows) u (holds marks'.doubt.now u)
    wait u m (yes c) = absurd (true≢false (sym m ∙ ap (member rest) c ∙ left_self left rest s e))
    wait u m (no c) =
        subst (λ (x : ℕ). (u < states_of (first_table tables)) × Doubtless (first_table tables) (contract_table tables) (relation_of tables rows) u (member x))
        (sym (ap (λ l. row_of l u) p ∙ row_put_other marks.doubt.now s u z c)) (h.waits u (sym (left_other left rest s e u c) ∙ m))

-- no row waits
pub waiting_end : {tables : Tables} {rows : List ℕ} {marks : Marks} {left fell : ℕ} → left ≡ 0 → Waiting tables rows left marks fell
    → Fallen (first_table tables) (contract_table tables) (relation_of tables rows) marks.lost.now fell
waiting_end e h = finding_end (λ s _. ap (λ (n : ℕ). member n s) e ∙ member-none s) h.found
