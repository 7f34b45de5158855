-- From one round to the next, and the end.
-- Assumes nothing.
use Rattle.form.specs.declared.tables.Tables.{Tables}
use mathlib.Core.Path.{◌≡◌, refl, sym, ap, ap₂, ◌∙◌, subst}
use mathlib.Core.Bool.{Bool, true, false, cond, not, ◌&&◌, true≢false}
use mathlib.Core.List.{List}
use mathlib.Core.Logic.{◌≢◌, inl, inr}
use Prim.Native.Nat.{ℕ, suc, ◌+◌, ◌*◌, ◌≤◌, ◌<◌}
use native.Mathlib.Numerals.{add-one}
use native.Mathlib.Omega.{arith}
use lib.Dec.{T}
use Rattle.std.proofs.Common.{Bor}
use lib.ListN.{length, get_or}
use Rattle.simulation.specs.Table.{Transition, Table, weights, target_at, states_of, steps, transition}
use Rattle.simulation.specs.Round.{Relation, related, round, pairs}
use Rattle.simulation.specs.Complete.{lists, added, self_loop, complete}
use Rattle.simulation.proofs.Finite.Tests.{and_left, is_true, is_false, same_test, below_one}
use Rattle.simulation.proofs.Simulation.Relation.{relation-at, relation-left, relation-right}
use Rattle.simulation.proofs.Simulation.Rounds.{in_right, round-falls}
use Rattle.simulation.proofs.Simulation.Steps.{step-state}
use Rattle.simulation.proofs.Complete.Codes.{added_new}
use Rattle.simulation.proofs.Complete.Tables.{Placed as PlacedIn, complete-listed, complete-added, complete-place}
use Rattle.word.specs.Mask.{Test, member}
use Rattle.word.proofs.Mask.{member-none}
use Rattle.form.specs.Form.{Loaded, start_of, transition_at, table_of}
use Rattle.form.specs.Tables.{first_form, second_form, first_table, second_table, contract_table, BothLoaded}
use Rattle.form.proofs.FormLaws.{counts, transition-number, transition_of, weights-length, targets-length}
use Rattle.relation.specs.Related.{holds}
use Rattle.decision.specs.Fitting.{held}
use Rattle.fit.specs.Held.{matched}
use Rattle.relation.specs.Rows.{row_of}
use Rattle.links.specs.declared.lists.Marks.{Marks}
use Rattle.links.specs.Links.{Linked, ContractLinked, Doubted}
use Rattle.links.proofs.Doubting.{same_marks_refl, same_marks_more}
use Rattle.dropping.specs.Falling.{StatesOnly, DoubtsKnown, Fallen}
use Rattle.rounds.specs.Rounds.{Placed, After, Settled}
use Rattle.rounds.specs.Turns.{Standing, Prepared, Turning, Kept, Refined}
use Rattle.rounds.specs.declared.Work.{Work}
use Rattle.rounds.proofs.Fitting.{Alike, matched_agree}
use Rattle.rounds.proofs.Settling.{row-place}
use Rattle.rounds.proofs.RoundLaws.{held-round, in_test, kept_unless, lost-rank, more, moves, ranks-whole, rounds_are, rows_kept}

-- rows of a round have states of the second table only
pub round-columns : {M N : Table} {k : ℕ} {rows ranks : List ℕ} → After M N k rows ranks → (s : ℕ) → s < states_of M → StatesOnly N (row_of rows s)
round-columns {M} {N} {k} after s a t h = in_right M N k s t (subst T (after.rows_are s t a) h)

-- the standing before the first round
pub stands_first : {M N : Table} {fell : ℕ} {rows ranks lost : List ℕ} → After M N 0 rows ranks → Fallen M N (round M N 0) lost fell → Standing M N 0 rows ranks lost fell
stands_first {M} {N} {fell} {rows} {ranks} {lost} after next =
    record { after = after; next = subst (λ (R : Relation). Fallen M N R lost fell) (sym (held-round M N 0 rows after.rows_are)) next }

-- rows that lose pairs hold less
pub held-less : (M N : Table) {q k : ℕ} {X : ℕ → Test} {rows rows' ranks ranks' : List ℕ} → Settled q k X rows rows' ranks ranks'
    → (s t : ℕ) → related (held M N rows') s t ≡ true → related (held M N rows) s t ≡ true
held-less M N {X = X} {rows} {rows'} h s t e =
    let m : T (related (held M N rows') s t) = subst T (sym e) tt in
    let a : s < states_of M = relation-left (states_of M) (states_of N) (holds rows') s t m in
    let b : t < states_of N = relation-right (states_of M) (states_of N) (holds rows') s t m in
    relation-at (states_of M) (states_of N) (holds rows) a b
    ∙ is_true (holds rows s t) (and_left (holds rows s t) (not (X s t)) (subst T (relation-at (states_of M) (states_of N) (holds rows') a b ∙ h.rows_done s t) m))

module _ {M N : Table} {k fell : ℕ} {rows ranks lost : List ℕ} (h : Standing M N k rows ranks lost fell) where
  -- a lost pair has a place among the ranks
  pub lost_places : {q n : ℕ} → q ≡ states_of N → pairs M N ≤ n → Placed q n lost
  lost_places {q} e room s t m =
      let a : s < states_of M = (h.next.within s t m).0 in
      let b : t < states_of N = (lost-rank M N k rows ranks h.after lost h.next.exact s t a (subst T (sym m) tt)).0 in
      (omega arith, omega (arith, row-place s (states_of M) (states_of N) t a b, ap (λ (n : ℕ). s * n) e))

  -- where a pair falls, a round more is within the count of pairs
  pub bounded : fell ≢ 0 → k + 1 ≤ pairs M N
  bounded d = let x = h.next.some d in omega (arith, (more M N k rows ranks h.after lost h.next.exact x.0 x.1 x.2 x.3).0)

  -- the next standing
  pub moved : fell ≢ 0 → {q : ℕ} → q ≡ states_of N → {rows' ranks' : List ℕ} → Settled q (k + 1) (holds lost) rows rows' ranks ranks' → After M N (k + 1) rows' ranks'
  moved d {q} u {rows'} {ranks'} s =
      let x = h.next.some d in
      let settled = subst (λ (q : ℕ). Settled q (k + 1) (holds lost) rows rows' ranks ranks') u s in
      subst (λ (n : ℕ). After M N n rows' ranks') (sym (add-one k))
      (moves M N k rows ranks h.after lost h.next.exact rows' ranks' x.0 x.1 x.2 x.3 (λ s t a. settled.rows_done s t)
      (λ s t a b m. settled.ranks_done s t b ∙ ap (λ (c : Bool). cond c (k + 1) (get_or ranks (s * states_of N + t) 0)) (is_true (holds lost s t) m) ∙ add-one k)
      (λ s t a b m. settled.ranks_done s t b ∙ ap (λ (c : Bool). cond c (k + 1) (get_or ranks (s * states_of N + t) 0)) (is_false (holds lost s t) m)))

  -- ranks past those of all pairs are as they were
  pub past : {q : ℕ} → q ≡ states_of N → {rows' ranks' : List ℕ} → Settled q (k + 1) (holds lost) rows rows' ranks ranks'
      → (i : ℕ) → pairs M N ≤ i → get_or ranks' i 0 ≡ get_or ranks i 0
  past u s i a = s.ranks_left i (λ r t m e. let b = lost_places {n = pairs M N} u (omega arith) r t m in omega (arith, b.1))

  -- where no pair falls, the ranks are all there
  pub refined : (old : List ℕ) → fell ≡ 0 → ((i : ℕ) → pairs M N ≤ i → get_or ranks i 0 ≡ get_or old i 0) → Refined M N old ranks rows k
  refined old z beyond =
      let none : (s t : ℕ) → s < states_of M → ¬ T (holds lost s t) =
      λ s t a m. true≢false (sym (h.next.within s t (is_true (holds lost s t) m)).1 ∙ ap (λ (n : ℕ). member n s) z ∙ member-none s) in
      record {
        rounds = rounds_are M N k rows ranks h.after lost h.next.exact none;
        ranks_are = ranks-whole M N k rows ranks h.after lost h.next.exact none;
        beyond = beyond;
        rows_are = rows_kept M N k rows ranks h.after lost h.next.exact none;
        columns = λ s t a b. is_false (holds rows s t) (λ m. let c : t < states_of N = round-columns h.after s a t m in omega arith);
      }

-- the same tables, sets, ranks, rows and marks are at work
pub kept_self : {W : Work} → Kept W W
kept_self = record { tables = refl; sets = refl; ranks = refl; rows = refl; marks = refl; same_marks = same_marks_refl }

pub kept_more : {U V W : Work} → Kept U V → Kept V W → Kept U W
kept_more k l =
    record {
      tables = l.tables ∙ k.tables;
      sets = l.sets ∙ k.sets;
      ranks = l.ranks ∙ k.ranks;
      rows = l.rows ∙ k.rows;
      marks = l.marks ∙ k.marks;
      same_marks = same_marks_more k.same_marks l.same_marks;
    }

pub same_pairs : {W W' : Work} → Kept W W'
    → pairs (first_table W'.tables.now) (contract_table W'.tables.now) ≡ pairs (first_table W.tables.now) (contract_table W.tables.now)
same_pairs k = ap (λ (t : Bor Tables). pairs (first_table t.now) (contract_table t.now)) k.tables

-- no pair falls next: the ranks are all there
pub ended : {W W' : Work} {k fell : ℕ} (old : List ℕ) → Kept W W' → Turning W' k fell → fell ≡ 0
    → ((i : ℕ) → pairs (first_table W.tables.now) (contract_table W.tables.now) ≤ i → get_or W'.ranks.now i 0 ≡ get_or old i 0)
    → Refined (first_table W.tables.now) (contract_table W.tables.now) old W'.ranks.now W'.rows.now k
ended {W} {W'} {k} {fell} old kept turning none beyond =
    refined
    (subst (λ (t : Bor Tables). Standing (first_table t.now) (contract_table t.now) k W'.rows.now W'.ranks.now W'.marks.now.lost.now fell) kept.tables turning.standing)
    old none beyond

-- the state s comes before each target of its transitions, by places
link_at : (f before : List ℕ) (loaded : Loaded f) → Linked f before → (s k i : ℕ) → s < states_of (table_of f) → k < length (steps (table_of f) s)
    → i < length (weights (transition (table_of f) s k)) → holds before (target_at (transition (table_of f) s k) i) s ≡ true
link_at f before loaded linked s k i a b =
    subst (λ (m : Transition). i < length (weights m) → holds before (target_at m i) s ≡ true) (transition_of f loaded s k a b)
    (λ c.
    let m = transition_at f (start_of f s + k) in
    linked.links s a (start_of f s + k) i (omega arith) (omega (arith, counts f loaded s a)) (omega (arith, weights-length m, targets-length m)))

-- in the contract too, for a transition with the code of one of the first table
module _ (tables : Tables) (behind : List ℕ) (loaded : BothLoaded tables) (linked : ContractLinked tables behind) (s c : ℕ) (own : c < length (steps (first_table tables) s)) where
  -- a state comes before the target of an added transition, which is the state itself
  loop-at : (t p : ℕ) → t < states_of (second_table tables) → ¬ T (lists (second_table tables).codes p) → (transition (first_table tables) s c).code ≡ p
      → (j : ℕ) → j < 1 → holds behind (target_at (self_loop t p) j) t ≡ true
  loop-at t p a missing e =
      let f = first_form tables in
      let state = step-state (first_table tables) s c own in
      below_one (λ j. holds behind (target_at (self_loop t p) j) t ≡ true)
      (linked.loops (start_of f s + c) t (transition-number f loaded.first s c state own)
      (λ h. missing (subst (λ (n : ℕ). T (lists (second_table tables).codes n)) (ap (λ (m : Transition). m.code) (transition_of f loaded.first s c state own) ∙ e) h)) a)

  behind_at : (t d j : ℕ) → d < length (steps (contract_table tables) t) → (transition (first_table tables) s c).code ≡ (transition (contract_table tables) t d).code
      → j < length (weights (transition (contract_table tables) t d)) → holds behind (target_at (transition (contract_table tables) t d) j) t ≡ true
  behind_at t d j b = go (complete-place cs N t d b)
    where
      cs : List ℕ
      cs = (first_table tables).codes

      N : Table
      N = second_table tables

      Behind : Transition → Type 0
      Behind n = (transition (first_table tables) s c).code ≡ n.code → j < length (weights n) → holds behind (target_at n j) t ≡ true

      go : PlacedIn cs N t d → Behind (transition (complete cs N) t d)
      go (a, inl h) = subst Behind (sym (complete-listed cs N t d h)) (λ _ i. link_at (second_form tables) behind loaded.second linked.listed t d j a h i)
      go (a, inr (p, h, e)) =
          subst Behind (sym (ap (transition (complete cs N) t) e ∙ complete-added cs N t p a h)) (λ e. loop-at t (get_or (added N.codes cs) p 0) a (added_new cs N.codes p h) e j)

-- a pair that is not in doubt has lost no pair behind it, so it stays matched
pub sure : {W : Work} {k fell doubtful : ℕ} {rows' ranks' : List ℕ} {marks' : Marks} → Turning W k fell
    → After (first_table W.tables.now) (contract_table W.tables.now) (k + 1) rows' ranks' → Doubted W.sets.now doubtful W.marks.now marks'
    → DoubtsKnown (first_table W.tables.now) (contract_table W.tables.now) rows' doubtful marks'.doubt.now
sure {W} {k} {fell} {doubtful} {rows'} {ranks'} {marks'} h later doubted =
    record {
      columns = round-columns later;
      states = doubted.within (states_of (first_table tables)) p.sets_known.first.states;
      sure = λ s a t out m.
          let here = held-round (first_table tables) (contract_table tables) (suc k) rows' next.rows_are in
          subst (λ (R : Relation). T (matched (first_table tables) (contract_table tables) R s t)) (sym here)
          (matched_agree (first_table tables) (contract_table tables) before now s t (λ c d u v e i j w z. alike s t a out c d u v e i j w z)
          (in_test (first_table tables) (contract_table tables) k s t (subst (λ (R : Relation). T (related R s t)) here m)));
    }
  where
    tables : Tables
    tables = W.tables.now

    p : Prepared W
    p = h.prepared

    before : Relation
    before = round (first_table tables) (contract_table tables) k

    now : Relation
    now = round (first_table tables) (contract_table tables) (suc k)

    next : After (first_table tables) (contract_table tables) (suc k) rows' ranks'
    next = subst (λ (n : ℕ). After (first_table tables) (contract_table tables) n rows' ranks') (add-one k) later

    alike : (s t : ℕ) → s < states_of (first_table tables) → (member doubtful s && holds marks'.doubt.now s t) ≡ false → (c d : ℕ) → c < length (steps (first_table tables) s)
        → d < length (steps (contract_table tables) t) → (transition (first_table tables) s c).code ≡ (transition (contract_table tables) t d).code
        → Alike before now (transition (first_table tables) s c) (transition (contract_table tables) t d)
    alike s t a out c d u v e i j w z =
        let f = first_form tables in
        let K = contract_table tables in
        let x = target_at (transition (table_of f) s c) i in
        let y = target_at (transition K t d) j in
        same_test (related before x y) (related now x y)
        (λ q. kept_unless (table_of f) K k W.rows.now W.ranks.now h.standing.after W.marks.now.lost.now h.standing.next.exact x y q
        (λ m.
        let r = doubted.raised x s y t (link_at f W.sets.now.before.now p.loaded.first p.sets_known.first s c i a u w)
        (is_true (holds W.marks.now.lost.now x y) m) (behind_at tables W.sets.now.behind.now p.loaded p.sets_known.second s c u t d j v e z) in
        true≢false (sym (ap₂ ◌&&◌ r.0 r.1) ∙ out)))
        (round-falls (table_of f) K k x y)
