-- A walk that goes on, and the walk over the pairs of a row.
-- Assumes nothing.
use Rattle.form.specs.declared.tables.Tables.{Tables}
use mathlib.Core.Path.{◌≡◌, refl, sym, ap, ◌∙◌, subst}
use mathlib.Core.List.{List}
use Prim.Native.Nat.{ℕ, ◌/◌}
use native.Mathlib.Omega.{arith}
use lib.Dec.{T, T_not, eqb}
use lib.ListN.{get_or}
use Rattle.std.specs.Borrow.{MutBor}
use Rattle.simulation.specs.Round.{rank}
use Rattle.form.specs.Tables.{first_table, contract_table}
use Rattle.simulation.proofs.Finite.Tests.{and_right, same_eqb}
use Rattle.word.specs.Mask.{Test, member, without_member, Lowest}
use Rattle.set.specs.Words.{words, mask}
use Rattle.relation.specs.Rows.{row_of}
use Rattle.set.specs.declared.Set.{Set}
use Rattle.word.proofs.Mask.{member-none}
use Rattle.choice.specs.Choice.{Lost}
use Rattle.counting.specs.Pair.{number}
use Rattle.counting.proofs.Pairs.{member-holds, without_in, without_other}
use Rattle.counting.proofs.Counting.{tallied-start, tallied-next}
use Rattle.passing.specs.declared.Trail.{Trail}
use Rattle.passing.specs.Passing.{Same, Kept, ToDo, PassGiven, Walking, AtPair, Passed, PairPassed, RowPassed}

-- ---- the lists that a walk was lent

same_list : {l : MutBor (List ℕ)} → Same l l
same_list = record { name = refl; size = refl }

same_still : {l k m : MutBor (List ℕ)} → Same l k → Same k m → Same l m
same_still a b = record { name = b.name ∙ a.name; size = b.size ∙ a.size }

pub kept_all : {W : Trail} → Kept W W
kept_all = record { same_order = same_list; same_choices = same_list; same_counts = same_list; same_todo = same_list; same_sets = same_list; same_amounts = same_list }

module _ {W V : Trail} (h : Kept W V) where
  -- one step more
  pub kept_next : {U : Trail} → Kept V U → Kept W U
  kept_next k =
      record {
        same_order = same_still h.same_order k.same_order;
        same_choices = same_still h.same_choices k.same_choices;
        same_counts = same_still h.same_counts k.same_counts;
        same_todo = same_still h.same_todo k.same_todo;
        same_sets = same_still h.same_sets k.same_sets;
        same_amounts = same_still h.same_amounts k.same_amounts;
      }

  -- so what passing rests on stays
  pub still-given : {tables : Tables} {ranks : List ℕ} → PassGiven tables ranks W → PassGiven tables ranks V
  still-given g =
      record {
        given = record {
          ranked = g.given.ranked;
          room = omega (arith, g.given.room, h.same_order.size);
          notes = omega (arith, g.given.notes, h.same_choices.size);
          amounts_room = omega (arith, g.given.amounts_room, h.same_amounts.size);
        };
        rows = omega (arith, g.rows, ap (λ (n : ℕ). n / words) h.same_todo.size);
        sets_room = omega (arith, g.sets_room, ap (λ (n : ℕ). n / words) h.same_sets.size);
      }

pub none_in : (left k : ℕ) → left ≡ 0 → T (member left k) → ⊥
none_in left k z h = subst T (ap (λ (n : ℕ). member n k) z ∙ member-none k) h

-- ---- a walk at rank r

-- it went on from W₀ to W and can go on from there
pub record Onward (tables : Tables) (ranks : List ℕ) (r : ℕ) (W₀ W : Trail) : Type 0 where
  pub given : PassGiven tables ranks W
  pub passed : Passed tables r W₀ W

module _ {tables : Tables} {ranks : List ℕ} {r : ℕ} where
  -- at first no pair is passed
  pub onward_start : {W : Trail} → Walking tables ranks r W → Onward tables ranks r W W
  onward_start g =
      record {
        given = g.given;
        passed = record { passing = g.passing; tallied = tallied-start g.tally; old = λ s t h _. h; stays = λ s t h. h; kept = kept_all };
      }

  module _ {W₀ W : Trail} (o : Onward tables ranks r W₀ W) where
    -- it can go on
    pub onward_walking : Walking tables ranks r W
    onward_walking = record { given = o.given; passing = o.passed.passing; tally = o.passed.tallied.tally }

    -- and what it does from there it did from the start
    pub onward_next : {V : Trail} → Passed tables r W V → Onward tables ranks r W₀ V
    onward_next p =
        record {
          given = still-given p.kept o.given;
          passed = record {
            passing = p.passing;
            tallied = tallied-next o.passed.tallied p.tallied;
            old = λ s t q e. o.passed.old s t (p.old s t q e) e;
            stays = λ s t q. p.stays s t (o.passed.stays s t q);
            kept = kept_next o.passed.kept p.kept;
          };
        }

-- ---- the pairs of row s and rank r

-- those that are to be passed are left
pub record RowAt (tables : Tables) (ranks : List ℕ) (r s : ℕ) (W₀ W : Trail) (left : ℕ) : Type 0 where
  pub onward : Onward tables ranks r W₀ W
  pub still : (t : ℕ) → T (member left t) → ToDo W s t
  pub ahead : (t : ℕ) → ToDo W s t → rank (first_table tables) (contract_table tables) s t ≡ r → T (member left t)

module _ {tables : Tables} {ranks : List ℕ} {r s : ℕ} where
  -- at first all are left
  pub row-start : {W : Trail} {pairs : ℕ} → Walking tables ranks r W → pairs ≡ row_of W.todo.now s → RowAt tables ranks r s W W pairs
  row-start g e =
      record {
        onward = onward_start g;
        still = λ t h. subst (λ (k : ℕ). T (member k t)) e h;
        ahead = λ t h _. subst (λ (k : ℕ). T (member k t)) (sym e) h;
      }

  module _ {W₀ W : Trail} {left : ℕ} (o : RowAt tables ranks r s W₀ W left) where
    -- the lowest pair left is to be passed
    module _ {t : ℕ} (low : Lowest (member left) t) where
      here : ToDo W s t
      here = o.still t (member-holds low)

      pub low-lost : Lost tables s t
      low-lost = o.onward.passed.passing.lost s t here

      -- its rank is the number read at its place
      pub low-rank : {k : ℕ} → k ≡ get_or ranks (number tables s t) 0 → k ≡ rank (first_table tables) (contract_table tables) s t
      low-rank e = e ∙ o.onward.given.given.ranked.ranked s t low-lost.left low-lost.right

      -- if that is the rank r, the walk is at it
      pub low_pair : rank (first_table tables) (contract_table tables) s t ≡ r → AtPair tables ranks r s t W
      low_pair e = record { walking = onward_walking o.onward; here = here; this_rank = sym e }

    -- it is no longer left: it has another rank, or it is passed
    module _ (t left' : ℕ) (e : member left' ≡ without_member t (member left)) where
      pub row-over : (rank (first_table tables) (contract_table tables) s t ≡ r → ⊥) → RowAt tables ranks r s W₀ W left'
      row-over d =
          record {
            onward = o.onward;
            still = λ u h. o.still u (without_in t left u e h);
            ahead = λ u h q. without_other left u e (λ k. d (ap (rank (first_table tables) (contract_table tables) s) (sym k) ∙ q)) (o.ahead u h q);
          }

      pub row_next : {V : Trail} → PairPassed tables r s t W V → RowAt tables ranks r s W₀ V left'
      row_next {V} p =
          record {
            onward = onward_next o.onward p.passed;
            still = λ u q. p.others s u (o.still u (without_in t left u e q)) (λ k. not_it u k.1 (subst (λ (X : Test). T (X u)) e q));
            ahead = λ u q f.
                without_other left u e (λ k. p.gone (subst (λ (v : ℕ). ToDo V s v) k q))
                (o.ahead u (p.passed.old s u q f) f);
          }
        where
          not_it : (u : ℕ) → u ≡ t → T (without_member t (member left) u) → ⊥
          not_it u k q = T_not (eqb u t) (and_right (member left u) _ q) (same_eqb k)

    -- when none is left, all are passed; a row that has no pair at all any more is closed
    pub row-end : left ≡ 0 → {rows' : Set} {pairs : ℕ} → pairs ≡ row_of W.todo.now s
        → ((u : ℕ) → (u ≡ s → pairs ≡ 0 → ⊥) → T (member (mask W.walk.rows) u) → T (member (mask rows') u))
        → RowPassed tables r s W₀ (record { order = W.order; choices = W.choices; counts = W.counts; todo = W.todo; sets = W.sets; amounts = W.amounts; walk = record { bytes = W.walk.bytes; count = W.walk.count; rows = rows' } })
    row-end z is closed =
        let p = o.onward.passed.passing in
        record {
          passed = record {
            passing = record {
              fits = p.fits;
              few = p.few;
              open_row = λ u v h. closed u (λ e k. none_in (row_of W.todo.now u) v (ap (row_of W.todo.now) e ∙ sym is ∙ k) h) (p.open_row u v h);
              lost = p.lost;
              most = p.most;
              at = p.at;
              high = p.high;
              gone = p.gone;
              once = p.once;
              noted = p.noted;
            };
            tallied = o.onward.passed.tallied;
            old = o.onward.passed.old;
            stays = o.onward.passed.stays;
            kept = let k = o.onward.passed.kept in
                record { same_order = k.same_order; same_choices = k.same_choices; same_counts = k.same_counts; same_todo = k.same_todo; same_sets = k.same_sets; same_amounts = k.same_amounts };
          };
          gone = λ t h q. none_in left t z (o.ahead t h q);
        }
