-- The walks over the rows of a rank and the ranks, from the root's down to 1.
-- Assumes nothing.
use Rattle.form.specs.declared.tables.Tables.{Tables}
use mathlib.Core.Path.{◌≡◌, refl, sym, ap, ap₂, ◌∙◌, subst}
use mathlib.Core.List.{List}
use mathlib.Core.Logic.{⊎_elim, ◌≢◌}
use Prim.Native.Nat.{ℕ, ◌-◌, ◌*◌, ◌≤◌, ◌<◌}
use native.Mathlib.Omega.{arith}
use native.Mathlib.Decide.{dec_lt, ℕ_discrete}
use lib.Dec.{T, eqb→eq}
use lib.ListN.{length}
use lib.Seq.{take_all}
use Rattle.simulation.specs.Limits.{most_states}
use Rattle.form.specs.Tables.{first_table, contract_table}
use Rattle.simulation.specs.Round.{rank}
use Rattle.simulation.proofs.Finite.Tests.{same_eqb}
use Rattle.word.specs.Mask.{Test, member, only, without_member}
use Rattle.set.specs.Words.{words, mask}
use Rattle.relation.specs.Rows.{row_of, height, put_row}
use Rattle.set.specs.declared.Set.{Set}
use Rattle.relation.proofs.RowLaws.{length_put, row_put, row_put_other}
use Rattle.relation.proofs.Parts.{part_past}
use Rattle.choice.specs.Choice.{Lost}
use Rattle.counting.specs.Count.{longest, Tally, Tallied}
use Rattle.counting.proofs.Counting.{tallied-start, tallied-next}
use Rattle.counting.proofs.Pairs.{without_other}
use Rattle.passing.specs.declared.Trail.{Trail}
use Rattle.passing.specs.Passing.{Kept, ToDo, OrderGiven, Seen, Walking, RowPassed}
use Rattle.order.specs.Order.{RankPassed, RanksPassed}
use Rattle.passing.proofs.Walks.{kept_all, kept_next, still-given, none_in, Onward, onward_start, onward_walking, onward_next}

-- ---- the rows of rank r

-- those with a pair of the rank that is to be passed are left
pub record RankAt (tables : Tables) (ranks : List ℕ) (r : ℕ) (W₀ W : Trail) (left : ℕ) : Type 0 where
  pub onward : Onward tables ranks r W₀ W
  pub ahead : (s t : ℕ) → ToDo W s t → rank (first_table tables) (contract_table tables) s t ≡ r → T (member left s)

module _ {tables : Tables} {ranks : List ℕ} {r : ℕ} where
  -- at first all open rows are left
  pub rank-start : {W : Trail} → Walking tables ranks r W → RankAt tables ranks r W W (mask W.walk.rows)
  rank-start g = record { onward = onward_start g; ahead = λ s t h _. g.passing.open_row s t h }

  module _ {W₀ W : Trail} {left : ℕ} (o : RankAt tables ranks r W₀ W left) where
    pub rank_walking : Walking tables ranks r W
    rank_walking = onward_walking o.onward

    -- a row is passed and is no longer left
    pub rank-next : (s left' : ℕ) → member left' ≡ without_member s (member left) → {V : Trail} → RowPassed tables r s W V → RankAt tables ranks r W₀ V left'
    rank-next s left' e {V} p =
        record {
          onward = onward_next o.onward p.passed;
          ahead = λ u v q f.
              without_other left u e
              (λ k. p.gone v (subst (λ (u : ℕ). ToDo V u v) k q) (ap (λ (u : ℕ). rank (first_table tables) (contract_table tables) u v) (sym k) ∙ f))
              (o.ahead u v (p.passed.old u v q f) f);
        }

    -- when none is left, no pair of the rank is to be passed
    pub rank-end : left ≡ 0 → RankPassed tables r W₀ W
    rank-end z = record { passed = o.onward.passed; gone = λ s t h q. none_in left s z (o.ahead s t h q) }

-- ---- the ranks

-- the walk went on from W₀ to W, down to rank r, and can go on from there
pub record RanksAt (tables : Tables) (ranks : List ℕ) (r : ℕ) (W₀ W : Trail) : Type 0 where
  pub walking : Walking tables ranks r W
  pub tallied : Tallied tables W₀.counts.now W₀.walk.bytes W.counts.now W.walk.bytes
  pub stays : (s t : ℕ) → Seen tables W₀ s t → Seen tables W s t
  pub kept : Kept W₀ W

-- at first it is where it began
pub ranks-start : {tables : Tables} {ranks : List ℕ} {r : ℕ} {W : Trail} → Walking tables ranks r W → RanksAt tables ranks r W W
ranks-start g = record { walking = g; tallied = tallied-start g.tally; stays = λ s t h. h; kept = kept_all }

module _ {tables : Tables} {ranks : List ℕ} {r : ℕ} {W₀ W : Trail} (o : RanksAt tables ranks r W₀ W) where
  -- a rank is passed
  module _ {V : Trail} (p : RankPassed tables r W V) where
    -- and the next one is below it
    pub ranks-next : RanksAt tables ranks (r - 1) W₀ V
    ranks-next =
        let q = p.passed.passing in
        record {
          walking = record {
            given = still-given p.passed.kept o.walking.given;
            passing = record {
              fits = q.fits;
              few = q.few;
              open_row = q.open_row;
              lost = q.lost;
              most = λ s t k. let d : rank (first_table tables) (contract_table tables) s t ≢ r = λ e. p.gone s t k e in omega (arith, q.most s t k, d);
              at = q.at;
              high = λ k b. omega (arith, q.high k b);
              gone = q.gone;
              once = q.once;
              noted = q.noted;
            };
            tally = p.passed.tallied.tally;
          };
          tallied = tallied-next o.tallied p.passed.tallied;
          stays = λ s t k. p.passed.stays s t (o.stays s t k);
          kept = kept_next o.kept p.passed.kept;
        }

    -- or the bytes are too many
    pub ranks_stop : longest < V.walk.bytes → RanksPassed tables W₀ V
    ranks_stop long =
        record {
          tallied = tallied-next o.tallied p.passed.tallied;
          ordered = λ h. absurd (omega (arith, long));
          found = λ h. absurd (omega (arith, long));
          noted = λ h. absurd (omega (arith, long));
          kept = kept_next o.kept p.passed.kept;
        }

  -- at rank 0 nothing is to be passed any more
  none_left : r ≤ 0 → (u v : ℕ) → ToDo W u v → ⊥
  none_left z u v h = omega (arith, o.walking.passing.most u v h, (o.walking.passing.lost u v h).fell)

  -- and every pair that was to be passed is listed
  pub ranks-end : r ≤ 0 → RanksPassed tables W₀ W
  ranks-end z =
      let p = o.walking.passing in
      record {
        tallied = o.tallied;
        ordered = λ _. record {
          fits = p.fits;
          few = p.few;
          at = λ k b. let l = p.at k b in record { lost = l.lost; below = λ i v c h. ⊎_elim (λ q. absurd (none_left z _ v q)) (λ q. q) (l.below i v c h) };
        };
        found = λ _ s t h. ⊎_elim (λ q. absurd (none_left z s t q)) (λ q. q) (o.stays s t h);
        noted = λ _. p.noted;
        kept = o.kept;
      }

-- ---- the root

-- the pair (s, t) alone is to be passed
pub record RootAlone (s t : ℕ) (todo : List ℕ) : Type 0 where
  pub rows : most_states ≤ height todo
  pub here : T (member (row_of todo s) t)
  pub alone : (u v : ℕ) → T (member (row_of todo u) v) → (u ≡ s) × (v ≡ t)

-- its row is put among rows with no pairs
module _ (rows : List ℕ) (size : length rows ≡ most_states * words) (empty : (u : ℕ) → u < most_states → row_of rows u ≡ 0) {s t : ℕ} (low : s < most_states) where
  pub root-alone : (row : Set) → member (mask row) ≡ only t → {todo : List ℕ} → todo ≡ put_row rows s row → RootAlone s t todo
  root-alone row er {todo} put =
      record {
        rows = omega (arith, size, ap length put ∙ length_put rows s row);
        here = subst T (sym (ap (λ (k : ℕ). member k t) row-there ∙ ap (λ (X : Test). X t) er)) (same_eqb {m = t} refl);
        alone = λ u v. at u v (ℕ_discrete u s);
      }
    where
      row-there : row_of todo s ≡ mask row
      row-there = ap (λ (l : List ℕ). row_of l s) put ∙ row_put rows s row (omega (arith, low, size))

      others : (u : ℕ) → u ≢ s → Dec (u < most_states) → row_of todo u ≡ 0
      others u d (yes b) = ap (λ (l : List ℕ). row_of l u) put ∙ row_put_other rows s u row d ∙ empty u b
      others u d (no b) =
          ap (λ (l : List ℕ). row_of l u) (sym (take_all (most_states * words) todo (omega (arith, size, ap length put ∙ length_put rows s row)))) ∙ part_past 0 most_states todo u (omega (arith, b))

      at : (u v : ℕ) → Dec (u ≡ s) → T (member (row_of todo u) v) → (u ≡ s) × (v ≡ t)
      at u v (yes e) h = (e, eqb→eq v t (subst T (ap (λ (k : ℕ). member k v) (ap (row_of todo) e ∙ row-there) ∙ ap (λ (X : Test). X v) er) h))
      at u v (no d) h = absurd (none_in (row_of todo u) v (others u d (dec_lt u most_states)) h)

-- so a walk can begin at the root's rank, with nothing listed
pub root-walking : {tables : Tables} {ranks : List ℕ} {r s t : ℕ} {W : Trail} → OrderGiven tables ranks W.order.now W.choices.now W.amounts.now → Lost tables s t → RootAlone s t W.todo.now
    → 2 * most_states ≤ height W.sets.now → Tally tables W.counts.now W.walk.bytes → W.walk.count ≡ 0 → member (mask W.walk.rows) ≡ only s → r ≡ rank (first_table tables) (contract_table tables) s t
    → Walking tables ranks r W
root-walking {tables = tables} {s = s} g lost o sets tally none es e =
    record {
      given = record { given = g; rows = o.rows; sets_room = sets };
      passing = record {
        fits = omega (arith, none);
        few = omega (arith, none);
        open_row = λ u v h. subst T (sym (ap (λ (X : Test). X u) es)) (same_eqb (o.alone u v h).0);
        lost = λ u v h. let k = o.alone u v h in subst (λ (u : ℕ). Lost tables u v) (sym k.0) (subst (λ (v : ℕ). Lost tables s v) (sym k.1) lost);
        most = λ u v h. let k = o.alone u v h in omega (arith, e, ap₂ (rank (first_table tables) (contract_table tables)) k.0 k.1);
        at = λ k b. absurd (omega (arith, none));
        high = λ k b. absurd (omega (arith, none));
        gone = λ k b. absurd (omega (arith, none));
        once = λ k l b c. absurd (omega (arith, none));
        noted = record { at = λ k b. absurd (omega (arith, none)) };
      };
      tally = tally;
    }
