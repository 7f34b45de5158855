-- The first round's rows and ranks, and what is returned at the end.
-- Assumes nothing.
use Rattle.form.specs.declared.tables.Tables.{Tables}
use mathlib.Core.Path.{◌≡◌, sym, ap, ap₂, ◌∙◌, subst}
use mathlib.Core.Bool.{Bool, ◌&&◌, and-false}
use mathlib.Core.List.{List}
use Prim.Native.Nat.{ℕ, ◌*◌, ◌+◌, ◌≤◌, ◌<◌}
use native.Mathlib.Omega.{arith}
use native.Mathlib.Decide.{dec_lt}
use borrow.Author.Tests.{le-ltb}
use lib.Dec.{ltb}
use lib.ListN.{length, get_or}
use Rattle.simulation.specs.Limits.{most_pairs, most_states}
use Rattle.simulation.specs.Table.{Table, states_of}
use Rattle.simulation.specs.Round.{pairs}
use Rattle.word.specs.Mask.{both, up_to}
use Rattle.relation.specs.Related.{holds, pairs_of}
use Rattle.relation.proofs.Relations.{pairs-most}
use Rattle.form.specs.Tables.{first_table, contract_table}
use Rattle.rounds.specs.Rounds.{After}
use Rattle.rounds.specs.Turns.{Refined}
use Rattle.rounds.proofs.RoundLaws.{begins}
use Rattle.rounds.proofs.Settling.{row-place}
use Rattle.ranking.specs.Rows.{Zeroed, Open, RanksFilled}
use Rattle.ranking.proofs.Answer.{ranks_list, kept_are, kept-round}

-- all pairs, cut to the states, and zeros
pub begun : (M N : Table) {p q : ℕ} (full rows old ranks : List ℕ) → Open full → p ≡ states_of M → q ≡ states_of N → p ≤ most_states → q ≤ most_states
    → ((s t : ℕ) → s < p → holds rows s t ≡ both (holds full s) (up_to q) t) → Zeroed (p * q) old ranks → After M N 0 rows ranks
begun M N {p} {q} full rows old ranks all u v few_rows few narrowed zeroed =
    begins M N rows ranks (λ s t a. narrowed s t (omega arith) ∙ bounded s t (omega arith) ∙ ap (ltb t) v)
    (λ s t a b.
    ap (λ (n : ℕ). get_or ranks (s * n + t) 0) (sym v) ∙ zeroed.zero_at (s * q + t) (row-place s p q t (omega arith) (omega arith)))
  where
    bounded : (s t : ℕ) → s < most_states → (holds full s t && ltb t q) ≡ ltb t q
    bounded s t a = go (dec_lt t q)
      where
        go : Dec (t < q) → (holds full s t && ltb t q) ≡ ltb t q
        go (yes b) = ap (λ (c : Bool). c && ltb t q) (all.all s t a (omega arith))
        go (no b) = ap (λ (c : Bool). holds full s t && c) (le-ltb t q (omega arith)) ∙ and-false (holds full s t) ∙ sym (le-ltb t q (omega arith))

-- the ranks were cleared first
pub refined_over : {M N : Table} {p q k : ℕ} {old cleared new rows : List ℕ} → p ≡ states_of M → q ≡ states_of N → Zeroed (p * q) old cleared
    → Refined M N cleared new rows k → Refined M N old new rows k
refined_over u v c f =
    record {
      rounds = f.rounds;
      ranks_are = f.ranks_are;
      beyond = λ i a. f.beyond i a ∙ c.left i (omega (arith, ap₂ ◌*◌ u v));
      rows_are = f.rows_are;
      columns = f.columns;
    }

-- ranks and rows that were lent come back
pub returned : {M N : Table} {k : ℕ} {old ranks ranks' rows rows' : List ℕ} → ranks' ≡ ranks → rows' ≡ rows → Refined M N old ranks rows k → Refined M N old ranks' rows' k
returned {M} {N} {k} {old} {ranks} {ranks'} {rows} {rows'} e f r =
    subst (λ (l : List ℕ). Refined M N old l rows' k) (sym e) (subst (λ (l : List ℕ). Refined M N old ranks l k) (sym f) r)

-- few pairs are kept
pub kept-few : (rows : List ℕ) (n : ℕ) {k : ℕ} → n ≤ most_states → k ≡ pairs_of n (holds rows) → k ≤ most_pairs
kept-few rows n a e = omega (arith, pairs-most (holds rows) n)

-- the answer
pub filled : (tables : Tables) (rows : List ℕ) {p k rounds : ℕ} {old new : List ℕ} → states_of (contract_table tables) ≤ most_states
    → pairs (first_table tables) (contract_table tables) ≤ length old → length new ≡ length old → p ≡ states_of (first_table tables) → Refined (first_table tables) (contract_table tables) old new rows rounds → k ≡ pairs_of p (holds rows) → RanksFilled tables old new rows rounds k
filled tables rows {old = old} {new = new} few room same u f e =
    let M = first_table tables in
    let N = contract_table tables in
    record {
      ranks_are = ranks_list M N new old room same f.ranks_are f.beyond;
      rows_are = kept-round M N rows f.rows_are f.columns;
      rounds_are = f.rounds;
      kept_are = e ∙ ap (λ (n : ℕ). pairs_of n (holds rows)) u ∙ kept_are M N rows few f.rows_are f.columns;
    }
