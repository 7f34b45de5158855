-- Rows one by one, and what they are of a round.
-- Assumes nothing.
use mathlib.Core.Path.{◌≡◌, refl, sym, ◌∙◌, ap}
use mathlib.Core.Bool.{◌&&◌}
use mathlib.Core.List.{List}
use mathlib.Core.Logic.{inl, inr, ⊎_elim}
use Prim.Native.Nat.{ℕ, suc, ◌+◌, ◌*◌, ◌<◌, ◌≤◌}
use native.Mathlib.Nat.{not-suc-le-zero, suc-mul, mul-le-mul_right}
use native.Mathlib.Decide.{ℕ_discrete}
use native.Mathlib.Omega.{arith}
use lib.Dec.{eqb, leb, eqb→eq, leb→le, le→leb}
use borrow.Author.Tests.{lt-ltb}
use lib.ListN.{length, get_or}
use Rattle.simulation.specs.Table.{Table, states_of}
use Rattle.simulation.specs.Round.{related, round, rank, pairs}
use Rattle.simulation.proofs.Finite.Tests.{same_test, or_left, or_right, or_cases, same_eqb}
use Rattle.simulation.proofs.Simulation.Ranks.{rank_law}
use Rattle.word.specs.Mask.{member, part}
use Rattle.set.specs.Words.{mask}
use Rattle.relation.specs.Rows.{row_of, height, put_row}
use Rattle.set.specs.declared.Set.{Set}
use Rattle.relation.proofs.RowLaws.{length_put, row_put, row_put_other}
use Rattle.relation.specs.Ranks.{lasts}
use Rattle.relate.specs.Rows.{ranked_row, Indexed, Rows}

-- a loop that writes the rows
module _ (ranks : List ℕ) (width r : ℕ) (mt nt rel : List ℕ) where
  -- the rows of the first n targets are written
  pub record Done (n : ℕ) (rel' : List ℕ) : Type 0 where
    pub size : length rel' ≡ length rel
    pub masks : (i : ℕ) → i < n → member (row_of rel' i) ≡ part (length nt) (ranked_row ranks width r (get_or mt i 0) nt)
    pub rest : (i : ℕ) → n ≤ i → row_of rel' i ≡ row_of rel i

  pub done-start : Done 0 rel
  done-start = record { size = refl; masks = λ i lt. absurd (not-suc-le-zero lt); rest = λ i _. refl }

  pub done_next : (n : ℕ) (x : Set) (rel' : List ℕ) → n < height rel → Done n rel'
      → member (mask x) ≡ part (length nt) (ranked_row ranks width r (get_or mt n 0) nt) → Done (n + 1) (put_row rel' n x)
  done_next n x rel' room d e = record {
    size = length_put rel' n x ∙ d.size;
    masks = λ i lt. at i lt (ℕ_discrete i n);
    rest = λ i le. row_put_other rel' n i x (λ q. omega arith) ∙ d.rest i (omega arith);
  }
    where
      at : (i : ℕ) → i < n + 1 → Dec (i ≡ n) → member (row_of (put_row rel' n x) i) ≡ part (length nt) (ranked_row ranks width r (get_or mt i 0) nt)
      at i lt (yes q) =
          ap (λ (k : ℕ). member (row_of (put_row rel' n x) k)) q ∙ ap member (row_put rel' n x (omega (arith, d.size))) ∙ e
          ∙ ap (λ (k : ℕ). part (length nt) (ranked_row ranks width r (get_or mt k 0) nt)) (sym q)
      at i lt (no q) = ap member (row_put_other rel' n i x q) ∙ d.masks i (omega arith)

  pub done-rows : (rel' : List ℕ) → Done (length mt) rel' → Rows ranks width r mt nt rel rel'
  done-rows rel' d = record { size = d.size; masks = d.masks; rest = d.rest }

-- what the test says of the rounds
module _ (M N : Table) (s t : ℕ) (a : s < states_of M) (b : t < states_of N) where
  pub lasts-round : (r : ℕ) → lasts (suc r) (rank M N s t) ≡ related (round M N r) s t
  lasts-round r = same_test (lasts (suc r) (rank M N s t)) (related (round M N r) s t)
      (λ x. ((rank_law M N s t a b).within r).1 (⊎_elim (λ z. inl (eqb→eq (rank M N s t) 0 z)) (λ l. inr (leb→le (suc r) (rank M N s t) l)) (or_cases (eqb (rank M N s t) 0) (leb (suc r) (rank M N s t)) x)))
      (λ x. ⊎_elim
      (λ z. or_left (eqb (rank M N s t) 0) (leb (suc r) (rank M N s t)) (same_eqb z))
      (λ l. or_right (eqb (rank M N s t) 0) (leb (suc r) (rank M N s t)) (le→leb (suc r) (rank M N s t) l))
      (((rank_law M N s t a b).within r).0 x))

-- the rows of targets that are states, out of the ranks of two tables
module _ (M N : Table) (ranks : List ℕ) (right : (s t : ℕ) → s < states_of M → t < states_of N → get_or ranks (s * states_of N + t) 0 ≡ rank M N s t) where
  pub indexed : pairs M N ≤ length ranks → (s : ℕ) (nt : List ℕ) → s < states_of M → ((j : ℕ) → j < length nt → get_or nt j 0 < states_of N)
      → Indexed ranks (states_of N) s nt
  indexed room s nt a b j lt =
      let row : suc s * states_of N ≤ states_of M * states_of N = mul-le-mul_right (states_of N) a in
      omega (arith, row, suc-mul s (states_of N), b j lt)

  module _ (mt nt rel rel' : List ℕ) (a : (i : ℕ) → i < length mt → get_or mt i 0 < states_of M) (b : (j : ℕ) → j < length nt → get_or nt j 0 < states_of N) where
    row_test : (r : ℕ) → Rows ranks (states_of N) r mt nt rel rel' → (i j : ℕ) → i < length mt → j < length nt
        → member (row_of rel' i) j ≡ lasts r (rank M N (get_or mt i 0) (get_or nt j 0))
    row_test r w i j li lj =
        ap (λ X. X j) (w.masks i li) ∙ ap (λ c. c && ranked_row ranks (states_of N) r (get_or mt i 0) nt j) (lt-ltb j (length nt) lj)
        ∙ ap (lasts r) (right (get_or mt i 0) (get_or nt j 0) (a i li) (b j lj))

    pub rows-round : (r : ℕ) → Rows ranks (states_of N) (suc r) mt nt rel rel' → (i j : ℕ) → i < length mt → j < length nt
        → member (row_of rel' i) j ≡ related (round M N r) (get_or mt i 0) (get_or nt j 0)
    rows-round r w i j li lj = row_test (suc r) w i j li lj ∙ lasts-round M N (get_or mt i 0) (get_or nt j 0) (a i li) (b j lj) r
