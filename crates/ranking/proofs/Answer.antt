-- What the rows and the ranks say at the end: the list of ranks, and the count of kept pairs.
-- Assumes nothing.
use mathlib.Core.Path.{◌≡◌, sym, ap, ◌∙◌}
use mathlib.Core.Bool.{Bool, false}
use mathlib.Core.List.{List}
use Prim.Native.Nat.{ℕ, zero, suc, ◌+◌, ◌*◌, ◌-◌, ◌/◌, ◌%◌, ◌≤◌, ◌<◌}
use native.Mathlib.Nat.{div-add-mod', div-lt_iff_lt-mul, mod-lt, zero-add, suc-add, mul-zero}
use native.Mathlib.Omega.{arith}
use native.Mathlib.Decide.{dec_lt}
use lib.Dec.{eqb}
use lib.ListN.{length, get_or, drop, length-append, length-drop, get_or-append}
use lib.Seq.{ext_get_or, get_or-append-add, get_or-drop}
use Rattle.simulation.specs.Limits.{most_states}
use Rattle.word.specs.Mask.{size}
use Rattle.simulation.specs.Sum.{sum, when}
use Rattle.simulation.specs.Table.{Table, states_of}
use Rattle.simulation.specs.Round.{related, round, pairs, rank, rank_list, zeros}
use Rattle.simulation.proofs.Finite.Sums.{sum_ext, members}
use Rattle.simulation.proofs.Finite.Tests.{is_false}
use Rattle.simulation.proofs.Simulation.Rounds.{in_right}
use Rattle.simulation.proofs.Simulation.Ranks.{rank_law}
use Rattle.simulation.proofs.Simulation.RankList.{rank_list-length, rank_list-at, kept-count}
use Rattle.buffer.specs.Buffer.{over}
use Rattle.relation.specs.Related.{holds, pairs_of}
use Rattle.decision.specs.Fitting.{held}
use Rattle.rounds.proofs.RoundLaws.{held-round, kept_at}

-- a place of a list of p rows of q numbers is a row and a column
pub pair_at : (p q i : ℕ) → i < p * q → (s : ℕ) × (t : ℕ) × (s < p) × (t < q) × (i ≡ s * q + t)
pair_at p zero i h = absurd (omega (arith, mul-zero p))
pair_at p (suc q) i h = (i / suc q, i % suc q, (div-lt_iff_lt-mul {k = suc q} (omega arith)).1 h, mod-lt i (omega arith), sym (div-add-mod' i (suc q)))

-- the ranks in their places, and what stands after them
module _ (M N : Table) (ranks old : List ℕ) (room : pairs M N ≤ length old) (same : length ranks ≡ length old) where
  pub ranks_list : ((s t : ℕ) → s < states_of M → t < states_of N → get_or ranks (s * states_of N + t) 0 ≡ rank M N s t)
      → ((i : ℕ) → pairs M N ≤ i → get_or ranks i 0 ≡ get_or old i 0) → ranks ≡ over (rank_list M N) old
  ranks_list f g = ext_get_or 0 ranks (over (rank_list M N) old) sized (λ i _. go i (dec_lt i (pairs M N)))
    where
      L : List ℕ
      L = rank_list M N

      sized : length ranks ≡ length (over (rank_list M N) old)
      sized = omega (arith, length-append (rank_list M N) (drop (length (rank_list M N)) old), length-drop (length (rank_list M N)) old, rank_list-length M N)

      at : (i s t : ℕ) → s < states_of M → t < states_of N → i ≡ s * states_of N + t → i < pairs M N → get_or ranks i 0 ≡ get_or (over (rank_list M N) old) i 0
      at i s t a b e h =
          ap (λ (j : ℕ). get_or ranks j 0) e
          ∙ f s t a b
          ∙ sym (rank_list-at M N s t a b)
          ∙ ap (λ (j : ℕ). get_or (rank_list M N) j 0) (sym e)
          ∙ sym (get_or-append (rank_list M N) (drop (length (rank_list M N)) old) 0 i (omega (arith, rank_list-length M N)))

      go : (i : ℕ) → Dec (i < pairs M N) → get_or ranks i 0 ≡ get_or (over (rank_list M N) old) i 0
      go i (yes h) = let x = pair_at (states_of M) (states_of N) i h in at i x.0 x.1 x.2 x.3 x.4 h
      go i (no h) =
          let n = length (rank_list M N) in
          let e : n + (i - n) ≡ i = omega (arith, rank_list-length M N) in
          g i (omega arith)
          ∙ ap (λ (j : ℕ). get_or old j 0) (sym e)
          ∙ sym (get_or-drop n old (i - n) 0)
          ∙ sym (get_or-append-add (rank_list M N) (drop n old) (i - n) 0)
          ∙ ap (λ (j : ℕ). get_or (over (rank_list M N) old) j 0) e

-- a set within q has its members there
pub members_within : (d q : ℕ) (X : ℕ → Bool) → ((t : ℕ) → q ≤ t → X t ≡ false) → members (d + q) X ≡ members q X
unfolding sum
members_within zero q X h = ap (λ (n : ℕ). members n X) (zero-add q)
members_within (suc d) q X h =
    ap (λ (n : ℕ). members n X) (suc-add d q)
    ∙ ap (λ (b : Bool). when b 1 + members (d + q) X) (h (d + q) (omega arith))
    ∙ zero-add (members (d + q) X)
    ∙ members_within d q X h

pub size-within : (w q : ℕ) (X : ℕ → Bool) → q ≤ w → ((t : ℕ) → q ≤ t → X t ≡ false) → size w X ≡ members q X
size-within w q X l h =
    ap (λ (n : ℕ). members n X) (let e : w ≡ w - q + q = omega arith in e) ∙ members_within (w - q) q X h

-- the kept pairs are the members of the rows
pub kept_are : (M N : Table) (rows : List ℕ) → states_of N ≤ most_states
    → ((s t : ℕ) → s < states_of M → t < states_of N → holds rows s t ≡ eqb (rank M N s t) 0)
    → ((s t : ℕ) → s < states_of M → states_of N ≤ t → holds rows s t ≡ false)
    → pairs_of (states_of M) (holds rows) ≡ zeros (rank_list M N)
kept_are M N rows l f g =
    sum_ext (states_of M) (λ s. size most_states (holds rows s)) (λ s. members (states_of N) (λ t. eqb (rank M N s t) 0))
    (λ s a.
    size-within most_states (states_of N) (holds rows s) l (λ t b. g s t a b)
    ∙ sum_ext (states_of N) (λ t. when (holds rows s t) 1) (λ t. when (eqb (rank M N s t) 0) 1) (λ t b. ap (λ (c : Bool). when c 1) (f s t a b)))
    ∙ sym (kept-count M N)

-- the rows hold the last round
pub kept-round : (M N : Table) (rows : List ℕ) → ((s t : ℕ) → s < states_of M → t < states_of N → holds rows s t ≡ eqb (rank M N s t) 0)
    → ((s t : ℕ) → s < states_of M → states_of N ≤ t → holds rows s t ≡ false) → held M N rows ≡ round M N (pairs M N)
kept-round M N rows f g = held-round M N (pairs M N) rows (λ s t a. go s t a (dec_lt t (states_of N)))
  where
    go : (s t : ℕ) → s < states_of M → Dec (t < states_of N) → holds rows s t ≡ related (round M N (pairs M N)) s t
    go s t a (yes b) = f s t a b ∙ sym (kept_at M N (pairs M N) s t a b (rank_law M N s t a b).bound)
    go s t a (no b) = g s t a (omega arith) ∙ sym (is_false (related (round M N (pairs M N)) s t) (λ h. b (in_right M N (pairs M N) s t h)))
