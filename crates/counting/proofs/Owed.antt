-- What is owed for the pairs that still have to be counted: how it changes with a count, and where a transition's count is handed on.
-- Assumes nothing.
use mathlib.Core.Path.{◌≡◌, refl, sym, ap, ap₂, ◌∙◌}
use mathlib.Core.Bool.{Bool, true, false, ◌&&◌}
use mathlib.Core.List.{List}
use Prim.Native.Nat.{ℕ, zero, suc, ◌+◌, ◌*◌, ◌≤◌, ◌<◌}
use native.Mathlib.Nat.{zero-mul, mul-zero, add-mul, mul-add}
use native.Mathlib.Omega.{arith}
use lib.Dec.{eqb}
use lib.ListN.{length, get_or, set}
use lib.Seq.{get_or-set_same, get_or-set_other}
use Rattle.simulation.specs.Sum.{sum, when}
use Rattle.simulation.specs.Table.{Table, states_of}
use Rattle.simulation.specs.Round.{pairs}
use Rattle.simulation.specs.Length.{pair_length}
use Rattle.simulation.proofs.Finite.Sums.{sum_ext, sum-zero, sum_add, sum_mul, sum_change, sum_pick}
use Rattle.word.specs.Mask.{Test, member}
use Rattle.relation.specs.Rows.{row_of}
use Rattle.counting.proofs.Pairs.{same_pair, place-below}
use Rattle.counting.specs.Count.{owed, child}

-- ---- sums of sums

abbrev grid : (m n : ℕ) → (ℕ → ℕ → ℕ) → ℕ
grid m n f = sum m (λ u. sum n (f u))

grid_zero : (m n : ℕ) (f : ℕ → ℕ → ℕ) → ((u v : ℕ) → u < m → v < n → f u v ≡ 0) → grid m n f ≡ 0
grid_zero m n f h = sum_ext m _ (λ u. 0) (λ u a. sum_ext n (f u) (λ v. 0) (λ v b. h u v a b) ∙ sum-zero n) ∙ sum-zero m

grid_add : (m n : ℕ) (f g : ℕ → ℕ → ℕ) → grid m n (λ u v. f u v + g u v) ≡ grid m n f + grid m n g
grid_add m n f g = sum_ext m _ (λ u. sum n (f u) + sum n (g u)) (λ u _. sum_add n (f u) (g u)) ∙ sum_add m (λ u. sum n (f u)) (λ u. sum n (g u))

-- two that differ at one place at most
grid_change : (m n : ℕ) (f g : ℕ → ℕ → ℕ) (s t : ℕ) → s < m → t < n → ((u v : ℕ) → v < n → ((u ≡ s) × (v ≡ t) → ⊥) → f u v ≡ g u v) → grid m n f + g s t ≡ grid m n g + f s t
grid_change m n f g s t a b h =
    omega (
      arith,
      sum_change m (λ u. sum n (f u)) (λ u. sum n (g u)) s a (λ u _ d. sum_ext n (f u) (g u) (λ v k. h u v k (λ e. d e.0))),
      sum_change n (f s) (g s) t b (λ v k d. h s v k (λ e. d e.1)),
    )

-- the members of a set in one row, c times each
grid_row : (m n : ℕ) (len : ℕ → ℕ → ℕ) (s c : ℕ) (X : Test) → s < m
    → grid m n (λ u v. when (eqb s u && X v) c * len u v) ≡ c * sum n (λ v. when (X v) (len s v))
grid_row m n len s c X a = sum_ext m _ _ (λ u _. row (eqb s u) (len u)) ∙ sum_pick m s (λ u. c * sum n (λ v. when (X v) (len u v))) a
  where
    one : (b : Bool) (k : ℕ) → when b c * k ≡ c * when b k
    one true k = refl
    one false k = zero-mul k ∙ sym (mul-zero c)

    row : (b : Bool) (f : ℕ → ℕ) → sum n (λ v. when (b && X v) c * f v) ≡ when b (c * sum n (λ v. when (X v) (f v)))
    row true f = sum_ext n _ _ (λ v _. one (X v) (f v)) ∙ sum_mul n c (λ v. when (X v) (f v))
    row false f = sum_ext n _ (λ v. 0) (λ v _. zero-mul (f v)) ∙ sum-zero n

-- the pairs of targets and members of their sets, c times each
module _ (m width : ℕ) (len : ℕ → ℕ → ℕ) (targets sets : List ℕ) (c : ℕ) where
  grid_children : (n : ℕ) → ((i : ℕ) → i < n → get_or targets i 0 < m)
      → grid m width (λ u v. sum n (λ i. when (child targets sets u v i) c) * len u v)
      ≡ c * sum n (λ i. sum width (λ v. when (member (row_of sets i) v) (len (get_or targets i 0) v)))
  unfolding sum
  grid_children zero h = grid_zero m width (λ u v. 0 * len u v) (λ u v _ _. zero-mul (len u v)) ∙ sym (mul-zero c)
  grid_children (suc n) h =
      let here : ℕ → ℕ → ℕ = λ u v. when (child targets sets u v n) c in
      let rest : ℕ → ℕ → ℕ = λ u v. sum n (λ i. when (child targets sets u v i) c) in
      sum_ext m _ _ (λ u _. sum_ext width _ _ (λ v _. add-mul (here u v) (rest u v) (len u v)))
      ∙ grid_add m width (λ u v. here u v * len u v) (λ u v. rest u v * len u v)
      ∙ ap₂ ◌+◌ (grid_row m width len (get_or targets n 0) c (member (row_of sets n)) (h n (omega arith))) (grid_children n (λ i l. h i (omega arith)))
      ∙ sym (mul-add c (sum width (λ v. when (member (row_of sets n) v) (len (get_or targets n 0) v))) _)

-- ---- what is owed

module _ (M N : Table) where
  -- nothing, where nothing has to be counted
  pub owed_none : (counts : List ℕ) → ((s t : ℕ) → s < states_of M → t < states_of N → get_or counts (s * states_of N + t) 0 ≡ 0) → owed M N counts ≡ 0
  unfolding owed
  owed_none counts h =
      grid_zero (states_of M) (states_of N) _ (λ s t a b. ap (λ (k : ℕ). k * pair_length M N s t) (h s t a b) ∙ zero-mul (pair_length M N s t))

  -- a count is changed
  module _ (counts : List ℕ) (s t c : ℕ) (a : s < states_of M) (b : t < states_of N) (room : pairs M N ≤ length counts) where
    pub owed-set : owed M N (set counts (s * states_of N + t) c) + get_or counts (s * states_of N + t) 0 * pair_length M N s t
        ≡ owed M N counts + c * pair_length M N s t
    unfolding owed
    owed-set =
        let k = s * states_of N + t in
        grid_change (states_of M) (states_of N)
        (λ u v. get_or (set counts k c) (u * states_of N + v) 0 * pair_length M N u v)
        (λ u v. get_or counts (u * states_of N + v) 0 * pair_length M N u v)
        s t a b
        (λ u v l d. ap (λ (n : ℕ). n * pair_length M N u v)
        (get_or-set_other counts k (u * states_of N + v) c 0 (λ e. d (same_pair u v s t (states_of N) l b e))))
        ∙ ap (λ (n : ℕ). owed M N counts + n * pair_length M N s t) (get_or-set_same counts k c 0 (omega (arith, place-below s t (states_of M) (states_of N) a b)))

  -- the pairs of targets and members of their sets have to be counted c times more
  module _ (targets sets : List ℕ) (c n : ℕ) (counts counts' : List ℕ) where
    pub owed_children : ((i : ℕ) → i < n → get_or targets i 0 < states_of M)
        → ((u v : ℕ) → v < states_of N → get_or counts' (u * states_of N + v) 0 ≡ get_or counts (u * states_of N + v) 0 + sum n (λ i. when (child targets sets u v i) c))
        → owed M N counts' ≡ owed M N counts + c * sum n (λ i. sum (states_of N) (λ v. when (member (row_of sets i) v) (pair_length M N (get_or targets i 0) v)))
    unfolding owed
    owed_children low h =
        let len : ℕ → ℕ → ℕ = pair_length M N in
        let old : ℕ → ℕ → ℕ = λ u v. get_or counts (u * states_of N + v) 0 in
        let more : ℕ → ℕ → ℕ = λ u v. sum n (λ i. when (child targets sets u v i) c) in
        sum_ext (states_of M) _ _ (λ u _. sum_ext (states_of N) _ _ (λ v l. ap (λ (k : ℕ). k * len u v) (h u v l) ∙ add-mul (old u v) (more u v) (len u v)))
        ∙ grid_add (states_of M) (states_of N) (λ u v. old u v * len u v) (λ u v. more u v * len u v)
        ∙ ap (λ (k : ℕ). grid (states_of M) (states_of N) (λ u v. old u v * len u v) + k) (grid_children (states_of M) (states_of N) len targets sets c n low)
