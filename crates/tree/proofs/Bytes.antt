-- The bytes of a node and of a transition, in the order in which they are written.
-- For any two tables and any fuel.
-- Assumes nothing.
use mathlib.Core.Path.{◌≡◌, refl, sym, ap, ap₂, ◌∙◌, subst}
use mathlib.Core.Bool.{Bool, true, false, not, ◌&&◌, and-true, and-false}
use mathlib.Core.List.{List, [], ◌∷◌, ◌++◌, map, append-nil}
use Prim.Native.Nat.{ℕ, zero, suc, ◌+◌, ◌-◌, ◌/◌, ◌%◌, ◌^◌, ◌≤◌, ◌<◌}
use native.Mathlib.Nat.{le_refl, lt_irrefl}
use native.Mathlib.Decide.{ℕ_discrete}
use native.Mathlib.Omega.{arith}
use lib.Dec.{T, eqb}
use lib.ListN.{length, get_or, drop, length-map, drop_of_length-le, get_or-map}
use lib.Seq.{drop-cons}
use native.Mathlib.Numerals.{add-one}
use borrow.Author.Tests.{eq-eqb, ne_eqb}
use Rattle.std.specs.Int.{w16, to_le_bytes}
use Rattle.simulation.specs.Limits.{most_states}
use Rattle.simulation.specs.Sum.{sum, when}
use Rattle.simulation.specs.Table.{Entry, Table, states_of}
use Rattle.simulation.specs.Tree.{Tree, leaf, step, count, child_weights, transition_bytes, child_bytes, node_bytes, States, chosen, set_of, own_children, own_step, own_steps, own_node}
use Rattle.simulation.proofs.Finite.Sums.{sum_ext, sum-zero, members}
use Rattle.simulation.proofs.Finite.Tests.{is_false}
use Rattle.simulation.proofs.Trees.Nodes.{kids, kids_weights, steps_in, steps-out, node_count, targets_of}
use Rattle.word.specs.Mask.{Lowest, without_member}
use Rattle.tree.specs.Begin.{transition_head, head_bytes, entry_bytes}

-- a number below 2 ^ 16, low byte first
pub low_and_high : {n : ℕ} {bs : List ℕ} → bs ≡ to_le_bytes w16 n → n < 2 ^ 16 → (get_or bs 0 0 ≡ n % 256) × (get_or bs 1 0 ≡ n / 256)
low_and_high e small = (ap (λ (l : List ℕ). get_or l 0 0) e, ap (λ (l : List ℕ). get_or l 1 0) e ∙ omega arith)

abbrev pub weights_of : List Entry → ℕ → ℕ
weights_of es i = get_or (map (λ (e : Entry). e.weight) es) i 0

-- a sum ends where its terms do
sum-ends : (n m : ℕ) (f : ℕ → ℕ) → n ≤ m → ((k : ℕ) → n ≤ k → f k ≡ 0) → sum m f ≡ sum n f
unfolding sum
sum-ends n zero f le h = let e : 0 ≡ n = omega arith in ap (λ (k : ℕ). sum k f) e
sum-ends n (suc m) f le h = at (ℕ_discrete n (suc m)) (λ le'. sum-ends n m f le' h)
  where
    at : Dec (n ≡ suc m) → (n ≤ m → sum m f ≡ sum n f) → f m + sum m f ≡ sum n f
    at (yes e) ih = ap (λ (k : ℕ). sum k f) (sym e)
    at (no ne) ih = omega (arith, ne, h m (omega (arith, ne)), ih (omega (arith, ne)))

-- the members of a set of numbers below n, counted among all states
pub members_all : (n : ℕ) (X : States) → n ≤ most_states → ((t : ℕ) → T (X t) → t < n) → members most_states X ≡ members n X
members_all n X le h = sum-ends n most_states (λ k. when (X k) 1) le (λ k out. none_past (X k) (λ x. lt_irrefl k (let l = h k x in omega arith)))
  where
    none_past : (b : Bool) → (T b → ⊥) → when b 1 ≡ 0
    none_past true f = absurd (f tt)
    none_past false f = refl

-- a test at a place, by its outcome
by_test : (b : Bool) (P : Type 0) → (b ≡ true → P) → (b ≡ false → P) → P
by_test true P f g = f refl
by_test false P f g = g refl

module _ (M N : Table) (sub : ℕ → States → Tree) (s : ℕ) where
  abbrev before : ℕ → Tree → Tree
  before t τ = step (chosen M N s t).code (kids M N sub s t) τ

  -- the sets matter from t on
  steps_agree : (X Y : States) (t left : ℕ) → ((k : ℕ) → t ≤ k → X k ≡ Y k) → own_steps M N sub s X t left ≡ own_steps M N sub s Y t left
  unfolding own_steps
  steps_agree X Y t zero h = refl
  steps_agree X Y t (suc left) h =
      let ih = steps_agree X Y (suc t) left (λ k le. h k (omega arith)) in
      by_test (X t) (own_steps M N sub s X t (suc left) ≡ own_steps M N sub s Y t (suc left))
      (λ e. steps_in M N sub s X t left e ∙ ap (before t) ih ∙ sym (steps_in M N sub s Y t left (sym (h t (le_refl t)) ∙ e)))
      (λ e. steps-out M N sub s X t left e ∙ ih ∙ sym (steps-out M N sub s Y t left (sym (h t (le_refl t)) ∙ e)))

  -- the lowest member's transition comes first
  lowest_first : (X : States) (t u left : ℕ) → Lowest X t → u ≤ t → t < u + left
      → own_steps M N sub s X u left ≡ before t (own_steps M N sub s (without_member t X) u left)
  lowest_first X t u zero l le lt = absurd (omega arith)
  lowest_first X t u (suc left) l le lt = at (ℕ_discrete u t) (λ le'. lowest_first X t (suc u) left l le' (omega arith))
    where
      at : Dec (u ≡ t) → (suc u ≤ t → own_steps M N sub s X (suc u) left ≡ before t (own_steps M N sub s (without_member t X) (suc u) left))
          → own_steps M N sub s X u (suc left) ≡ before t (own_steps M N sub s (without_member t X) u (suc left))
      at (yes e) ih =
          let here : X u ≡ true = ap X e ∙ l.here in
          let gone : without_member t X u ≡ false = ap (λ b. X u && not b) (eq-eqb u t e) ∙ and-false (X u) in
          steps_in M N sub s X u left here
          ∙ ap (λ k. before k (own_steps M N sub s X (suc u) left)) e
          ∙ ap (before t) (steps_agree X (without_member t X) (suc u) left
          (λ k le'. sym (and-true (X k)) ∙ ap (λ b. X k && not b) (sym (ne_eqb k t (λ p. lt_irrefl u (subst (λ (n : ℕ). suc u ≤ n) (p ∙ sym e) le'))))))
          ∙ ap (before t) (sym (steps-out M N sub s (without_member t X) u left gone))
      at (no ne) ih =
          let below : u < t = omega (arith, ne) in
          let out : X u ≡ false = l.before u below in
          steps-out M N sub s X u left out ∙ ih below ∙ ap (before t) (sym (steps-out M N sub s (without_member t X) u left (ap (λ b. b && not (eqb u t)) out)))

  steps-none : (X : States) (t left : ℕ) → ((k : ℕ) → X k ≡ false) → own_steps M N sub s X t left ≡ leaf
  unfolding own_steps
  steps-none X t zero h = refl
  steps-none X t (suc left) h = steps-out M N sub s X t left (h t) ∙ steps-none X (suc t) left h

  -- the bytes of a transition, then those of the transitions after it
  step-first : (t : ℕ) (τ : Tree) → transition_bytes (before t τ) ≡ transition_bytes (own_step M N sub s t leaf) ++ transition_bytes τ
  unfolding own_step transition_bytes
  step-first t τ =
      ap (λ l. transition_head (chosen M N s t).code (length (child_weights (kids M N sub s t))) ++ (l ++ transition_bytes τ))
      (sym (append-nil (child_bytes (kids M N sub s t))))

  -- the bytes of the transitions of a set: those of its lowest member's, then those of the others'
  pub steps_lowest : (X : States) (t n : ℕ) → t < n → Lowest X t
      → transition_bytes (own_steps M N sub s X 0 n) ≡ transition_bytes (own_step M N sub s t leaf) ++ transition_bytes (own_steps M N sub s (without_member t X) 0 n)
  steps_lowest X t n lt l =
      ap transition_bytes (lowest_first X t 0 n l (omega arith) (omega arith)) ∙ step-first t (own_steps M N sub s (without_member t X) 0 n)

  pub no_steps : (X : States) (n : ℕ) → ((k : ℕ) → X k ≡ false) → transition_bytes (own_steps M N sub s X 0 n) ≡ []
  unfolding transition_bytes
  no_steps X n h = ap transition_bytes (steps-none X 0 n h)

-- children by place
module _ (sub : ℕ → States → Tree) (X : ℕ → States) where
  -- those from place i on
  abbrev pub children_from : ℕ → List Entry → List ℕ
  children_from i es = child_bytes (own_children sub X i (drop i es))

  child-first : (i : ℕ) (e : Entry) (es : List Entry) → child_bytes (own_children sub X i (e ∷ es))
      ≡ entry_bytes e.target e.weight ++ (node_bytes (sub e.target (X i)) ++ child_bytes (own_children sub X (suc i) es))
  unfolding child_bytes own_children node_bytes
  child-first i e es = refl

  -- a child's entry and node, then the children after it
  pub child-at : (i : ℕ) (es : List Entry) → i < length es
      → children_from i es ≡ entry_bytes (targets_of es i) (weights_of es i) ++ (node_bytes (sub (targets_of es i) (X i)) ++ children_from (i + 1) es)
  child-at i es h =
      let d : Entry = record { target = 0; weight = 0 } in
      let e = get_or es i d in
      ap (λ (l : List Entry). child_bytes (own_children sub X i l)) (drop-cons es i d h)
      ∙ child-first i e (drop (suc i) es)
      ∙ ap₂ (λ (u w : ℕ). entry_bytes u w ++ (node_bytes (sub u (X i)) ++ children_from (suc i) es)) (sym (get_or-map (λ (e : Entry). e.target) es i d)) (sym (get_or-map (λ (e : Entry). e.weight) es i d))
      ∙ ap (λ (k : ℕ). entry_bytes (targets_of es i) (weights_of es i) ++ (node_bytes (sub (targets_of es i) (X i)) ++ children_from k es)) (sym (add-one i))

  pub no_children : (i : ℕ) (es : List Entry) → length es ≤ i → children_from i es ≡ []
  unfolding child_bytes own_children
  no_children i es h = ap (λ (l : List Entry). child_bytes (own_children sub X i l)) (drop_of_length-le es h)

module _ (M N : Table) (sub : ℕ → States → Tree) (s t : ℕ) where
  kids_length : length (child_weights (kids M N sub s t)) ≡ length (chosen M N s t).entries
  kids_length = ap length (kids_weights M N sub s t) ∙ length-map (chosen M N s t).entries (λ (e : Entry). e.weight)

  -- the bytes of a transition: its head and its children
  pub step_is : transition_bytes (own_step M N sub s t leaf)
      ≡ head_bytes (chosen M N s t) ++ children_from sub (set_of M N s t) 0 (chosen M N s t).entries
  unfolding own_step transition_bytes
  step_is =
      ap₂ (λ (w : ℕ) (l : List ℕ). transition_head (chosen M N s t).code w ++ l) kids_length (append-nil (child_bytes (kids M N sub s t)))

module _ (M N : Table) (s : ℕ) (X : States) where
  -- the transitions of a node's set
  abbrev pub steps-bytes : ℕ → List ℕ
  steps-bytes fuel = transition_bytes (own_steps M N (own_node M N (fuel - 1)) s X 0 (states_of N))

  node_suc : (f : ℕ) → node_bytes (own_node M N (suc f) s X) ≡ members (states_of N) X ∷ transition_bytes (own_steps M N (own_node M N f) s X 0 (states_of N))
  unfolding own_node node_bytes
  node_suc f = ap (λ (k : ℕ). k ∷ transition_bytes (own_steps M N (own_node M N f) s X 0 (states_of N))) (node_count M N f s X)

  node_none : ((t : ℕ) → X t ≡ false) → node_bytes (own_node M N 0 s X) ≡ members (states_of N) X ∷ steps-bytes 0
  unfolding own_node node_bytes transition_bytes count
  node_none out =
      sym (ap₂ (λ (k : ℕ) (l : List ℕ). k ∷ l)
      (sum_ext (states_of N) (λ t. when (X t) 1) (λ t. 0) (λ t _. ap (λ (b : Bool). when b 1) (out t)) ∙ sum-zero (states_of N))
      (no_steps M N (own_node M N (0 - 1)) s X (states_of N) out))

  -- the bytes of a node: the number of its members, and their transitions; without fuel there is no member
  pub node_is : (fuel : ℕ) → ((t : ℕ) → T (X t) → 0 < fuel) → node_bytes (own_node M N fuel s X) ≡ members (states_of N) X ∷ steps-bytes fuel
  node_is zero h = node_none (λ t. is_false (X t) (λ x. lt_irrefl 0 (h t x)))
  node_is (suc f) h =
      subst (λ (k : ℕ). node_bytes (own_node M N (suc f) s X) ≡ members (states_of N) X ∷ transition_bytes (own_steps M N (own_node M N k) s X 0 (states_of N))) (omega arith) (node_suc f)
