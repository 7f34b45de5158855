-- The lengths of nodes and transitions, from the lengths of pairs.
-- Assumes nothing.
use mathlib.Core.Path.{◌≡◌, refl, sym, ap, ◌∙◌, subst}
use mathlib.Core.Bool.{not}
use mathlib.Core.List.{List, [], ◌∷◌, ◌++◌, append-nil}
use Prim.Native.Nat.{ℕ, ◌+◌, ◌-◌, ◌<◌}
use native.Mathlib.Nat.{lt_of_lt_of_le}
use native.Mathlib.Omega.{arith}
use lib.Dec.{T, eqb, eqb→eq}
use lib.ListN.{length}
use borrow.Author.Tests.{eq-eqb, ne_eqb}
use Rattle.simulation.specs.Sum.{sum, when}
use Rattle.simulation.specs.Table.{Table, states_of}
use Rattle.simulation.specs.Round.{pairs, rank}
use Rattle.simulation.specs.Tree.{States, leaf, tree, own_step, own_steps, own_node, transition_bytes, node_bytes}
use Rattle.simulation.specs.Length.{pair_length}
use Rattle.simulation.specs.Demands.{Sound}
use Rattle.simulation.proofs.Finite.Tests.{and_left, and_right, is_false}
use Rattle.simulation.proofs.Finite.Sums.{sum_pick, members}
use Rattle.simulation.proofs.Simulation.Ranks.{rank_law}
use Rattle.simulation.proofs.Trees.Choice.{RanksUpTo, fallen-root}
use Rattle.simulation.proofs.Trees.OwnTree.{node_fuel}
use Rattle.simulation.proofs.Trees.Length.{node_length}
use Rattle.word.specs.Mask.{without_member, Lowest}
use Rattle.tree.proofs.Bytes.{steps_lowest, no_steps, node_is}

-- ---- the bytes of a pair and of a node

module _ (M N : Table) (sound : Sound M) (s : ℕ) (a : s < states_of M) where
  pub fallen-set : (X : States) → ((t : ℕ) → T (X t) → (t < states_of N) × (0 < rank M N s t)) → RanksUpTo M N (pairs M N) s X
  fallen-set X h = record { state = a; ranks = λ t b x. ((h t x).1, (rank_law M N s t a b).bound) }

  -- the bytes of a node are as many as the lengths of its pairs, and one
  pub node_size : (X : States) → ((t : ℕ) → T (X t) → (t < states_of N) × (0 < rank M N s t))
      → length (node_bytes (own_node M N (pairs M N) s X)) ≡ 1 + sum (states_of N) (λ t. when (X t) (pair_length M N s t))
  node_size X h = node_length M N sound (pairs M N) s X (fallen-set X h)

  -- the node of a pair alone has one transition
  module _ (t : ℕ) (b : t < states_of N) (pos : 0 < rank M N s t) where
    only-inside : (u : ℕ) → T (eqb t u) → (u < states_of N) × (0 < rank M N s u)
    only-inside u x = subst (λ (v : ℕ). (v < states_of N) × (0 < rank M N s v)) (eqb→eq t u x) (b, pos)

    only_step : node_bytes (own_node M N (pairs M N) s (eqb t)) ≡ members (states_of N) (eqb t) ∷ transition_bytes (own_step M N (own_node M N (pairs M N - 1)) s t leaf)
    only_step =
        let sub = own_node M N (pairs M N - 1) in
        let low : Lowest (eqb t) t = record { here = eq-eqb t t refl; before = λ k lt. ne_eqb t k (λ e. absurd (omega arith)) } in
        let others : transition_bytes (own_steps M N sub s (without_member t (eqb t)) 0 (states_of N)) ≡ [] =
        no_steps M N sub s (without_member t (eqb t)) (states_of N) (λ k. is_false (without_member t (eqb t) k) (λ x. out k x)) in
        node_is M N s (eqb t) (pairs M N) (λ u x. lt_of_lt_of_le (only-inside u x).1 (rank_law M N s u a (only-inside u x).0).bound)
        ∙ ap (λ (l : List ℕ). members (states_of N) (eqb t) ∷ l)
        (steps_lowest M N sub s (eqb t) t (states_of N) b low ∙ ap (λ l. transition_bytes (own_step M N sub s t leaf) ++ l) others ∙ append-nil (transition_bytes (own_step M N sub s t leaf)))
      where
        out : (k : ℕ) → T (without_member t (eqb t) k) → ⊥
        out k x =
            let e : t ≡ k = eqb→eq t k (and_left (eqb t k) _ x) in
            subst T (ap not (eq-eqb k t (sym e))) (and_right (eqb t k) _ x)

    -- the bytes of a transition are as many as its pair's length
    pub step-size : length (transition_bytes (own_step M N (own_node M N (pairs M N - 1)) s t leaf)) ≡ pair_length M N s t
    step-size = omega (arith, ap length only_step, node_size (eqb t) only-inside, sum_pick (states_of N) t (pair_length M N s) b)

    -- and those of the pair's tree
    pub tree-parts : node_bytes (tree M N s t) ≡ 1 ∷ transition_bytes (own_step M N (own_node M N (pairs M N - 1)) s t leaf)
    unfolding tree
    tree-parts =
        ap node_bytes (node_fuel M N sound (rank M N s t) (pairs M N) s (eqb t) (fallen-root M N s t a pos) (fallen-set (eqb t) only-inside))
        ∙ only_step
        ∙ ap (λ (k : ℕ). k ∷ transition_bytes (own_step M N (own_node M N (pairs M N - 1)) s t leaf)) (sum_pick (states_of N) t (λ _. 1) b)
