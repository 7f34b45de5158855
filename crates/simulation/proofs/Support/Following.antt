-- Following: an entry of weight 0 is no target of the table, for any tree.
-- Assumes nothing.
use mathlib.Core.Path.{sym, ◌∙◌, ap, subst}
use mathlib.Core.List.{List}
use mathlib.Core.Logic.{◌↔◌}
use Prim.Native.Nat.{ℕ, zero, suc}
use native.Mathlib.Omega.{arith}
use Rattle.simulation.specs.Fit.{Fits}
use Rattle.simulation.specs.Table.{Transition, Table, weights, target_at, transition}
use Rattle.simulation.specs.Support.{support_step, supported}
use Rattle.simulation.specs.Tree.{Tree, leaf, step, Children, none, child, child_weights, Follows, FollowsAt}
use Rattle.simulation.proofs.Fit.Compose.{Fits_mono}
use Rattle.simulation.proofs.Trees.Following.{Followed}
use Rattle.simulation.proofs.Support.Weights.{place}
use Rattle.simulation.proofs.Support.Shares.{columns-drop, columns_add}
use Rattle.simulation.proofs.Support.Entries.{support_step-code, support_step-weights, support_step-target}
use Rattle.simulation.proofs.Support.Tables.{supported-length, supported-transition}

-- a tree's transition, of weights ws, fits n exactly if it fits n without those entries
module _ (Q : ℕ → ℕ → Type 0) (ws : List ℕ) (n : Transition) where
  Fits-drop : Fits (λ i j. Q i (target_at n j)) ws (weights n) → Fits (λ i j. Q i (target_at (support_step n) j)) ws (weights (support_step n))
  Fits-drop f =
      Fits_mono (λ i j. Q i (target_at n (place (weights n) j))) (λ i j. Q i (target_at (support_step n) j)) ws (weights (support_step n)) (λ i j _ b q. subst (Q i) (sym (support_step-target n j b)) q)
      (subst (λ (vs : List ℕ). Fits (λ i j. Q i (target_at n (place (weights n) j))) ws vs) (sym (support_step-weights n))
      (record { amount = _; shares = columns-drop (λ i j. Q i (target_at n j)) ws (weights n) f.amount f.shares }))

  Fits_add : Fits (λ i j. Q i (target_at (support_step n) j)) ws (weights (support_step n)) → Fits (λ i j. Q i (target_at n j)) ws (weights n)
  Fits_add f =
      let g =
      subst (λ (vs : List ℕ). Fits (λ i j. Q i (target_at n (place (weights n) j))) ws vs) (support_step-weights n)
      (Fits_mono (λ i j. Q i (target_at (support_step n) j)) (λ i j. Q i (target_at n (place (weights n) j))) ws (weights (support_step n)) (λ i j _ b q. subst (Q i) (support_step-target n j b) q) f) in
      record { amount = _; shares = columns_add (λ i j. Q i (target_at n j)) ws (weights n) g.amount g.shares }

module _ (N : Table) where
  module _ (a : ℕ) (ch : Children) (t : ℕ) (at : (i u : ℕ) → FollowsAt N ch i u ↔ FollowsAt (supported N) ch i u) where
    followed_drop : Followed N a ch t → Followed (supported N) a ch t
    followed_drop f =
        let n = transition N t f.0 in
        let e = supported-transition N t f.0 in (
          f.0,
          omega (arith, f.1, supported-length N t),
          ap (λ (m : Transition). m.code) e ∙ support_step-code n ∙ f.2,
          subst (λ (m : Transition). Fits (λ i j. FollowsAt (supported N) ch i (target_at m j)) (child_weights ch) (weights m)) (sym e)
              (Fits-drop (FollowsAt (supported N) ch) (child_weights ch) n
              (Fits_mono (λ i j. FollowsAt N ch i (target_at n j)) (λ i j. FollowsAt (supported N) ch i (target_at n j)) (child_weights ch) (weights n) (λ i j _ _ x. (at i (target_at n j)).0 x) f.3)),
        )

    followed_add : Followed (supported N) a ch t → Followed N a ch t
    followed_add f =
        let n = transition N t f.0 in
        let e = supported-transition N t f.0 in (
          f.0,
          omega (arith, f.1, supported-length N t),
          sym (support_step-code n) ∙ ap (λ (m : Transition). m.code) (sym e) ∙ f.2,
          Fits_mono (λ i j. FollowsAt (supported N) ch i (target_at n j)) (λ i j. FollowsAt N ch i (target_at n j)) (child_weights ch) (weights n) (λ i j _ _ x. (at i (target_at n j)).1 x)
              (Fits_add (FollowsAt (supported N) ch) (child_weights ch) n
              (subst (λ (m : Transition). Fits (λ i j. FollowsAt (supported N) ch i (target_at m j)) (child_weights ch) (weights m)) e f.3)),
        )

  mutual
    unfolding Follows

    pub follows_supported : (τ : Tree) (t : ℕ) → Follows N τ t ↔ Follows (supported N) τ t
    follows_supported leaf t = (λ x. tt, λ x. tt)
    follows_supported (step a ch τ) t = (
      λ x. (followed_drop a ch t (λ i u. follows_at-supported ch i u) x.0, (follows_supported τ t).0 x.1),
      λ x. (followed_add a ch t (λ i u. follows_at-supported ch i u) x.0, (follows_supported τ t).1 x.1),
    )

    follows_at-supported : (ch : Children) (i t : ℕ) → FollowsAt N ch i t ↔ FollowsAt (supported N) ch i t
    follows_at-supported none i t = (λ x. x, λ x. x)
    follows_at-supported (child s w τ ch) zero t = follows_supported τ t
    follows_at-supported (child s w τ ch) (suc i) t = follows_at-supported ch i t
