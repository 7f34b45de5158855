-- The loops of carry and shift: what holds where k steps of a path are left, from row i.
-- Assumes nothing.
use mathlib.Core.Path.{◌≡◌, refl, subst}
use mathlib.Core.List.{List}
use Prim.Native.Nat.{ℕ, zero, suc, ◌+◌, ◌-◌, ◌^◌, ◌≤◌, ◌<◌, min}
use native.Mathlib.Omega.{arith}
use Rattle.simulation.specs.Limits.{most_states}
use Rattle.matrix.specs.Matrix.{cell, Adds}
use Rattle.matrix.specs.Masks.{Noted}
use Rattle.augment.specs.Path.{root, carried, Safe, Movable, Moved}

-- a step is left
one_more : {k : ℕ} → 0 < k → k ≡ suc (k - 1)
one_more h = omega arith

safe_row : (from via : ℕ → ℕ) (k i : ℕ) → Safe from via k i → i < most_states
unfolding Safe
safe_row from via zero i s = s
safe_row from via (suc k) i s = s.0

movable_column : (from via : ℕ → ℕ) (d k i j : ℕ) (x : List ℕ) → Movable from via d k i j x → j < most_states
unfolding Movable
movable_column from via d zero i j x m = m.0
movable_column from via d (suc k) i j x m = m.0

-- carry: the root and the least amount are those of the whole path
pub record Carrying (from via : ℕ → ℕ) (x : List ℕ) (depth r most k i m : ℕ) : Type 0 where
  pub row : i < most_states
  pub safe : Safe from via k i
  pub same-root : root from via k i ≡ root from via depth r
  pub same-least : carried from via x k i m ≡ carried from via x depth r most

module _ {from via : ℕ → ℕ} {x : List ℕ} {depth r most : ℕ} where
  pub carrying_start : Safe from via depth r → Carrying from via x depth r most depth r most
  carrying_start s = record { row = safe_row from via depth r s; safe = s; same-root = refl; same-least = refl }

  module _ {i m : ℕ} where
    carrying_at : {k n : ℕ} → k ≡ n → Carrying from via x depth r most k i m → Carrying from via x depth r most n i m
    carrying_at e s = subst (λ (n : ℕ). Carrying from via x depth r most n i m) e s

    module _ {k : ℕ} (s : Carrying from via x depth r most k i m) where
      pub carrying_column : 0 < k → via i < most_states
      unfolding Safe
      carrying_column h = (carrying_at (one_more h) s).safe.1

      pub carrying_next : {k' m' : ℕ} → k ≡ suc k' → m' ≡ min m (cell x i (via i)) → Carrying from via x depth r most k' (from i) m'
      unfolding Safe root carried
      carrying_next {k'} e g = let t = carrying_at e s in rw g (record {
        row = safe_row from via k' (from i) t.safe.2;
        safe = t.safe.2;
        same-root = t.same-root;
        same-least = t.same-least;
      })

      pub carrying_end : k ≡ 0 → (i ≡ root from via depth r) × (m ≡ carried from via x depth r most)
      unfolding root carried
      carrying_end e = let t = carrying_at e s in (t.same-root, t.same-least)

-- shift: a move along what is left makes a move along the whole path
pub record Shifting (from via : ℕ → ℕ) (d depth r c : ℕ) (x₀ senders₀ : List ℕ) (k i j : ℕ) (x senders : List ℕ) : Type 0 where
  pub row : i < most_states
  pub column : j < most_states
  pub safe : Safe from via k i
  pub movable : Movable from via d k i j x
  pub whole : (x' senders' : List ℕ) → Moved from via d k i j x senders x' senders' → Moved from via d depth r c x₀ senders₀ x' senders'

module _ {from via : ℕ → ℕ} {d depth r c : ℕ} {x₀ senders₀ : List ℕ} where
  pub shifting_start : Safe from via depth r → Movable from via d depth r c x₀ → Shifting from via d depth r c x₀ senders₀ depth r c x₀ senders₀
  shifting_start s m = record {
    row = safe_row from via depth r s;
    column = movable_column from via d depth r c x₀ m;
    safe = s;
    movable = m;
    whole = λ x senders w. w;
  }

  module _ {i j : ℕ} {x senders : List ℕ} where
    shifting_at : {k n : ℕ} → k ≡ n → Shifting from via d depth r c x₀ senders₀ k i j x senders → Shifting from via d depth r c x₀ senders₀ n i j x senders
    shifting_at e s = subst (λ (n : ℕ). Shifting from via d depth r c x₀ senders₀ n i j x senders) e s

    module _ {k : ℕ} (s : Shifting from via d depth r c x₀ senders₀ k i j x senders) where
      pub shifting_via : 0 < k → via i < most_states
      unfolding Safe
      shifting_via h = (shifting_at (one_more h) s).safe.1

      pub shifting_held : 0 < k → d ≤ cell x i (via i)
      unfolding Movable
      shifting_held h = (shifting_at (one_more h) s).movable.1

      module _ {y : List ℕ} (a : Adds y x i (via i) d) where
        pub shifting_room : 0 < k → cell y i j + d < 2 ^ 32
        unfolding Movable
        shifting_room h = ((shifting_at (one_more h) s).movable.2 y a).0

        pub shifting_next : {k' : ℕ} {senders₁ z senders₂ : List ℕ} → k ≡ suc k' → Noted y senders senders₁ i (via i) → Adds y z i j d
            → Noted z senders₁ senders₂ i j
            → Shifting from via d depth r c x₀ senders₀ k' (from i) (via i) z senders₂
        unfolding Safe Movable
        shifting_next {k'} {z = z} e n b o = let t = shifting_at e s in record {
          row = safe_row from via k' (from i) t.safe.2;
          column = t.safe.1;
          safe = t.safe.2;
          movable = (t.movable.2 y a).1 z b;
          whole = λ x' senders' m. t.whole x' senders' (Moved.next a n b o m);
        }

      pub shifting_last : k ≡ 0 → cell x i j + d < 2 ^ 32
      unfolding Movable
      shifting_last e = (shifting_at e s).movable.1

      pub shifting_end : {x' senders' : List ℕ} → k ≡ 0 → Adds x x' i j d → Noted x' senders senders' i j
          → Moved from via d depth r c x₀ senders₀ x' senders'
      shifting_end {x'} {senders'} e a n = (shifting_at e s).whole x' senders' (Moved.last a n)
