-- Lists that stand in a list at a place, and parts of a buffer that are lent and come back.
-- Assumes nothing.
use mathlib.Core.Path.{◌≡◌, sym, ap, ◌∙◌, subst}
use mathlib.Core.List.{List, ◌++◌}
use Prim.Native.Nat.{ℕ, ◌+◌, ◌-◌, ◌≤◌, ◌<◌}
use native.Mathlib.Nat.{zero-add, add_assoc}
use native.Mathlib.Omega.{arith}
use lib.ListN.{length, get_or, take, drop, length-append, get_or-append}
use lib.Seq.{get_or-append-add, get_or-take, get_or-drop, length-take-le}
use Rattle.buffer.specs.Buffer.{with_part}
use Rattle.buffer.proofs.Parts.{part-size, part_length}
use Rattle.tree.specs.Parts.{At}

pub at_self : (P : List ℕ) → At P 0 P
at_self P = record { fits = omega arith; same = λ k _. ap (λ (n : ℕ). get_or P n 0) (zero-add k) }

pub at_trans : {l P Q : List ℕ} {a b : ℕ} → At l a P → At P b Q → At l (a + b) Q
at_trans {l} {P} {Q} {a} {b} p q =
    record {
      fits = omega (arith, p.fits, q.fits);
      same = λ k lt. ap (λ (n : ℕ). get_or l n 0) (add_assoc a b k) ∙ p.same (b + k) (omega (arith, q.fits)) ∙ q.same k lt;
    }

pub at-is : {l P Q : List ℕ} {a : ℕ} → P ≡ Q → At l a P → At l a Q
at-is {l} {a = a} e p = subst (λ (P : List ℕ). At l a P) e p

-- a list that stands in two pieces
module _ {l : List ℕ} {a : ℕ} (A B : List ℕ) (p : At l a (A ++ B)) where
  pub at_front : At l a A
  at_front =
      record {
        fits = omega (arith, p.fits, length-append A B);
        same = λ k lt. p.same k (omega (arith, length-append A B)) ∙ get_or-append A B 0 k lt;
      }

  pub at_back : At l (a + length A) B
  at_back =
      record {
        fits = omega (arith, p.fits, length-append A B);
        same = λ k lt. ap (λ (n : ℕ). get_or l n 0) (add_assoc a (length A) k) ∙ p.same (length A + k) (omega (arith, length-append A B)) ∙ get_or-append-add A B k 0;
      }

-- the part of a buffer from a to b, and the buffer once the part is back at the list ys: what a loan of `&mut l[a..b]` gives
abbrev pub piece : ℕ → ℕ → List ℕ → List ℕ
piece a b l = take (b - a) (drop a l)

abbrev pub placed : ℕ → ℕ → List ℕ → List ℕ → List ℕ
placed a b l ys = with_part a (b - a) ys l

module _ (a b : ℕ) (l : List ℕ) (le : a ≤ b) (room : b ≤ length l) where
  pub piece_length : length (piece a b l) ≡ b - a
  piece_length = part-size a (b - a) l (omega arith)

  module _ (ys : List ℕ) (same : length ys ≡ b - a) where
    pub placed_length : length (placed a b l ys) ≡ length l
    placed_length = part_length a (b - a) ys l same (omega arith)

    pub placed_before : (k : ℕ) → k < a → get_or (placed a b l ys) k 0 ≡ get_or l k 0
    placed_before k lt = get_or-append (take a l) _ 0 k (omega (arith, length-take-le a l (omega arith))) ∙ get_or-take a l k 0 lt

    past : (k : ℕ) → get_or (placed a b l ys) (a + k) 0 ≡ get_or (ys ++ drop (b - a) (drop a l)) k 0
    past k =
        ap (λ (n : ℕ). get_or (placed a b l ys) (n + k) 0) (sym (length-take-le a l (omega arith)))
        ∙ get_or-append-add (take a l) (ys ++ drop (b - a) (drop a l)) k 0

    pub placed_in : (k : ℕ) → k < b - a → get_or (placed a b l ys) (a + k) 0 ≡ get_or ys k 0
    placed_in k lt = past k ∙ get_or-append ys _ 0 k (omega arith)

    pub placed_after : (k : ℕ) → b ≤ k → get_or (placed a b l ys) k 0 ≡ get_or l k 0
    placed_after k after =
        let e : k ≡ a + (length ys + (k - b)) = omega arith in
        let f : a + (b - a + (k - b)) ≡ k = omega arith in
        ap (λ (n : ℕ). get_or (placed a b l ys) n 0) e
        ∙ past (length ys + (k - b))
        ∙ get_or-append-add ys (drop (b - a) (drop a l)) (k - b) 0
        ∙ get_or-drop (b - a) (drop a l) (k - b) 0
        ∙ get_or-drop a l (b - a + (k - b)) 0
        ∙ ap (λ (n : ℕ). get_or l n 0) f
