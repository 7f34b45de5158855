-- A list of which a part was lent and came back: the part is what came back, and whatever lies outside of it is as it was.
-- Assumes nothing.
use mathlib.Core.Path.{◌≡◌, sym, ap, ◌∙◌}
use mathlib.Core.List.{List, ◌++◌}
use Prim.Native.Nat.{ℕ, ◌+◌, ◌-◌, ◌≤◌}
use native.Mathlib.Omega.{arith}
use lib.ListN.{length, take, drop, length-append, length-drop, take-append-drop}
use lib.Seq.{length-take-le, take_at, drop_at, take-append-le, drop-append-le, drop-drop}
use Rattle.buffer.specs.Buffer.{with_part}

module _ {A : Type 0} (a n : ℕ) where
  -- as much is lent as is asked for
  pub part-size : (l : List A) → a + n ≤ length l → length (take n (drop a l)) ≡ n
  part-size l room = length-take-le n (drop a l) (simp length-drop (omega arith))

  module _ (p l : List A) (size : length p ≡ n) (room : a + n ≤ length l) where
    before-length : length (take a l) ≡ a
    before-length = length-take-le a l (omega arith)

    from-part : drop a (with_part a n p l) ≡ p ++ drop n (drop a l)
    from-part = drop_at (take a l) (p ++ drop n (drop a l)) a before-length

    pub part-is : take n (drop a (with_part a n p l)) ≡ p
    part-is = ap (take n) from-part ∙ take_at p (drop n (drop a l)) n size

    pub part_length : length (with_part a n p l) ≡ length l
    part_length = simp (length-append, length-drop) (omega (arith, before-length))

    pub part-before : (c m : ℕ) → c + m ≤ a → take m (drop c (with_part a n p l)) ≡ take m (drop c l)
    part-before c m le = before (p ++ drop n (drop a l)) ∙ sym (before (drop a l)) ∙ ap (λ z. take m (drop c z)) (take-append-drop a l)
      where
        before : (r : List A) → take m (drop c (take a l ++ r)) ≡ take m (drop c (take a l))
        before r =
            ap (take m) (drop-append-le c (take a l) r (omega (arith, before-length)))
            ∙ take-append-le m (drop c (take a l)) r (simp length-drop (omega (arith, before-length)))

    past_part : drop (a + n) (with_part a n p l) ≡ drop (a + n) l
    past_part = sym (drop-drop n a (with_part a n p l)) ∙ ap (drop n) from-part ∙ drop_at p (drop n (drop a l)) n size ∙ drop-drop n a l

    pub part-after : (c m : ℕ) → a + n ≤ c → take m (drop c (with_part a n p l)) ≡ take m (drop c l)
    part-after c m le =
        let e : c ≡ a + n + (c - (a + n)) = omega arith in
        ap (take m) (ap (λ (k : ℕ). drop k (with_part a n p l)) e ∙ sym (drop-drop (c - (a + n)) (a + n) (with_part a n p l))
        ∙ ap (drop (c - (a + n))) past_part ∙ drop-drop (c - (a + n)) (a + n) l ∙ ap (λ (k : ℕ). drop k l) (sym e))
