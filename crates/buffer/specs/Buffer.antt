-- A buffer that bytes are written into from its start, and a list of which a part is lent.
-- Assumes nothing.
use Rattle.std.specs.Prelude.{◌≡◌, List, ◌++◌, ℕ, length, take, drop}

-- a buffer after bytes were written from its start
abbrev pub over : {A : Type 0} → List A → List A → List A
over new old = new ++ drop (length new) old

-- a list after the n elements from place a on were lent and came back as p: what a loan of `&mut l[a..a + n]` gives, and of `&mut l[..n]` where a is 0
abbrev pub with_part : {A : Type 0} → (a n : ℕ) → (p l : List A) → List A
with_part a n p l = take a l ++ (p ++ drop n (drop a l))

-- all of bs was written, from the start on, and n says how much that was
pub record Filled (bs : List ℕ) (n : ℕ) (old new : List ℕ) : Type 0 where
  pub count : n ≡ length bs
  pub bytes : new ≡ over bs old
