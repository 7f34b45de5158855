-- Reading in several steps.
-- Assumes nothing.
use Rattle.std.proofs.Common.{◌≡◌, refl, sym, ap, ◌∙◌, List, [], ◌++◌, append_assoc, ℕ, ◌+◌, ◌≤◌, length, take, drop}
use borrow.Rule.Slice.PartMut.{put_mid}
use lib.Seq.{length-take-le, take-append-add, take-append-le, drop_at}
use Rattle.std.specs.Prelude.{Option, Some, None}
use Rattle.std.specs.Io.KnownBytes.{Consumes}

pub consumes-none : (known : Option (List ℕ)) → Consumes known known []
consumes-none None = tt
consumes-none (Some xs) = refl

pub consumes-more : (a b c : Option (List ℕ)) (xs ys : List ℕ) → Consumes a b xs → Consumes b c ys → Consumes a c (xs ++ ys)
consumes-more None b c xs ys h k = tt
consumes-more (Some all) None c xs ys h k = elim h [ ]
consumes-more (Some all) (Some rest) None xs ys h k = elim k [ ]
consumes-more (Some all) (Some rest) (Some last) xs ys h k = rw (h, k) (sym (append_assoc xs ys last))

module _ (a n k : ℕ) (xs ys : List ℕ) (le : a ≤ length xs) (within : n ≤ length ys) where
  before : length (take a xs) ≡ a
  before = length-take-le a xs le

  -- what a read into the rest of a buffer adds to the bytes before
  pub take-read : take (a + n) (put_mid a k xs ys) ≡ take a xs ++ take n ys
  take-read =
      ap (λ (m : ℕ). take (m + n) (put_mid a k xs ys)) (sym before) ∙ take-append-add (take a xs) (ys ++ drop k (drop a xs)) n
      ∙ ap (λ (l : List ℕ). take a xs ++ l) (take-append-le n ys (drop k (drop a xs)) within)

  pub drop-read : drop a (take (a + n) (put_mid a k xs ys)) ≡ take n ys
  drop-read = ap (drop a) take-read ∙ drop_at (take a xs) (take n ys) a before
