-- What the display is handed, by the rank.
-- Assumes nothing.
use mathlib.Core.Path.{◌≡◌, refl, ap, ◌∙◌}
use mathlib.Core.Bool.{Bool, cond}
use mathlib.Core.List.{List, []}
use mathlib.Core.Logic.{◌≢◌}
use Prim.Native.Nat.{ℕ, ◌≤◌, zero-le}
use native.Mathlib.Omega.{arith}
use lib.ListN.{length, take, drop, length-append}
use lib.Seq.{take_at}
use borrow.Author.Tests.{eq-eqb, ne_eqb, le-leb}
use Rattle.buffer.specs.Buffer.{over}
use Rattle.answer.specs.Display.{first_bytes, filled_part}

-- the first bytes are there if the buffer is long enough
pub first-there : (s : List ℕ) (len : ℕ) → len ≤ length s → first_bytes s len ≡ take len s
first-there s len h = ap (λ (c : Bool). cond c (take len s) []) (le-leb len (length s) h)

-- nothing is there to hand on
pub first-none : (s : List ℕ) → first_bytes s 0 ≡ []
first-none s = first-there s 0 zero-le

-- what was written from the start on
pub first-over : (bs old : List ℕ) → first_bytes (over bs old) (length bs) ≡ bs
first-over bs old =
    first-there (over bs old) (length bs) (omega (arith, length-append bs (drop (length bs) old)))
    ∙ take_at bs (drop (length bs) old) (length bs) refl

module _ (flow tree : List ℕ) (rank len : ℕ) where
  pub part-kept : rank ≡ 0 → filled_part flow tree rank len ≡ first_bytes flow len
  unfolding filled_part
  part-kept e = ap (λ (c : Bool). cond c (first_bytes flow len) (first_bytes tree len)) (eq-eqb rank 0 e)

  pub part-other : rank ≢ 0 → filled_part flow tree rank len ≡ first_bytes tree len
  unfolding filled_part
  part-other d = ap (λ (c : Bool). cond c (first_bytes flow len) (first_bytes tree len)) (ne_eqb rank 0 d)
