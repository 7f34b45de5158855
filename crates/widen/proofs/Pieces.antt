-- A buffer that a loop writes piece after piece, each by its stores.
-- Assumes nothing.
use mathlib.Core.Path.{◌≡◌, refl, sym, ◌∙◌, ap, ap₂, subst}
use mathlib.Core.List.{List, [], ◌∷◌, ◌++◌}
use Prim.Native.Nat.{ℕ, suc, ◌+◌, ◌*◌, ◌-◌, ◌≤◌, ◌<◌}
use native.Mathlib.Nat.{zero-add, add-zero, one-mul}
use native.Mathlib.Omega.{arith}
use lib.ListN.{length, take, drop}
use Rattle.form.proofs.FormLists.{part-below}
use Rattle.simulation.specs.Sum.{below, concat}
use Rattle.simulation.proofs.Finite.Lists.{below_length}
use Rattle.form.proofs.Lists.{below_records, map_below, length_records}
use Rattle.layout.specs.Bytes.{byte}
use Rattle.buffer.specs.Buffer.{Filled}
use Rattle.buffer.proofs.Buffer.{Written, start, finish}
use Rattle.widen.specs.Parts.{run_of, wide_codes, wide_transitions}

-- the pieces f i, …, f (i + n - 1) one after the other
abbrev pub pieces : (i n : ℕ) → (ℕ → List ℕ) → List ℕ
pieces i n f = concat (below i n f)

-- of n pieces those below i stand in the buffer, up to a place
pub record Storing (f : ℕ → List ℕ) (n : ℕ) (old : List ℕ) (i at : ℕ) (now : List ℕ) : Type 0 where
  pub some : i ≤ n
  pub written : Written (pieces 0 n f) old (pieces i (n - i) f) now at

-- the place said anew
pub placed : {total old rest now : List ℕ} {at to : ℕ} → at ≡ to → Written total old rest now at → Written total old rest now to
placed {total} {old} {rest} {now} e w = subst (λ (k : ℕ). Written total old rest now k) e w

module _ {f : ℕ → List ℕ} {n : ℕ} {old : List ℕ} where
  pub storing_start : length (pieces 0 n f) ≤ length old → Storing f n old 0 0 old
  storing_start room =
      let all : n ≡ n - 0 = omega arith in
      record { some = omega arith; written = subst (λ (k : ℕ). Written (pieces 0 n f) old (pieces 0 k f) old 0) all (start (pieces 0 n f) old room) }

  -- the piece i is next
  pub storing_next : {i at : ℕ} {now : List ℕ} → Storing f n old i at now → i < n → Written (pieces 0 n f) old (f i ++ pieces (i + 1) (n - (i + 1)) f) now at
  unfolding below concat
  storing_next {i} {at} {now} g l =
      let left : n - i ≡ suc (n - (i + 1)) = omega arith in
      let next : suc i ≡ i + 1 = omega arith in
      let split = ap (λ (k : ℕ). pieces i k f) left ∙ ap (λ (k : ℕ). f i ++ pieces k (n - (i + 1)) f) next in
      subst (λ (l : List ℕ). Written (pieces 0 n f) old l now at) split g.written

  -- it was stored, up to another place
  pub storing_on : {i at to : ℕ} {now : List ℕ} → i < n → at ≡ to → Written (pieces 0 n f) old (pieces (i + 1) (n - (i + 1)) f) now at → Storing f n old (i + 1) to now
  storing_on l e w = record { some = omega arith; written = placed e w }

  pub storing_end : {i at to : ℕ} {now total : List ℕ} → Storing f n old i at now → n ≤ i → at ≡ to → pieces 0 n f ≡ total → Filled total to old now
  unfolding below concat
  storing_end {i} {at} {to} {now} g l e whole =
      let none : n - i ≡ 0 = omega arith in
      let w : Written (pieces 0 n f) old [] now to = subst (λ (k : ℕ). Written (pieces 0 n f) old (pieces i k f) now to) none (placed e g.written) in
      subst (λ (l : List ℕ). Filled l to old now) whole (finish w)

-- n pieces of w bytes each
pub pieces-length : (w : ℕ) (f : ℕ → List ℕ) → ((i : ℕ) → length (f i) ≡ w) → (n : ℕ) → length (pieces 0 n f) ≡ w * n
pieces-length w f each n =
    ap (λ (l : List (List ℕ)). length (concat l)) (sym (map_below f 0 n (λ i. i)))
    ∙ length_records w f each (below 0 n (λ i. i))
    ∙ ap (λ (k : ℕ). w * k) (below_length (λ (i : ℕ). i) 0 n)

module _ (s : List ℕ) where
  abbrev pub one : (from i : ℕ) → List ℕ
  one from i = byte s (from + i) ∷ []

  one_byte : (from i : ℕ) → one from i ≡ run_of s (from + 1 * i) 1
  unfolding below
  one_byte from i = let e : from + i ≡ from + 1 * i = omega arith in ap (λ (p : ℕ). byte s p ∷ []) e

  pub run-pieces : (from n : ℕ) → pieces 0 n (one from) ≡ run_of s from n
  run-pieces from n = below_records (byte s) 1 from 0 n (one from) (λ i _ _. one_byte from i) ∙ ap₂ (λ (a b : ℕ). run_of s a b) (add-zero from) (one-mul n)

  -- a slice of the bytes
  pub run-part : (from n : ℕ) → from + n ≤ length s → take (from + n - from) (drop from s) ≡ run_of s from n
  run-part from n h =
      let e : from + n - from ≡ n = omega arith in
      rw e (simp zero-add at (part-below s 0 from n (omega arith)))

  pub codes-length : (n : ℕ) → length (wide_codes s n) ≡ 2 * n
  unfolding wide_codes
  codes-length n = pieces-length 2 _ (λ i. refl) n

  pub transitions-length : (from n : ℕ) → length (wide_transitions s from n) ≡ 3 * n
  unfolding wide_transitions
  transitions-length from n = pieces-length 3 _ (λ i. refl) n
