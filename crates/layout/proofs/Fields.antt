-- Fields of some bytes, read and written.
-- Assumes nothing.
use mathlib.Core.Path.{◌≡◌, refl, ◌∙◌, ap, ap₂}
use mathlib.Core.List.{List, ◌∷◌}
use Prim.Native.Nat.{ℕ, zero, suc, ◌+◌, ◌*◌, ◌/◌, ◌%◌, ◌^◌, ◌≤◌, ◌<◌}
use native.Mathlib.Nat.{zero-add, mod-add-div, mod-eq_of_lt, div-eq_of_lt, add-mul-mod_self_left, add-mul-div_left, div-lt_iff_lt-mul, pow-suc}
use native.Mathlib.Omega.{arith}
use lib.ListN.{length}
use Rattle.simulation.specs.Sum.{below}
use Rattle.layout.specs.Bytes.{byte, Octets, field, half}
use Rattle.layout.specs.Encode.{field_bytes}

-- items of one size: the j-th of n ends where n of them do, or before
pub item_within : (w j n : ℕ) → j < n → w * j + w ≤ w * n
item_within w j zero l = absurd (omega arith)
item_within w zero (suc n) l = omega arith
item_within w (suc j) (suc n) l = omega (arith, item_within w j n (omega arith))

-- the lowest byte of a number, and the rest of it
pub low_byte : (a b : ℕ) → a < 256 → (a + 256 * b) % 256 ≡ a
low_byte a b l = add-mul-mod_self_left a 256 b ∙ mod-eq_of_lt l

pub high-bytes : (a b : ℕ) → a < 256 → (a + 256 * b) / 256 ≡ b
high-bytes a b l = add-mul-div_left a b (omega arith) ∙ ap (λ (n : ℕ). n + b) (div-eq_of_lt l) ∙ zero-add b

-- a field lies in its bytes alone
pub field-same : (s t : List ℕ) (k : ℕ) → ((p : ℕ) → p < k → byte t p ≡ byte s p) → (w p : ℕ) → p + w ≤ k → field w t p ≡ field w s p
unfolding field
field-same s t k same zero p l = refl
field-same s t k same (suc w) p l = ap₂ (λ (a b : ℕ). a + 256 * b) (same p (omega arith)) (field-same s t k same w (p + 1) (omega arith))

pub field-small : (w : ℕ) (s : List ℕ) → Octets s → (p : ℕ) → field w s p < 256 ^ w
unfolding field
field-small zero s bytes p = omega arith
field-small (suc w) s bytes p = omega (arith, bytes p, field-small w s bytes (p + 1), pow-suc 256 w)

pub field-length : (w n : ℕ) → length (field_bytes w n) ≡ w
unfolding field_bytes
field-length zero n = refl
field-length (suc w) n = ap suc (field-length w (n / 256))

-- what was read is written back as it stood
pub field_back : (w : ℕ) (s : List ℕ) → Octets s → (p : ℕ) → field_bytes w (field w s p) ≡ below p w (byte s)
unfolding field field_bytes below
field_back zero s bytes p = refl
field_back (suc w) s bytes p =
    let next : p + 1 ≡ suc p = omega arith in
    ap₂ ◌∷◌ (low_byte (byte s p) (field w s (p + 1)) (bytes p))
    (ap (field_bytes w) (high-bytes (byte s p) (field w s (p + 1)) (bytes p)) ∙ field_back w s bytes (p + 1) ∙ ap (λ (q : ℕ). below q w (byte s)) next)

-- what was written is read back
pub field_read : (w n : ℕ) (s : List ℕ) (p : ℕ) → n < 256 ^ w → ((i : ℕ) → i < w → byte s (p + i) ≡ byte (field_bytes w n) i) → field w s p ≡ n
unfolding field field_bytes
field_read zero n s p l h = omega arith
field_read (suc w) n s p l h =
    let here : p ≡ p + 0 = omega arith in
    let small : n / 256 < 256 ^ w = (div-lt_iff_lt-mul {k = 256} {x = n} {y = 256 ^ w} (omega arith)).1 (omega (arith, pow-suc 256 w)) in
    ap₂ (λ (a b : ℕ). a + 256 * b) (ap (byte s) here ∙ h 0 (omega arith))
    (field_read w (n / 256) s (p + 1) small (λ i m. let q : p + 1 + i ≡ p + suc i = omega arith in ap (byte s) q ∙ h (suc i) (omega arith)))
    ∙ mod-add-div n 256

-- a field of one byte, and of two
pub byte-field : (s : List ℕ) (p : ℕ) → field 1 s p ≡ byte s p
unfolding field
byte-field s p = omega arith

pub half-field : (s : List ℕ) (p : ℕ) → field 2 s p ≡ half s p
unfolding field
half-field s p = omega arith
