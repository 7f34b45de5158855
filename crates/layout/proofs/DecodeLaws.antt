-- What decoding gives, by the refusal, and what it tells of it.
-- Assumes nothing.
use mathlib.Core.Path.{◌≡◌, refl, sym, ◌∙◌, ap}
use mathlib.Core.List.{List}
use Prim.Native.Nat.{ℕ, zero, suc}
use native.Mathlib.Omega.{arith}
use Rattle.simulation.specs.Table.{Table}
use Rattle.layout.specs.Bytes.{refusal, table, refused, accepted, number, decided, decode_as}

pub decode_is : (w : ℕ) (s : List ℕ) → decode_as w s ≡ decided (refusal w s) (table w s)
unfolding decode_as
decode_is w s = refl

module _ (w : ℕ) (s : List ℕ) where
  decode_by : {k : ℕ} → refusal w s ≡ k → decode_as w s ≡ decided k (table w s)
  decode_by e = decode_is w s ∙ ap (λ (f : ℕ). decided f (table w s)) e

  pub decode-accepted : refusal w s ≡ 0 → decode_as w s ≡ accepted (table w s)
  unfolding decided
  decode-accepted e = decode_by e

  pub decode-refused : (k : ℕ) → refusal w s ≡ suc k → decode_as w s ≡ refused (suc k)
  unfolding decided
  decode-refused k e = decode_by e

  pub number_is : number (decode_as w s) ≡ refusal w s
  unfolding decided
  number_is = go (refusal w s) refl
    where
      go : (k : ℕ) → refusal w s ≡ k → number (decode_as w s) ≡ refusal w s
      go zero p = ap number (decode_by p) ∙ sym p
      go (suc k) p = ap number (decode_by p) ∙ sym p

  -- the bytes were accepted
  pub record Decodes (M : Table) : Type 0 where
    pub passed : refusal w s ≡ 0
    pub table_is : table w s ≡ M

  pub decode-told : (M : Table) → decode_as w s ≡ accepted M → Decodes M
  unfolding decided
  decode-told M e = go (refusal w s) refl
    where
      go : (k : ℕ) → refusal w s ≡ k → Decodes M
      go zero p = let h = decode_by p in record { passed = p; table_is = cc }
      go (suc k) p = let h = decode_by p in let z : ◌≡◌ {A = ℕ} 0 1 = cc in absurd (omega arith)
