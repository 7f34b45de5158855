-- The bytes of records, record by record.
-- Assumes nothing.
use mathlib.Core.Path.{◌≡◌, refl, sym, ap, ◌∙◌, subst}
use mathlib.Core.List.{List, [], ◌∷◌, ◌++◌}
use Prim.Native.Nat.{ℕ, suc, ◌+◌, ◌*◌, ◌≤◌, ◌<◌}
use native.Mathlib.Numerals.{add-one}
use native.Mathlib.Omega.{arith}
use lib.ListN.{length, get_or, drop, length-append, drop_of_length-le}
use lib.Seq.{drop-cons}
use Rattle.buffer.specs.Buffer.{over}
use Rattle.flows.specs.Records.{no_record, record_bytes, all_bytes, at_record}
use Rattle.flows.specs.declared.records.Record.{Record}
use Rattle.buffer.proofs.Buffer.{part-from, back, Written, start, lend}

pub bytes-length : (l : List Record) → length (all_bytes l) ≡ 6 * length l
unfolding all_bytes
bytes-length [] = refl
bytes-length (r ∷ rs) = let ih = bytes-length rs in length-append (record_bytes r) (all_bytes rs) ∙ omega arith

bytes_cons : (r : Record) (l : List Record) → all_bytes (r ∷ l) ≡ record_bytes r ++ all_bytes l
unfolding all_bytes
bytes_cons r l = refl

bytes-none : all_bytes [] ≡ []
unfolding all_bytes
bytes-none = refl

module _ (ys : List Record) where
  abbrev pub left : ℕ → List ℕ
  left k = all_bytes (drop k ys)

  left_step : (k : ℕ) → k < length ys → left k ≡ record_bytes (get_or ys k no_record) ++ left (k + 1)
  left_step k lt =
      ap all_bytes (drop-cons ys k no_record lt) ∙ bytes_cons (get_or ys k no_record) (drop (suc k) ys)
      ∙ ap (λ (j : ℕ). record_bytes (get_or ys k no_record) ++ left j) (sym (add-one k))

  pub all_start : (b : List ℕ) → 6 * length ys ≤ length b → Written (all_bytes ys) b (left 0) b (6 * 0)
  all_start b room = start (all_bytes ys) b (subst (λ (m : ℕ). m ≤ length b) (sym (bytes-length ys)) room)

  turned : {b now : List ℕ} (k : ℕ) → k < length ys → Written (all_bytes ys) b (left k) now (6 * k)
      → Written (all_bytes ys) b (record_bytes (get_or ys k no_record) ++ left (k + 1)) now (6 * k)
  turned {b} {now} k lt w = subst (λ (l : List ℕ). Written (all_bytes ys) b l now (6 * k)) (left_step k lt) w

  pub all_room : {b now : List ℕ} (k : ℕ) → k < length ys → Written (all_bytes ys) b (left k) now (6 * k) → 6 * k + 6 ≤ length now
  all_room {b} {now} k lt w =
      let v = turned k lt w in
      omega (arith, v.within, v.room, v.kept, length-append (record_bytes (get_or ys k no_record)) (left (k + 1)))

  pub all_turn : {b now zs : List ℕ} (k : ℕ) → k < length ys → Written (all_bytes ys) b (left k) now (6 * k)
      → zs ≡ at_record k (get_or ys k no_record) now → Written (all_bytes ys) b (left (k + 1)) zs (6 * (k + 1))
  all_turn {b} {now} {zs} k lt w e =
      let r = get_or ys k no_record in
      let at : 6 * k + 6 ≡ 6 * (k + 1) = omega arith in
      subst (λ (l : List ℕ). Written (all_bytes ys) b (left (k + 1)) l (6 * (k + 1))) (sym e)
      (subst (λ (m : ℕ). Written (all_bytes ys) b (left (k + 1)) (back (6 * k) now (over (record_bytes r) (part-from (6 * k) now))) m) at
      (lend (record_bytes r) (left (k + 1)) (turned k lt w) refl 6 (left (k + 1)) refl refl))

  pub all_end : {b now : List ℕ} (k : ℕ) → length ys ≤ k → Written (all_bytes ys) b (left k) now (6 * k) → Written (all_bytes ys) b [] now (6 * k)
  all_end {b} {now} k h w = subst (λ (l : List ℕ). Written (all_bytes ys) b l now (6 * k)) (ap all_bytes (drop_of_length-le ys {i = k} h) ∙ bytes-none) w
