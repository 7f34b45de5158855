-- A row's records, gathered before they are written.
-- Assumes nothing.
use mathlib.Core.Path.{◌≡◌, refl, sym, ◌∙◌, ap, ap₂}
use mathlib.Core.Bool.{Bool, true, false, cond}
use mathlib.Core.Logic.{◌≢◌}
use mathlib.Core.List.{List, [], ◌∷◌, ◌++◌, append-nil, append_assoc}
use Prim.Native.Nat.{ℕ, zero, suc, ◌+◌, ◌*◌, ◌≤◌, ◌<◌}
use native.Mathlib.Numerals.{add-one}
use native.Mathlib.Omega.{arith}
use borrow.Author.Tests.{eq-eqb, ne_eqb}
use lib.Dec.{eqb}
use lib.ListN.{length, take, set, length-set, length-append}
use lib.Seq.{take-suc-set, length-take-le}
use Rattle.simulation.specs.Sum.{below, concat}
use Rattle.buffer.specs.Buffer.{over, Filled}
use Rattle.flows.specs.Flow.{flow_record, flow_row, record_of}
use Rattle.flows.specs.Records.{cell_record, kept_record, row_records, RecordsGathered, record_bytes, all_bytes}
use Rattle.flows.specs.declared.records.Record.{Record}
use Rattle.flows.proofs.Pieces.{pieces, pieces-next}
use Rattle.flows.proofs.FlowBytes.{record_at, row_is}
use Rattle.flows.proofs.RecordBytes.{bytes-length}

-- ---- a record is kept if its amount is not zero
kept-one : (r : Record) → r.amount ≢ 0 → kept_record r ≡ r ∷ []
unfolding kept_record
kept-one r d = ap (λ (b : Bool). cond b [] (r ∷ [])) (ne_eqb r.amount 0 d)

kept-none : (r : Record) → r.amount ≡ 0 → kept_record r ≡ []
unfolding kept_record
kept-none r e = ap (λ (b : Bool). cond b [] (r ∷ [])) (eq-eqb r.amount 0 e)

kept-few : (r : Record) → length (kept_record r) ≤ 1
unfolding kept_record
kept-few r = at (eqb r.amount 0)
  where
    at : (b : Bool) → length (cond b [] (r ∷ [])) ≤ 1
    at true = omega arith
    at false = omega arith

-- ---- the bytes of a row's records are the row's
bytes-append : (l m : List Record) → all_bytes (l ++ m) ≡ all_bytes l ++ all_bytes m
unfolding all_bytes
bytes-append [] m = refl
bytes-append (x ∷ l) m = ap (λ z. record_bytes x ++ z) (bytes-append l m) ∙ sym (append_assoc (record_bytes x) (all_bytes l) (all_bytes m))

kept-bytes : (r : Record) → all_bytes (kept_record r) ≡ flow_record r.from r.to r.amount
unfolding kept_record all_bytes flow_record
kept-bytes r = at (eqb r.amount 0)
  where
    at : (b : Bool) → all_bytes (cond b [] (r ∷ [])) ≡ cond b [] (record_of r.from r.to r.amount)
    at true = refl
    at false = append-nil (record_bytes r)

module _ (s : ℕ) (nt : List ℕ) (a : ℕ → ℕ) where
  abbrev pub kept_at : ℕ → List Record
  kept_at j = kept_record (cell_record s nt a j)

  pieces-bytes : (n : ℕ) → all_bytes (pieces n kept_at) ≡ pieces n (record_at s nt a)
  unfolding all_bytes below concat
  pieces-bytes zero = refl
  pieces-bytes (suc n) =
      ap (λ (k : ℕ). all_bytes (pieces k kept_at)) (sym (add-one n)) ∙ ap all_bytes (pieces-next kept_at n) ∙ bytes-append (pieces n kept_at) (kept_at n)
      ∙ ap₂ (λ (l k : List ℕ). l ++ k) (pieces-bytes n) (kept-bytes (cell_record s nt a n))
      ∙ sym (pieces-next (record_at s nt a) n) ∙ ap (λ (k : ℕ). pieces k (record_at s nt a)) (add-one n)

  pieces-few : (n : ℕ) → length (pieces n kept_at) ≤ n
  unfolding below concat
  pieces-few zero = omega arith
  pieces-few (suc n) =
      omega (arith, ap (λ (k : ℕ). length (pieces k kept_at)) (add-one n), ap length (pieces-next kept_at n), length-append (pieces n kept_at) (kept_at n), pieces-few n, kept-few (cell_record s nt a n))

  row-bytes : all_bytes (row_records s nt a) ≡ flow_row s nt a
  unfolding row_records
  row-bytes = pieces-bytes (length nt) ∙ sym (row_is s nt a)

  pub row-few : length (row_records s nt a) ≤ length nt
  unfolding row_records
  row-few = pieces-few (length nt)

  -- ---- the first n records are those of the first j targets whose amounts are not zero
  pub record Gathering (rs : List Record) (n j : ℕ) : Type 0 where
    pub reached : j ≤ length nt
    pub few : n ≤ j
    pub room : length nt ≤ length rs
    pub first : take n rs ≡ pieces j kept_at

  pub gathering_start : (rs : List Record) → length nt ≤ length rs → Gathering rs 0 0
  unfolding below concat
  gathering_start rs le = record { reached = omega arith; few = omega arith; room = le; first = refl }

  module _ {rs : List Record} {n j : ℕ} (g : Gathering rs n j) where
    module _ {r : Record} (lt : j < length nt) (e : r ≡ cell_record s nt a j) where
      pub gathering_take : r.amount ≢ 0 → Gathering (set rs n r) (n + 1) (j + 1)
      gathering_take d =
          record {
            reached = omega arith;
            few = omega (arith, g.few);
            room = omega (arith, length-set rs n r, g.room);
            first =
                ap (λ (k : ℕ). take k (set rs n r)) (add-one n) ∙ take-suc-set rs n r (omega (arith, g.few, g.room))
                ∙ ap₂ (λ (l m : List Record). l ++ m) g.first (sym (kept-one r d) ∙ ap kept_record e) ∙ sym (pieces-next kept_at j);
          }

      pub gathering_skip : r.amount ≡ 0 → Gathering rs n (j + 1)
      gathering_skip z =
          record {
            reached = omega arith;
            few = omega (arith, g.few);
            room = g.room;
            first =
                g.first ∙ sym (append-nil (pieces j kept_at))
                ∙ ap (λ l. pieces j kept_at ++ l) (sym (kept-none r z) ∙ ap kept_record e) ∙ sym (pieces-next kept_at j);
          }

    pub gathering_end : length nt ≤ j → RecordsGathered (row_records s nt a) n rs
    unfolding row_records
    gathering_end le =
        let e : j ≡ length nt = omega (arith, g.reached) in
        let all : take n rs ≡ pieces (length nt) kept_at = g.first ∙ ap (λ (k : ℕ). pieces k kept_at) e in
        record { count = omega (arith, ap length all, length-take-le n rs (omega (arith, g.few, g.reached, g.room))); first = all }

  -- once they are written
  pub gathered_filled : {rs : List Record} {n : ℕ} {old new : List ℕ} → RecordsGathered (row_records s nt a) n rs → new ≡ over (all_bytes (take n rs)) old
      → Filled (flow_row s nt a) (n * 6) old new
  gathered_filled {old = old} g w = record {
    count = omega (arith, g.count, bytes-length (row_records s nt a), ap length row-bytes);
    bytes = w ∙ ap (λ l. over (all_bytes l) old) g.first ∙ ap (λ l. over l old) row-bytes;
  }
