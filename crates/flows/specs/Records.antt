-- Records in bytes.
-- Assumes nothing.
use Rattle.std.specs.Prelude.{◌≡◌, cond, List, [], ◌∷◌, ◌++◌, ℕ, ◌*◌, ◌-◌, eqb, length, get_or, take, drop}
use Rattle.simulation.specs.Sum.{below, concat}
use Rattle.buffer.specs.Buffer.{over}
use Rattle.flows.specs.Flow.{record_of}
use Rattle.flows.specs.declared.records.Record.{Record}

abbrev pub no_record : Record
no_record = record { from = 0; to = 0; amount = 0 }

-- the record of the amount for the target j of ns
abbrev pub cell_record : ℕ → List ℕ → (ℕ → ℕ) → ℕ → Record
cell_record s ns a j = record { from = s; to = get_or ns j 0; amount = a j }

-- a record whose amount is not zero, and no other
unfoldable pub kept_record : Record → List Record
kept_record r = cond (eqb r.amount 0) [] (r ∷ [])

-- the records of one target, in the order of the targets ns
unfoldable pub row_records : ℕ → List ℕ → (ℕ → ℕ) → List Record
unfolding below concat kept_record
row_records s ns a = concat (below 0 (length ns) (λ j. kept_record (cell_record s ns a j)))

-- the first r of rs are those of the list
pub record RecordsGathered (l : List Record) (r : ℕ) (rs : List Record) : Type 0 where
  pub count : r ≡ length l
  pub first : take r rs ≡ l

abbrev pub record_bytes : Record → List ℕ
record_bytes r = record_of r.from r.to r.amount

-- the records one after the other
unfoldable pub all_bytes : List Record → List ℕ
all_bytes [] = []
all_bytes (r ∷ rs) = record_bytes r ++ all_bytes rs

-- a buffer after a record was written at the place of record k
abbrev pub at_record : (k : ℕ) → Record → List ℕ → List ℕ
at_record k r l = take (6 * k) l ++ (over (record_bytes r) (take (length l - 6 * k) (drop (6 * k) l)) ++ drop (length l - 6 * k) (drop (6 * k) l))
