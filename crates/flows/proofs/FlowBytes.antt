-- The lengths of a flow's records.
-- Assumes nothing.
use mathlib.Core.Path.{◌≡◌, refl, sym, ◌∙◌, ap, subst}
use mathlib.Core.Bool.{Bool, true, false, cond, not}
use mathlib.Core.List.{List, [], ◌++◌}
use Prim.Native.Nat.{ℕ, ◌+◌, ◌*◌, ◌/◌, ◌≤◌}
use native.Mathlib.Omega.{arith}
use lib.Dec.{eqb}
use native.Mathlib.Nat.{mul-le-mul}
use lib.ListN.{length, get_or, take, drop}
use lib.Seq.{length-take-le, drop-append_seam, drop-drop}
use Rattle.simulation.specs.Limits.{most_states}
use Rattle.simulation.specs.Sum.{sum, when}
use Rattle.simulation.specs.Fit.{Amounts}
use Rattle.simulation.proofs.Finite.Sums.{sum_ext, sum_mul, sum_bound, one-most}
use Rattle.buffer.specs.Buffer.{over, Filled}
use Rattle.flows.specs.Flow.{record_of, flow_record, flow_row, flow_records, amounts_count, head_of, flow_of}
use Rattle.buffer.proofs.Buffer.{part-from, back, part-all, back_all}
use Rattle.flows.proofs.Pieces.{pieces, pieces-length, Plan, even_plan}

pub record_length : (s t a : ℕ) → length (flow_record s t a) ≡ 6 * when (not (eqb a 0)) 1
unfolding flow_record
record_length s t a = at (eqb a 0)
  where
    at : (b : Bool) → length (cond b [] (record_of s t a)) ≡ 6 * when (not b) 1
    at true = refl
    at false = refl

pub record_most : (s t a : ℕ) → length (flow_record s t a) ≤ 6
record_most s t a = omega (arith, record_length s t a, one-most (not (eqb a 0)))

pub row-length : (s : ℕ) (ns : List ℕ) (a : ℕ → ℕ) → length (flow_row s ns a) ≡ 6 * sum (length ns) (λ j. when (not (eqb (a j) 0)) 1)
unfolding flow_row
row-length s ns a =
    pieces-length (λ j. flow_record s (get_or ns j 0) (a j)) (length ns)
    ∙ sum_ext (length ns) (λ j. length (flow_record s (get_or ns j 0) (a j))) (λ j. 6 * when (not (eqb (a j) 0)) 1) (λ j _. record_length s (get_or ns j 0) (a j))
    ∙ sum_mul (length ns) 6 (λ j. when (not (eqb (a j) 0)) 1)

pub row-most : (s : ℕ) (ns : List ℕ) (a : ℕ → ℕ) → length (flow_row s ns a) ≤ length ns * 6
row-most s ns a = omega (arith, row-length s ns a, sum_bound (length ns) 1 (λ j. when (not (eqb (a j) 0)) 1) (λ j _. one-most (not (eqb (a j) 0))))

-- the pieces of a row, and of all rows, with what room they need
abbrev pub record_at : (s : ℕ) (nt : List ℕ) (a : ℕ → ℕ) → ℕ → List ℕ
record_at s nt a j = flow_record s (get_or nt j 0) (a j)

abbrev pub flow_row-at : (mt nt : List ℕ) → Amounts → ℕ → List ℕ
flow_row-at mt nt x i = flow_row (get_or mt i 0) nt (x i)

pub row_is : (s : ℕ) (nt : List ℕ) (a : ℕ → ℕ) → flow_row s nt a ≡ pieces (length nt) (record_at s nt a)
unfolding flow_row
row_is s nt a = refl

pub records_plan : (mt nt : List ℕ) (x : Amounts) (old : List ℕ) → length mt * (length nt * 6) ≤ length old → Plan [] (flow_row-at mt nt x) (λ i. length nt * 6) (length mt) old
records_plan mt nt x old room = even_plan (length nt * 6) (length mt) room (λ i _. row-most (get_or mt i 0) nt (x i))

pub records_done : (mt nt : List ℕ) (x : Amounts) {at : ℕ} {old now : List ℕ} → Filled (pieces (length mt) (flow_row-at mt nt x)) at old now
    → Filled (flow_records mt nt x) at old now
unfolding flow_records
records_done mt nt x w = w

-- six bytes for each amount that is not zero
pub records_length : (ms ns : List ℕ) (x : Amounts) → length (flow_records ms ns x) ≡ 6 * amounts_count (length ms) (length ns) x
unfolding flow_records amounts_count
records_length ms ns x =
    pieces-length (λ i. flow_row (get_or ms i 0) ns (x i)) (length ms)
    ∙ sum_ext (length ms) (λ i. length (flow_row (get_or ms i 0) ns (x i))) (λ i. 6 * sum (length ns) (λ j. when (not (eqb (x i j) 0)) 1))
    (λ i _. row-length (get_or ms i 0) ns (x i))
    ∙ sum_mul (length ms) 6 (λ i. sum (length ns) (λ j. when (not (eqb (x i j) 0)) 1))

pub records_most : (ms ns : List ℕ) (x : Amounts) → length (flow_records ms ns x) ≤ length ms * (length ns * 6)
unfolding flow_records
records_most ms ns x =
    subst (λ (k : ℕ). k ≤ length ms * (length ns * 6)) (sym (pieces-length (λ i. flow_row (get_or ms i 0) ns (x i)) (length ms)))
    (sum_bound (length ms) (length ns * 6) (λ i. length (flow_row (get_or ms i 0) ns (x i))) (λ i _. row-most (get_or ms i 0) ns (x i)))

pub flow-length : (k : ℕ) (ms ns : List ℕ) (x : Amounts) → length (flow_of k ms ns x) ≤ 3 + length ms * (length ns * 6)
unfolding flow_of
flow-length k ms ns x = omega (arith, records_most ms ns x)

-- at most most-pairs records
pub bytes-few : (mt nt : List ℕ) (x : Amounts) (r : ℕ) → length mt ≤ most_states → length nt ≤ most_states → r ≡ length (flow_records mt nt x) → r ≤ 98304
bytes-few mt nt x r a b e = omega (arith, records_most mt nt x, mul-le-mul a b')
  where
    b' : length nt * 6 ≤ 768
    b' = omega arith

-- the records behind room for the head, then the head
pub head-before : (place : ℕ) (mt nt : List ℕ) (x : Amounts) (old : List ℕ) {ys new : List ℕ} {r : ℕ} → 3 ≤ length old
    → Filled (flow_records mt nt x) r (part-from 3 old) ys → new ≡ over (head_of place (r / 6)) (back 3 old ys) → Filled (flow_of place mt nt x) (r + 3) old new
unfolding flow_of
head-before place mt nt x old {ys} {new} {r} room w e =
    let recs = flow_records mt nt x in
    let c : r / 6 ≡ amounts_count (length mt) (length nt) x = omega (arith, w.count, records_length mt nt x) in
    let past : 3 + length recs ≡ length (head_of place (amounts_count (length mt) (length nt) x) ++ recs) = omega arith in
    let seam : drop 3 (take 3 old ++ ys) ≡ ys = subst (λ (n : ℕ). drop n (take 3 old ++ ys) ≡ ys) (length-take-le 3 old room) (drop-append_seam (take 3 old) ys) in
    record {
      count = omega (arith, w.count);
      bytes =
          e
          ∙ ap (λ (n : ℕ). over (head_of place n) (back 3 old ys)) c
          ∙ ap (λ l. head_of place (amounts_count (length mt) (length nt) x) ++ l)
          (ap (drop 3) (back_all 3 old ys) ∙ seam ∙ w.bytes ∙ ap (λ l. recs ++ drop (length recs) l) (part-all 3 old)
          ∙ ap (λ l. recs ++ l) (drop-drop (length recs) 3 old ∙ ap (λ (n : ℕ). drop n old) past));
    }
