-- From the bytes of two tables, by what reading them told, to what a call does.
-- Assumes nothing.
use mathlib.Core.Path.{◌≡◌, sym, ap, ap₂, ◌∙◌, subst, subst₂}
use mathlib.Core.List.{List, ◌++◌}
use Prim.Native.Nat.{ℕ, ◌+◌, ◌≤◌}
use native.Mathlib.Omega.{arith}
use lib.ListN.{length, replicate, take, drop, length-append, length-replicate}
use lib.Seq.{take_at}
use Rattle.simulation.specs.Table.{Table, states_of, steps, transition}
use Rattle.simulation.specs.Support.{supported}
use Rattle.simulation.specs.Complete.{contract_for}
use Rattle.simulation.proofs.Finite.Sums.{sum_ext}
use Rattle.simulation.proofs.Support.Tables.{supported-states, supported-length}
use Rattle.buffer.specs.Buffer.{with_part}
use Rattle.buffer.proofs.Parts.{part-size, part-is, part-before, part_length}
use Rattle.form.specs.Form.{form_size, start_of, entries_listed, table_of, Loaded}
use Rattle.form.specs.declared.tables.Tables.{Tables}
use Rattle.form.specs.Tables.{first_form, second_form, first_table, contract_table, listed_steps, BothLoaded}
use Rattle.simulation.specs.Limits.{wide}
use Rattle.layout.specs.Bytes.{Decoded, refused, accepted, decode, table}
use Rattle.loading.specs.Fill.{Loads, Reads}
use Rattle.layout.proofs.DecodeLaws.{decode-accepted}
use Rattle.flows.specs.Flow.{step_room, room_for, flow_room}
use Rattle.witness.specs.Shown.{room_in, room_asked}
use Rattle.compare.specs.Outcome.{Buffers, Result, left}
use Rattle.answer.specs.Numbers.{refusal}
use Rattle.pod.specs.Check.{contract, checked, RightFor, Checked}
use Rattle.compare.specs.Steps.{Compared}
use Rattle.compare.proofs.Comparing.{none-sent}
use Rattle.answer.specs.declared.answer.Answer.{Answer}
use Rattle.layout.specs.declared.refusals.Refusal.{Refusal}
use Rattle.layout.specs.Refusals.{number_of}
use Rattle.table.proofs.AnswerLaws.{decodes_refused}
use Rattle.std.specs.Prelude.{Ok, Err}

-- a refusal of one of the tables
module _ (first second : List ℕ) (s t : ℕ) (b : Buffers) where
  pub first-is-refused : {k : ℕ} → decode first ≡ refused k → Checked first second s t b (left (refusal k 1 0) b)
  unfolding checked RightFor
  first-is-refused {k} e =
      record {
        amounts = none-sent;
        right = subst (λ (d : Decoded). RightFor d (decode second) s t none-sent) (sym e) tt;
        result = sym (ap (λ (d : Decoded). checked d (decode second) s t b none-sent) e);
      }

  module _ {M : Table} (e : decode first ≡ accepted M) where
    pub second-is-refused : {k : ℕ} → decode second ≡ refused k → Checked first second s t b (left (refusal k 2 0) b)
    unfolding checked RightFor
    second-is-refused f =
        record {
          amounts = none-sent;
          right = subst (λ (d : Decoded). RightFor d (decode second) s t none-sent) (sym e) (subst (λ (d : Decoded). RightFor (accepted M) d s t none-sent) (sym f) tt);
          result = sym (ap (λ (d : Decoded). checked d (decode second) s t b none-sent) e ∙ ap (λ (d : Decoded). checked (accepted M) d s t b none-sent) f);
        }

    -- two accepted tables
    pub both_compared : {N : Table} {r : Result} → decode second ≡ accepted N → Compared (supported M) (contract M N) (flow_room M N s) (length (steps N t)) s t b r → Checked first second s t b r
    unfolding checked RightFor
    both_compared {N} f h =
        record {
          amounts = h.amounts;
          right = subst (λ (d : Decoded). RightFor d (decode second) s t h.amounts) (sym e) (subst (λ (d : Decoded). RightFor (accepted M) d s t h.amounts) (sym f) h.right);
          result = h.result ∙ sym (ap (λ (d : Decoded). checked d (decode second) s t b h.amounts) e ∙ ap (λ (d : Decoded). checked (accepted M) d s t b h.amounts) f);
        }

-- by what reading the tables into forms told
pub loaded_by : {bytes f f' : List ℕ} {u : Unit {0}} → Reads bytes f (Ok u) f' → Loaded f'
loaded_by p = (p.accepted p.told).loaded

-- the room asked by what two forms list is that for all entries of the tables in the bytes
room-same : {first f f' second g g' : List ℕ} → Loads first f f' → Loads second g g' → (s : ℕ) → room_in f' g' s ≡ flow_room (table wide first) (table wide second) s
unfolding room_for
room-same {first} {f} {f'} {second} {g} {g'} a b s =
    let M = table wide first in
    let N = table wide second in
    let q : states_of (table_of g') ≡ states_of N = ap states_of b.same ∙ supported-states N in
    let n : length (steps (table_of f') s) ≡ length (steps M s) = ap (λ (L : Table). length (steps L s)) a.same ∙ supported-length M s in
    let e : ℕ → ℕ = λ k. entries_listed f' (start_of f' s + k) in
    ap₂ (λ (q n : ℕ). room_for q n e) q n
    ∙ ap (λ (n : ℕ). 1 + n) (sum_ext (length (steps M s)) (λ k. step_room (states_of N) (e k)) (λ k. step_room (states_of N) (length (transition M s k).entries)) (λ k l. ap (step_room (states_of N)) (a.listed s k l)))

-- the comparison of two tables is that of their forms
module _ (tables : Tables) {p q : List ℕ} (first-is : first_form tables ≡ p) (second_is : second_form tables ≡ q) where
  pub forms_compared : {s t : ℕ} {l : Buffers} {r : Result} → Compared (first_table tables) (contract_table tables) (room_asked tables s) (listed_steps tables t) s t l r
      → Compared (table_of p) (contract_for (table_of p) (table_of q)) (room_in p q s) (length (steps (table_of q) t)) s t l r
  forms_compared {s} {t} {l} {r} h =
      subst₂ (λ (f g : List ℕ). Compared (table_of f) (contract_for (table_of f) (table_of g)) (room_in f g s) (length (steps (table_of g) t)) s t l r) first-is second_is h

-- what a call does
module _ (first second : List ℕ) (s t : ℕ) (b : Buffers) {f f' : List ℕ} where
  pub read_first_refused : {e : Refusal} {r : Answer} → Reads first f (Err e) f' → r ≡ refusal (number_of e) 1 0 → Checked first second s t b (left r b)
  read_first_refused {e} p h =
      subst (λ (q : Answer). Checked first second s t b (left q b)) (sym h) (first-is-refused first second s t b (decodes_refused wide first e p.told))

  module _ {u : Unit {0}} (p : Reads first f (Ok u) f') {g g' : List ℕ} where
    pub read_second_refused : {e : Refusal} {r : Answer} → Reads second g (Err e) g' → r ≡ refusal (number_of e) 2 0 → Checked first second s t b (left r b)
    read_second_refused {e} q h =
        subst (λ (q : Answer). Checked first second s t b (left q b)) (sym h)
        (second-is-refused first second s t b (decode-accepted wide first p.told) (decodes_refused wide second e q.told))

    pub read_compared : {v : Unit {0}} → Reads second g (Ok v) g' → {r : Result} → Compared (table_of f') (contract_for (table_of f') (table_of g')) (room_in f' g' s) (length (steps (table_of g') t)) s t b r → Checked first second s t b r
    read_compared q {r} h =
        let M = table wide first in
        let N = table wide second in
        let one = p.accepted p.told in
        let two = q.accepted q.told in
        both_compared first second s t b (decode-accepted wide first p.told) (decode-accepted wide second q.told)
        (subst₂ (λ (n l : ℕ). Compared (supported M) (contract M N) n l s t b r) (room-same one two s) (supported-length N t)
        (subst₂ (λ (M N : Table). Compared M (contract_for M N) (room_in f' g' s) (length (steps N t)) s t b r) one.same two.same h))
