-- What decoding gives, by the refusal that the check of a table returns; and how many states it is counted to have.
-- Assumes nothing.
use Rattle.layout.specs.declared.refusals.Refusal.{Refusal}
use Rattle.layout.specs.Refusals.{number_of}
use Rattle.layout.proofs.SectionLaws.{accepted-holds}
use Rattle.layout.proofs.RefusalLaws.{cut_at}
use Rattle.table.proofs.AnswerLaws.{decodes_refused}
use mathlib.Core.Path.{◌≡◌, sym, ap, ◌∙◌}
use mathlib.Core.Bool.{true}
use mathlib.Core.List.{List}
use Prim.Native.Nat.{ℕ, ◌+◌, ◌≤◌, ◌<◌, zero-le}
use native.Mathlib.Omega.{arith}
use lib.Dec.{leb}
use lib.ListN.{length}
use borrow.Author.Tests.{le-leb, lt-leb}
use Rattle.simulation.specs.Limits.{wide, most_states}
use Rattle.simulation.specs.Table.{states_of}
use Rattle.layout.specs.Bytes.{refuse◌unless◌, states_start, states, decode, refusal as refused-by}
use Rattle.layout.proofs.Bounds.{accepted_bounds}
use Rattle.layout.proofs.PlaceLaws.{state_count}
use Rattle.layout.proofs.DecodeLaws.{decode-accepted, decode-told}
use Rattle.answer.specs.Numbers.{refusal}
use Rattle.pod.specs.Check.{table_answer, states_stated, StatesCounted}

module _ (s : List ℕ) where
  pub table-accepted : refused-by wide s ≡ 0 → table_answer (decode s) ≡ refusal 0 0 0
  unfolding table_answer
  table-accepted e = ap table_answer (decode-accepted wide s e)

  pub table-refused : (e : Refusal) → refused-by wide s ≡ number_of e → table_answer (decode s) ≡ refusal (number_of e) 1 0
  unfolding table_answer
  table-refused e h = ap table_answer (decodes_refused wide s e h)

  -- where the bytes end before the count of states, or where it is above the limit, they are refused
  uncounted : 0 ≡ states_stated s → (refused-by wide s ≡ 0 → ⊥) → StatesCounted s 0
  uncounted e f = record { stated = e; right = λ M d. absurd (f (decode-told wide s M d).passed); few = zero-le }

  pub cut_short : (e : Refusal) → refuse 1 unless leb (states_start wide s + 1) (length s) ≡ number_of e → StatesCounted s 0
  unfolding states_stated
  cut_short e h =
      let short = cut_at (states_start wide s + 1) (length s) e h in
      uncounted (rw (lt-leb (states_start wide s + 1) (length s) short)) (λ z. omega (arith, (accepted_bounds wide s z).of_states.bytes))

  module _ {n : ℕ} (present : refuse 1 unless leb (states_start wide s + 1) (length s) ≡ 0) (e : n ≡ states wide s) where
    there : leb (states_start wide s + 1) (length s) ≡ true
    there = accepted-holds 0 _ present

    pub too_many : most_states < n → StatesCounted s 0
    unfolding states_stated
    too_many l = uncounted (rw (there, lt-leb (states wide s) most_states (omega arith))) (λ z. omega (arith, (accepted_bounds wide s z).of_states.few))

    pub counted : n ≤ most_states → StatesCounted s n
    unfolding states_stated
    counted few =
        record {
          stated = e ∙ rw (there, le-leb (states wide s) most_states (omega arith));
          right = λ M d. e ∙ sym (state_count wide s) ∙ ap states_of (decode-told wide s M d).table_is;
          few = few;
        }
