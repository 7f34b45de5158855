-- What widening answers, by what reading the old bytes answers.
-- Assumes nothing.
use mathlib.Core.Path.{◌≡◌, sym, ◌∙◌, ap, ap₂}
use mathlib.Core.Bool.{Bool, cond}
use mathlib.Core.List.{List}
use Prim.Native.Nat.{ℕ, ◌+◌, ◌≤◌, ◌<◌}
use native.Mathlib.Omega.{arith}
use lib.Dec.{ltb}
use lib.ListN.{length}
use borrow.Author.Tests.{lt-ltb, le-ltb}
use Rattle.simulation.specs.Limits.{narrow}
use Rattle.layout.specs.Bytes.{Decoded, refused, Octets, decode_as, table}
use Rattle.layout.specs.Encode.{encode}
use Rattle.table.specs.declared.parts.Layout.{Layout}
use Rattle.table.proofs.AnswerLaws.{Located}
use Rattle.table.proofs.PartLaws.{parts-known}
use Rattle.buffer.specs.Buffer.{over, Filled}
use Rattle.answer.specs.Numbers.{refusal, with_written}
use Rattle.answer.specs.declared.answer.Answer.{Answer}
use Rattle.widen.specs.Widened.{Widening, widened, widening}
use Rattle.widen.specs.Parts.{wide_bytes}
use Rattle.widen.proofs.Wide.{wide_is, encode-length}

-- a faulty table
pub widening-refused : (s out : List ℕ) {k : ℕ} {a : Answer} → decode_as narrow s ≡ refused k → a ≡ refusal k 1 0 → record { answer = a; out = out } ≡ widening s out
unfolding widened
widening-refused s out d h = ap (λ (a : Answer). record { answer = a; out = out }) h ∙ sym (ap (λ (d : Decoded). widened d out) d)

-- an accepted table with this layout
module _ (s out : List ℕ) (bytes : Octets s) {t : Layout} (told : Located narrow s t) where
  abbrev needed : ℕ
  needed = length s + 1 + t.actions + t.transitions.count

  needed_is : length (encode (table narrow s)) ≡ needed
  needed_is = let p = parts-known narrow s t told.passed told.laid in omega (arith, encode-length s bytes told.passed)

  -- by the test for room, where the wide bytes are l, and n of them
  abbrev result : Bool → ℕ → List ℕ → Widening
  result b n l = cond b (record { answer = refusal 27 0 n; out = out }) (record { answer = with_written n (refusal 0 0 0); out = over l out })

  by_room : {b : Bool} → ltb (length out) needed ≡ b → widening s out ≡ result b needed (wide_bytes s)
  unfolding widened
  by_room e =
      ap (λ (d : Decoded). widened d out) told.decodes
      ∙ ap₂ (λ (n : ℕ) (l : List ℕ). result (ltb (length out) n) n l) needed_is (sym (wide_is s bytes told.passed))
      ∙ ap (λ (b : Bool). result b needed (wide_bytes s)) e

  pub widening-short : {a : Answer} → length out < needed → a ≡ refusal 27 0 needed → record { answer = a; out = out } ≡ widening s out
  widening-short l h = ap (λ (a : Answer). record { answer = a; out = out }) h ∙ sym (by_room (lt-ltb (length out) needed l))

  pub widening-done : {r : ℕ} {now : List ℕ} {a b : Answer} → needed ≤ length out → Filled (wide_bytes s) r out now → b ≡ refusal 0 0 0 → a ≡ with_written needed b
      → record { answer = a; out = now } ≡ widening s out
  widening-done l w h q = ap₂ (λ (a : Answer) (o : List ℕ). record { answer = a; out = o }) (q ∙ ap (with_written needed) h) w.bytes ∙ sym (by_room (le-ltb (length out) needed l))
