-- The bytes that are written are the encoding of the table in the wide layout, and how many they are.
-- Assumes nothing.
use mathlib.Core.Path.{◌≡◌, sym, ◌∙◌, ap, ap₂}
use mathlib.Core.List.{List, [], ◌∷◌, ◌++◌, map, append_assoc}
use Prim.Native.Nat.{ℕ, suc, ◌+◌, ◌*◌, ◌%◌, ◌<◌}
use native.Mathlib.Nat.{mod-eq_of_lt, div-eq_of_lt}
use native.Mathlib.Omega.{arith}
use lib.ListN.{length, length-append}
use Rattle.simulation.specs.Sum.{below, concat}
use Rattle.simulation.specs.Table.{Transition}
use Rattle.simulation.specs.Limits.{narrow, wide}
use Rattle.simulation.proofs.Finite.Lists.{below_length, below_ext}
use Rattle.form.proofs.Lists.{below-append, below_shift, map_below}
use Rattle.layout.specs.Bytes.{Octets, byte, half, actions, code, states_start, states, transitions_start, transitions, entries_start, entries, decoded_transition, table, refusal}
use Rattle.layout.specs.Encode.{field_bytes, half_bytes, encode_transition, actions_section, transitions_section, states_section, entries_section, encode_as, encode}
use Rattle.layout.proofs.Fields.{byte-field}
use Rattle.layout.proofs.Bounds.{passes, actions-is, code-at-is, label-at-is, transitions_start_is, transitions-is, entries_start_is, end_is}
use Rattle.layout.proofs.PlaceLaws.{code-count, label_is, entry-count}
use Rattle.layout.proofs.LayoutLaws.{transitions-in_order, transition-count}
use Rattle.layout.proofs.Accepted.{half_back, states_are, entries-are}
use Rattle.widen.specs.Parts.{run_of, wide_code, wide_codes, wide_transition, wide_transitions, wide_bytes}
use Rattle.widen.proofs.Pieces.{codes-length, transitions-length}

-- the low byte, and a high byte of 0
byte-wide : (b : ℕ) → b < 256 → field_bytes wide b ≡ b ∷ 0 ∷ []
unfolding field_bytes
byte-wide b l = ap₂ (λ (x y : ℕ). x ∷ y % 256 ∷ []) (mod-eq_of_lt l) (div-eq_of_lt l)

module _ (s : List ℕ) where
  pub wide-length : refusal narrow s ≡ 0 → length (wide_bytes s) ≡ length s + 1 + actions narrow s + transitions narrow s
  unfolding wide_bytes
  wide-length e =
      let a = wide_codes s (1 + actions narrow s) in
      let b = run_of s (states_start narrow s) (1 + states narrow s + 2) in
      let c = wide_transitions s (transitions_start narrow s + 2) (transitions narrow s) in
      let d = run_of s (entries_start narrow s) (2 + 3 * entries narrow s) in
      omega (
        arith,
        length-append a b,
        length-append (a ++ b) c,
        length-append (a ++ b ++ c) d,
        codes-length s (1 + actions narrow s),
        below_length (byte s) (states_start narrow s) (1 + states narrow s + 2),
        transitions-length s (transitions_start narrow s + 2) (transitions narrow s),
        below_length (byte s) (entries_start narrow s) (2 + 3 * entries narrow s),
        (passes narrow s e).of_end,
        end_is narrow s,
        entries_start_is narrow s,
        transitions_start_is narrow s,
      )

module _ (s : List ℕ) (bytes : Octets s) (e : refusal narrow s ≡ 0) where
  codes_are : wide_codes s (1 + actions narrow s) ≡ actions_section wide (table narrow s)
  unfolding wide_codes table below concat
  codes_are =
      let n = actions narrow s in
      let all : 1 + n ≡ suc n = omega arith in
      let count = code-count narrow s ∙ actions-is narrow s ∙ byte-field s 0 in
      let one : (i : ℕ) → wide_code s (1 + i) ≡ field_bytes wide (code narrow s i)
      = λ i. let q : 1 + 1 * i ≡ 1 + i = omega arith in
      sym (byte-wide (byte s (1 + i)) (bytes (1 + i))) ∙ sym (ap (field_bytes wide) (code-at-is narrow s i ∙ byte-field s (1 + 1 * i) ∙ ap (byte s) q)) in
      ap (wide_codes s) all
      ∙ ap₂ ◌++◌
      (sym (byte-wide (byte s 0) (bytes 0)) ∙ sym (ap (field_bytes wide) count))
      (ap concat
      (sym (below_shift (wide_code s) 1 0 n)
      ∙ below_ext (λ i. wide_code s (1 + i)) (λ i. field_bytes wide (code narrow s i)) 0 n (λ i _ _. one i)
      ∙ sym (map_below (field_bytes wide) 0 n (code narrow s))))

  transition-is : (j : ℕ) → wide_transition s (transitions_start narrow s + 2) j ≡ encode_transition wide (decoded_transition narrow s j)
  transition-is j =
      let p = transitions_start narrow s + 2 + 2 * j in
      let q : transitions_start narrow s + 2 + 1 + 2 * j ≡ p + 1 = omega arith in
      sym (ap₂ (λ (l : List ℕ) (n : ℕ). l ++ (n ∷ []))
      (ap (field_bytes wide) (label_is narrow s j ∙ label-at-is narrow s j ∙ byte-field s p) ∙ byte-wide (byte s p) (bytes p))
      (entry-count narrow s j ∙ ap (byte s) q))

  transitions-are : half_bytes (half s (transitions_start narrow s)) ++ wide_transitions s (transitions_start narrow s + 2) (transitions narrow s) ≡ transitions_section wide (table narrow s)
  unfolding wide_transitions
  transitions-are =
      let m = transitions narrow s in
      sym (ap₂ (λ (n : ℕ) (l : List ℕ). half_bytes n ++ l) (transition-count narrow s e ∙ transitions-is narrow s)
      (ap (λ (ms : List Transition). concat (map (encode_transition wide) ms)) (transitions-in_order narrow s e)
      ∙ ap concat (map_below (encode_transition wide) 0 m (decoded_transition narrow s)
      ∙ sym (below_ext (wide_transition s (transitions_start narrow s + 2)) (λ j. encode_transition wide (decoded_transition narrow s j)) 0 m (λ j _ _. transition-is j)))))

  states-part : run_of s (states_start narrow s) (1 + states narrow s + 2) ≡ states_section (table narrow s) ++ half_bytes (half s (transitions_start narrow s))
  unfolding below
  states-part =
      let p = transitions_start narrow s in
      let q : states_start narrow s + (1 + states narrow s) ≡ p = omega (arith, transitions_start_is narrow s) in
      let r : suc p ≡ p + 1 = omega arith in
      below-append (byte s) (states_start narrow s) (1 + states narrow s) 2
      ∙ ap₂ ◌++◌ (sym (states_are narrow s bytes e))
      (ap (λ (x : ℕ). run_of s x 2) q ∙ ap (λ (x : ℕ). byte s p ∷ byte s x ∷ []) r ∙ sym (half_back (byte s p) (byte s (p + 1)) (bytes p)))

  pub wide_is : wide_bytes s ≡ encode (table narrow s)
  unfolding wide_bytes encode_as
  wide_is =
      let a = actions_section wide (table narrow s) in
      let b = states_section (table narrow s) in
      let h = half_bytes (half s (transitions_start narrow s)) in
      let c = wide_transitions s (transitions_start narrow s + 2) (transitions narrow s) in
      let d = entries_section (table narrow s) in
      (λ i. codes_are i ++ states-part i ++ c ++ sym (entries-are narrow s bytes e) i)
      ∙ ap (λ (l : List ℕ). l ++ d) (ap (λ (l : List ℕ). l ++ c) (sym (append_assoc a b h)) ∙ append_assoc (a ++ b) h c)
      ∙ ap (λ (l : List ℕ). a ++ b ++ l ++ d) transitions-are

  pub encode-length : length (encode (table narrow s)) ≡ length s + 1 + actions narrow s + transitions narrow s
  encode-length = ap length (sym wide_is) ∙ wide-length s e
