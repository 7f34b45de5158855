-- Accepted numbers hold a table of valid shape; if they are bytes, it is valid and they are its encoding.
-- Assumes nothing.
use mathlib.Core.Path.{◌≡◌, refl, sym, ◌∙◌, ap, ap₂, subst}
use mathlib.Core.List.{List, [], ◌∷◌, ◌++◌, map}
use Prim.Native.Nat.{ℕ, suc, ◌+◌, ◌*◌, ◌<◌}
use native.Mathlib.Nat.{zero-add, add-zero}
use native.Mathlib.Omega.{arith}
use lib.ListN.{length}
use Rattle.simulation.specs.Sum.{below, concat}
use Rattle.simulation.specs.Table.{Entry, Transition, Table}
use Rattle.simulation.proofs.Finite.Lists.{below_length, below_ext}
use Rattle.form.specs.Items.{all_transitions, all_entries}
use Rattle.form.specs.Valid.{Shaped, Valid}
use Rattle.layout.specs.Bytes.{Octets, byte, half, actions, code, states_start, states, count, state_start, transitions_start, transitions, entries_start, entries, decoded_entry, decoded_transition, table, refusal, accepted, decode_as}
use Rattle.layout.specs.Encode.{field_bytes, half_bytes, encode_transition, encode_entry, actions_section, states_section, transitions_section, entries_section, encode_as}
use Rattle.form.proofs.Lists.{below-is, below-append, below_shift, below_records, map_below}
use Rattle.layout.proofs.Fields.{low_byte, high-bytes, field_back}
use Rattle.layout.proofs.Bounds.{passes, actions-is, code-at-is, label-at-is, states-is, transitions_start_is, transitions-is, entries_start_is, entries-is, end_is}
use Rattle.layout.proofs.PlaceLaws.{code-count, steps-from, states_are as table-states, state_count, entry-count, label_is}
use Rattle.layout.proofs.LayoutLaws.{transitions-in_order, transition-count, entries_in-order}
use Rattle.layout.proofs.ValidLaws.{shaped, valid}
use Rattle.layout.proofs.DecodeLaws.{decode-told}

-- the two bytes of a field
pub half_back : (a b : ℕ) → a < 256 → half_bytes (a + 256 * b) ≡ a ∷ b ∷ []
half_back a b l = λ i. low_byte a b l i ∷ high-bytes a b l i ∷ []

module _ (w : ℕ) (s : List ℕ) (bytes : Octets s) (e : refusal w s ≡ 0) where
  -- the n bytes from a place on
  abbrev part : ℕ → ℕ → List ℕ
  part p n = below p n (byte s)

  one-part : (p n : ℕ) → byte s p ∷ part (p + 1) n ≡ part p (1 + n)
  unfolding below
  one-part p n = sym (below-append (byte s) p 1 n)

  half-part : (p n : ℕ) → half_bytes (half s p) ++ part (p + 2) n ≡ part p (2 + n)
  unfolding below
  half-part p n =
      let q : p + 1 ≡ suc p = omega arith in
      ap (λ (l : List ℕ). l ++ part (p + 2) n) (half_back (byte s p) (byte s (p + 1)) (bytes p) ∙ ap (λ (x : ℕ). byte s p ∷ byte s x ∷ []) q)
      ∙ sym (below-append (byte s) p 2 n)

  join : (a n b : ℕ) → a + n ≡ b → part 0 a ++ part a n ≡ part 0 b
  join a n b q = ap (λ (x : ℕ). part 0 a ++ part x n) (sym (zero-add a)) ∙ sym (below-append (byte s) 0 a n) ∙ ap (part 0) q

  actions_are : actions_section w (table w s) ≡ part 0 (states_start w s)
  unfolding table
  actions_are =
      let n = actions w s in
      let first : w + w * 0 ≡ w = omega arith in
      let items : concat (map (field_bytes w) (table w s).codes) ≡ part w (w * n)
      = ap concat (map_below (field_bytes w) 0 n (code w s))
      ∙ below_records (byte s) w w 0 n (λ i. field_bytes w (code w s i)) (λ i _ _. ap (field_bytes w) (code-at-is w s i) ∙ field_back w s bytes (w + w * i))
      ∙ ap (λ (q : ℕ). part q (w * n)) first in
      ap₂ (λ (n : ℕ) (l : List ℕ). field_bytes w n ++ l) (code-count w s ∙ actions-is w s) items
      ∙ ap (λ (l : List ℕ). l ++ part w (w * n)) (field_back w s bytes 0)
      ∙ join w (w * n) (states_start w s) refl

  pub states_are : states_section (table w s) ≡ part (states_start w s) (1 + states w s)
  states_are =
      let counts : map length (table w s).states ≡ part (states_start w s + 1) (states w s)
      = ap (λ (ls : List (List Transition)). map length ls) (table-states w s)
      ∙ map_below length 0 (states w s) (steps-from w s)
      ∙ below_ext (λ q. length (steps-from w s q)) (count w s) 0 (states w s) (λ q _ _. below_length (decoded_transition w s) (state_start w s q) (count w s q))
      ∙ below_shift (byte s) (states_start w s + 1) 0 (states w s)
      ∙ ap (λ (p : ℕ). part p (states w s)) (add-zero (states_start w s + 1)) in
      ap₂ ◌∷◌ (state_count w s ∙ states-is w s) counts ∙ one-part (states_start w s) (states w s)

  transition-part : (j : ℕ) → encode_transition w (decoded_transition w s j) ≡ part (transitions_start w s + 2 + (w + 1) * j) (w + 1)
  unfolding below
  transition-part j =
      let p = transitions_start w s + 2 + (w + 1) * j in
      let q : transitions_start w s + 2 + w + (w + 1) * j ≡ p + w = omega arith in
      ap₂ (λ (l : List ℕ) (n : ℕ). l ++ (n ∷ [])) (ap (field_bytes w) (label_is w s j ∙ label-at-is w s j) ∙ field_back w s bytes p) (entry-count w s j ∙ ap (byte s) q)
      ∙ sym (below-append (byte s) p w 1)

  transitions-are : transitions_section w (table w s) ≡ part (transitions_start w s) (2 + (w + 1) * transitions w s)
  transitions-are =
      let m = transitions w s in
      let p = transitions_start w s + 2 in
      let first : p + (w + 1) * 0 ≡ p = omega arith in
      let items : concat (map (encode_transition w) (all_transitions (table w s))) ≡ part p ((w + 1) * m)
      = ap (λ (ms : List Transition). concat (map (encode_transition w) ms)) (transitions-in_order w s e)
      ∙ ap concat (map_below (encode_transition w) 0 m (decoded_transition w s))
      ∙ below_records (byte s) (w + 1) p 0 m (λ j. encode_transition w (decoded_transition w s j)) (λ j _ _. transition-part j)
      ∙ ap (λ (q : ℕ). part q ((w + 1) * m)) first in
      ap₂ (λ (n : ℕ) (l : List ℕ). half_bytes n ++ l) (transition-count w s e ∙ transitions-is w s) items
      ∙ half-part (transitions_start w s) ((w + 1) * m)

  entry-part : (j : ℕ) → encode_entry (decoded_entry w s j) ≡ part (entries_start w s + 2 + 3 * j) 3
  unfolding below
  entry-part j =
      let p = entries_start w s + 2 + 3 * j in
      let q : p + 1 ≡ suc p = omega arith in
      let r : p + 1 + 1 ≡ suc (suc p) = omega arith in
      ap (λ (l : List ℕ). byte s p ∷ l) (half_back (byte s (p + 1)) (byte s (p + 1 + 1)) (bytes (p + 1)) ∙ ap₂ (λ (a b : ℕ). byte s a ∷ byte s b ∷ []) q r)

  pub entries-are : entries_section (table w s) ≡ part (entries_start w s) (2 + 3 * entries w s)
  entries-are =
      let n = entries w s in
      let p = entries_start w s + 2 in
      let order = entries_in-order w s e in
      let items : concat (map encode_entry (all_entries (table w s))) ≡ part p (3 * n)
      = ap (λ (es : List Entry). concat (map encode_entry es)) order
      ∙ ap concat (map_below encode_entry 0 n (decoded_entry w s))
      ∙ below_records (byte s) 3 p 0 n (λ j. encode_entry (decoded_entry w s j)) (λ j _ _. entry-part j)
      ∙ ap (λ (q : ℕ). part q (3 * n)) (add-zero p) in
      ap₂ (λ (n : ℕ) (l : List ℕ). half_bytes n ++ l) (ap length order ∙ below_length (decoded_entry w s) 0 n ∙ entries-is w s) items
      ∙ half-part (entries_start w s) (3 * n)

  encodes : encode_as w (table w s) ≡ s
  unfolding encode_as
  encodes =
      let a = transitions_start_is w s in
      let b = entries_start_is w s in
      let c = end_is w s in
      let d = (passes w s e).of_end in
      (λ i. actions_are i ++ states_are i ++ transitions-are i ++ entries-are i)
      ∙ ap (λ (l : List ℕ). l ++ part (transitions_start w s) (2 + (w + 1) * transitions w s) ++ part (entries_start w s) (2 + 3 * entries w s)) (join (states_start w s) (1 + states w s) (transitions_start w s) (omega arith))
      ∙ ap (λ (l : List ℕ). l ++ part (entries_start w s) (2 + 3 * entries w s)) (join (transitions_start w s) (2 + (w + 1) * transitions w s) (entries_start w s) (omega arith))
      ∙ join (entries_start w s) (2 + 3 * entries w s) (length s) (omega arith)
      ∙ below-is 0 s 0 (length s) (byte s) refl (λ k l. ap (byte s) (zero-add k))

module _ (w : ℕ) (s : List ℕ) (M : Table) (h : decode_as w s ≡ accepted M) where
  pub accepted_shaped : Shaped M
  accepted_shaped = let d = decode-told w s M h in subst Shaped d.table_is (shaped w s d.passed)

module _ (w : ℕ) (s : List ℕ) (bytes : Octets s) (M : Table) (h : decode_as w s ≡ accepted M) where
  pub accepted-valid : Valid w M
  accepted-valid = let d = decode-told w s M h in subst (Valid w) d.table_is (valid w s bytes d.passed)

  pub accepted_encodes : encode_as w M ≡ s
  accepted_encodes = let d = decode-told w s M h in ap (encode_as w) (sym d.table_is) ∙ encodes w s bytes d.passed
