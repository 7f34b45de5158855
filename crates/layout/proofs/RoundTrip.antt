-- The encoding of a valid table decodes to that table: with Accepted, decoding accepts exactly the encodings of valid tables.
-- Assumes nothing.
use mathlib.Core.Path.{◌≡◌, refl, sym, ◌∙◌, ap, ap₂, subst}
use mathlib.Core.List.{List, [], ◌∷◌, ◌++◌, map}
use Prim.Native.Nat.{ℕ, suc, ◌+◌, ◌*◌, ◌/◌, ◌%◌, ◌^◌, ◌<◌}
use native.Mathlib.Nat.{mod-add-div}
use native.Mathlib.Omega.{arith}
use lib.ListN.{length, get_or, length-append, length-map, get_or-append, get_or-map}
use lib.Seq.{get_or-append-add}
use Rattle.simulation.specs.Sum.{concat}
use Rattle.simulation.specs.Table.{Entry, Transition, Table, states_of, steps, no_transition}
use Rattle.form.specs.Items.{all_transitions, all_entries}
use Rattle.form.specs.Valid.{Valid}
use Rattle.layout.specs.Bytes.{byte, half, actions, code, states_start, states, count, transitions_start, transitions, label, size, entries_start, entries, accepted, decode_as}
use Rattle.layout.specs.Encode.{field_bytes, encode_transition, encode_entry, actions_section, states_section, transitions_section, entries_section, encode_as}
use Rattle.form.proofs.Lists.{length_records, records_at}
use Rattle.layout.proofs.Fields.{item_within, field-length, field_read}
use Rattle.layout.proofs.Numbered.{numbered, listed_at}
use Rattle.layout.proofs.Bounds.{actions-is, code-at-is, label-at-is, states-is, transitions_start_is, transitions-is, entries_start_is, entries-is, end_is}
use Rattle.layout.proofs.PlaceLaws.{no-entry}
use Rattle.layout.proofs.Laid.{Laid, laid_table, laid_passes}
use Rattle.layout.proofs.DecodeLaws.{decode-accepted}

-- the elements of four lists one after the other
module _ (A B C D : List ℕ) where
  abbrev four : List ℕ
  four = A ++ B ++ C ++ D

  in_first : (p : ℕ) → p < length A → byte four p ≡ byte A p
  in_first p l =
      let b = length-append A B in
      let c = length-append (A ++ B) C in
      get_or-append (A ++ B ++ C) D 0 p (omega arith) ∙ get_or-append (A ++ B) C 0 p (omega arith) ∙ get_or-append A B 0 p l

  in_second : (p : ℕ) → p < length B → byte four (length A + p) ≡ byte B p
  in_second p l =
      let b = length-append A B in
      let c = length-append (A ++ B) C in
      get_or-append (A ++ B ++ C) D 0 (length A + p) (omega arith) ∙ get_or-append (A ++ B) C 0 (length A + p) (omega arith) ∙ get_or-append-add A B p 0

  in_third : (p : ℕ) → p < length C → byte four (length A + length B + p) ≡ byte C p
  in_third p l =
      let b = length-append A B in
      let c = length-append (A ++ B) C in
      get_or-append (A ++ B ++ C) D 0 (length A + length B + p) (omega arith)
      ∙ ap (λ (n : ℕ). byte (A ++ B ++ C) (n + p)) (sym b) ∙ get_or-append-add (A ++ B) C p 0

  in_fourth : (p : ℕ) → byte four (length A + length B + length C + p) ≡ byte D p
  in_fourth p =
      let b = length-append A B in
      let c = length-append (A ++ B) C in
      let e : length A + length B + length C ≡ length (A ++ B ++ C) = omega arith in
      ap (λ (n : ℕ). byte four (n + p)) e ∙ get_or-append-add (A ++ B ++ C) D p 0

  long : length four ≡ length A + length B + length C + length D
  long = let b = length-append A B in let c = length-append (A ++ B) C in let d = length-append (A ++ B ++ C) D in omega arith

-- the field of two bytes that begins at a place
half_at : (s : List ℕ) (p n : ℕ) → byte s p ≡ n % 256 → byte s (p + 1) ≡ n / 256 → half s p ≡ n
half_at s p n low high = ap₂ (λ (a b : ℕ). a + 256 * b) low high ∙ mod-add-div n 256

module _ (w : ℕ) (M : Table) (v : Valid w M) where
  abbrev A : List ℕ
  A = actions_section w M

  abbrev B : List ℕ
  B = states_section M

  abbrev C : List ℕ
  C = transitions_section w M

  abbrev D : List ℕ
  D = entries_section M

  abbrev s : List ℕ
  s = four A B C D

  abbrev cs : List ℕ
  cs = M.codes

  abbrev ms : List Transition
  ms = all_transitions M

  abbrev es : List Entry
  es = all_entries M

  long-actions : length A ≡ w + w * length cs
  long-actions =
      omega (
        arith,
        length-append (field_bytes w (length cs)) (concat (map (field_bytes w) cs)),
        field-length w (length cs),
        length_records w (field_bytes w) (field-length w) cs,
      )

  long-states : length B ≡ suc (states_of M)
  long-states = ap suc (length-map M.states length)

  long-transition : (m : Transition) → length (encode_transition w m) ≡ w + 1
  long-transition m = omega (arith, length-append (field_bytes w m.code) (length m.entries ∷ []), field-length w m.code)

  long-transitions : length C ≡ 2 + (w + 1) * length ms
  long-transitions = let n = length_records (w + 1) (encode_transition w) long-transition ms in omega arith

  long-entries : length D ≡ 2 + 3 * length es
  long-entries = let n = length_records 3 encode_entry (λ e. refl) es in omega arith

  -- the counts, and where the sections begin
  actions_laid : actions w s ≡ length cs
  actions_laid =
      let n = length cs in
      actions-is w s ∙ field_read w n s 0 v.codes.counted (λ i l.
      let e : 0 + i ≡ i = omega arith in
      ap (byte s) e ∙ in_first A B C D i (omega (arith, long-actions)) ∙ get_or-append (field_bytes w n) (concat (map (field_bytes w) cs)) 0 i (omega (arith, field-length w n)))

  states_begin : states_start w s ≡ length A
  states_begin = ap (λ (n : ℕ). w + w * n) actions_laid ∙ sym long-actions

  states_laid : states w s ≡ states_of M
  states_laid =
      let e : states_start w s ≡ length A + 0 = omega (arith, states_begin) in
      states-is w s ∙ ap (byte s) e ∙ in_second A B C D 0 (omega (arith, long-states))

  transitions_begin : transitions_start w s ≡ length A + length B
  transitions_begin = omega (arith, transitions_start_is w s, states_begin, states_laid, long-states)

  transitions_laid : transitions w s ≡ length ms
  transitions_laid =
      let from = transitions_begin in
      let size = long-transitions in
      let low : transitions_start w s ≡ length A + length B + 0 = omega arith in
      let high : transitions_start w s + 1 ≡ length A + length B + 1 = omega arith in
      transitions-is w s ∙ half_at s (transitions_start w s) (length ms) (ap (byte s) low ∙ in_third A B C D 0 (omega arith)) (ap (byte s) high ∙ in_third A B C D 1 (omega arith))

  entries_begin : entries_start w s ≡ length A + length B + length C
  entries_begin =
      let many : (w + 1) * transitions w s ≡ (w + 1) * length ms = ap (λ (n : ℕ). (w + 1) * n) transitions_laid in
      omega (arith, entries_start_is w s, transitions_begin, many, long-transitions)

  entries_laid : entries w s ≡ length es
  entries_laid =
      let from = entries_begin in
      let low : entries_start w s ≡ length A + length B + length C + 0 = omega arith in
      let high : entries_start w s + 1 ≡ length A + length B + length C + 1 = omega arith in
      entries-is w s ∙ half_at s (entries_start w s) (length es) (ap (byte s) low ∙ in_fourth A B C D 0) (ap (byte s) high ∙ in_fourth A B C D 1)

  -- the items
  code_laid : (i : ℕ) → i < length cs → code w s i ≡ get_or cs i 0
  code_laid i l =
      let count = field_bytes w (length cs) in
      let items = concat (map (field_bytes w) cs) in
      code-at-is w s i ∙ field_read w (get_or cs i 0) s (w + w * i) (v.codes.small i l) (λ k m.
      let e : w + w * i + k ≡ length count + (w * i + k) = omega (arith, field-length w (length cs)) in
      in_first A B C D (w + w * i + k) (omega (arith, long-actions, item_within w i (length cs) l))
      ∙ ap (byte A) e ∙ get_or-append-add count items (w * i + k) 0 ∙ records_at w (field_bytes w) (field-length w) 0 0 cs i k l m)

  count_laid : (q : ℕ) → q < states_of M → count w s q ≡ length (steps M q)
  count_laid q l =
      let e : states_start w s + 1 + q ≡ length A + suc q = omega (arith, states_begin) in
      ap (byte s) e ∙ in_second A B C D (suc q) (omega (arith, long-states)) ∙ get_or-map length M.states q []

  -- the byte i of the record of the transition j
  transition_laid : (j i p : ℕ) → j < length ms → i < w + 1 → p ≡ transitions_start w s + 2 + ((w + 1) * j + i) → byte s p ≡ byte (encode_transition w (numbered M j)) i
  transition_laid j i p l m q =
      let e : p ≡ length A + length B + suc (suc ((w + 1) * j + i)) = omega (arith, transitions_begin) in
      ap (byte s) e ∙ in_third A B C D (suc (suc ((w + 1) * j + i))) (omega (arith, long-transitions, item_within (w + 1) j (length ms) l))
      ∙ records_at (w + 1) (encode_transition w) long-transition no_transition 0 ms j i l m

  label_laid : (j : ℕ) → j < length ms → label w s j ≡ (numbered M j).code
  label_laid j l =
      let c = (numbered M j).code in
      let p = transitions_start w s + 2 + (w + 1) * j in
      let at = listed_at M v.shape j l in
      let small : c < 256 ^ w = subst (λ (c : ℕ). c < 256 ^ w) at.2 (v.codes.small at.0 at.1) in
      label-at-is w s j ∙ field_read w c s p small (λ i m.
      transition_laid j i (p + i) l (omega arith) (omega arith) ∙ get_or-append (field_bytes w c) (length (numbered M j).entries ∷ []) 0 i (omega (arith, field-length w c)))

  size_laid : (j : ℕ) → j < length ms → size w s j ≡ length (numbered M j).entries
  size_laid j l =
      let c = (numbered M j).code in
      let n = length (numbered M j).entries in
      let e : w ≡ length (field_bytes w c) + 0 = omega (arith, field-length w c) in
      transition_laid j w (transitions_start w s + 2 + w + (w + 1) * j) l (omega arith) (omega arith)
      ∙ ap (byte (field_bytes w c ++ (n ∷ []))) e ∙ get_or-append-add (field_bytes w c) (n ∷ []) 0 0

  -- the byte i of the record of the entry j
  entry_laid : (j i p : ℕ) → j < length es → i < 3 → p ≡ entries_start w s + 2 + (3 * j + i) → byte s p ≡ byte (encode_entry (get_or es j no-entry)) i
  entry_laid j i p l m q =
      let from = entries_begin in
      let e : p ≡ length A + length B + length C + suc (suc (3 * j + i)) = omega arith in
      ap (byte s) e ∙ in_fourth A B C D (suc (suc (3 * j + i))) ∙ records_at 3 encode_entry (λ e. refl) no-entry 0 es j i l m

  laid : Laid w s M
  laid = record {
    codes-count = actions_laid;
    codes_are = code_laid;
    states-count = states_laid;
    counts-are = count_laid;
    transitions-count = transitions_laid;
    labels_are = label_laid;
    sizes_are = size_laid;
    entries-count = entries_laid;
    targets-are = λ j l. entry_laid j 0 (entries_start w s + 2 + 3 * j) l (omega arith) (omega arith);
    weights-are = λ j l.
        let p = entries_start w s + 2 + 3 * j + 1 in
        half_at s p (get_or es j no-entry).weight (entry_laid j 1 p l (omega arith) (omega arith)) (entry_laid j 2 (p + 1) l (omega arith) (omega arith));
    end-at = omega (arith, end_is w s, entries_begin, entries_laid, long A B C D, long-entries);
  }

  encode_laid : Laid w (encode_as w M) M
  unfolding encode_as
  encode_laid = laid

pub decode-encode : (w : ℕ) (M : Table) → Valid w M → decode_as w (encode_as w M) ≡ accepted M
decode-encode w M v =
    let l = encode_laid w M v in
    decode-accepted w (encode_as w M) (laid_passes w (encode_as w M) M l v) ∙ ap accepted (laid_table w (encode_as w M) M l)
