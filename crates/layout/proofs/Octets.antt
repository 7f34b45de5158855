-- The encoding of a valid table is bytes.
-- Assumes nothing.
use mathlib.Core.Path.{◌≡◌, sym, ◌∙◌, ap, subst}
use mathlib.Core.List.{List, [], ◌∷◌, ◌++◌, map}
use Prim.Native.Nat.{ℕ, zero, suc, ◌/◌, ◌^◌, ◌≤◌, ◌<◌, suc-le-suc}
use native.Mathlib.Nat.{mod-lt, div-lt_iff_lt-mul, pow-suc}
use native.Mathlib.Omega.{arith}
use lib.ListN.{length, get_or, length-map, get_or-map}
use Rattle.simulation.specs.Sum.{concat}
use Rattle.simulation.specs.Fit.{total, weight}
use Rattle.simulation.specs.Table.{Entry, Transition, Table, weights, states_of, no_transition}
use Rattle.simulation.proofs.Finite.Sums.{sum_term}
use Rattle.simulation.specs.Limits.{most_total}
use Rattle.form.specs.Items.{all_transitions, all_entries}
use Rattle.form.specs.Valid.{Distribution, Valid}
use Rattle.layout.specs.Bytes.{Octets, byte}
use Rattle.layout.specs.Encode.{field_bytes, half_bytes, encode_transition, encode_entry, actions_section, states_section, transitions_section, entries_section, encode_as}
use Rattle.form.proofs.Lists.{concat_find}
use Rattle.layout.proofs.PlaceLaws.{no-entry}
use Rattle.layout.proofs.Numbered.{lists, lists_many, list_is, numbered, listed_at, distribution-at}
use Rattle.form.proofs.Sound.{few-targets}

-- every element of a list is a byte
abbrev Every : List ℕ → Type 0
Every [] = Unit {0}
Every (x ∷ xs) = (x < 256) × Every xs

octets : (l : List ℕ) → Every l → Octets l
octets [] h i = omega arith
octets (x ∷ xs) h zero = h.0
octets (x ∷ xs) h (suc i) = octets xs h.1 i

within : (l : List ℕ) → ((i : ℕ) → i < length l → byte l i < 256) → Every l
within [] h = tt
within (x ∷ xs) h = (h 0 (omega arith), within xs (λ i l. h (suc i) (suc-le-suc l)))

both : (xs ys : List ℕ) → Every xs → Every ys → Every (xs ++ ys)
both [] ys h g = g
both (x ∷ xs) ys h g = (h.0, both xs ys h.1 g)

-- one record for each element of a list
records {ℓ} : {A : Type ℓ} (d : A) (g : A → List ℕ) (l : List A) → ((j : ℕ) → j < length l → Every (g (get_or l j d))) → Every (concat (map g l))
unfolding concat
records d g [] h = tt
records d g (x ∷ xs) h = both (g x) (concat (map g xs)) (h 0 (omega arith)) (records d g xs (λ j l. h (suc j) (suc-le-suc l)))

half_octets : (n : ℕ) → n ≤ most_total → Every (half_bytes n)
half_octets n l = (mod-lt n (omega arith), ((div-lt_iff_lt-mul {k = 256} {x = n} {y = 256} (omega arith)).1 (omega arith), tt))

field_octets : (w n : ℕ) → n < 256 ^ w → Every (field_bytes w n)
unfolding field_bytes
field_octets zero n l = tt
field_octets (suc w) n l = (mod-lt n (omega arith), field_octets w (n / 256) ((div-lt_iff_lt-mul {k = 256} {x = n} {y = 256 ^ w} (omega arith)).1 (omega (arith, pow-suc 256 w))))

module _ (w : ℕ) (M : Table) (v : Valid w M) where
  counts : Every (map length M.states)
  counts = within (map length M.states) (λ q l.
      let n = length-map M.states length in
      let is = get_or-map length M.states q [] in
      let few = v.few_each q (omega arith) in
      omega arith)

  transition_octets : (j : ℕ) → j < length (all_transitions M) → Every (encode_transition w (numbered M j))
  transition_octets j l =
      let at = listed_at M v.shape j l in
      let small : (numbered M j).code < 256 ^ w = subst (λ (c : ℕ). c < 256 ^ w) at.2 (v.codes.small at.0 at.1) in
      let few = few-targets (states_of M) (numbered M j) (distribution-at M v.shape j l) in
      let states = v.shape.few_states in
      both (field_bytes w (numbered M j).code) (length (numbered M j).entries ∷ []) (field_octets w (numbered M j).code small) (omega arith, tt)

  -- an entry of a distribution
  entry_octets : (m : Transition) → Distribution (states_of M) m → (k : ℕ) → k < length m.entries → Every (encode_entry (get_or m.entries k no-entry))
  unfolding total
  entry_octets m d k l =
      let target_is = get_or-map (λ (e : Entry). e.target) m.entries k no-entry in
      let weight_is = get_or-map (λ (e : Entry). e.weight) m.entries k no-entry in
      let n = length-map m.entries (λ (e : Entry). e.weight) in
      let term = sum_term (length (weights m)) (weight (weights m)) k (omega arith) in
      let target = d.in_range k l in
      let small = d.small in
      let states = v.shape.few_states in
      (omega arith, half_octets (get_or m.entries k no-entry).weight (omega arith))

  entries_octets : (e : ℕ) → e < length (all_entries M) → Every (encode_entry (get_or (all_entries M) e no-entry))
  entries_octets e l =
      let f = concat_find no-entry (lists M) e l in
      let j = f.place in
      let b : j < length (all_transitions M) = omega (arith, f.place-below, lists_many M) in
      let is : get_or (all_entries M) e no-entry ≡ get_or (numbered M j).entries f.within no-entry = f.is ∙ ap (λ (es : List Entry). get_or es f.within no-entry) (list_is M j) in
      let k : f.within < length (numbered M j).entries = omega (arith, f.within-below, ap length (list_is M j)) in
      subst (λ (x : Entry). Every (encode_entry x)) (sym is) (entry_octets (numbered M j) (distribution-at M v.shape j b) f.within k)

  pub encode_octets : Octets (encode_as w M)
  unfolding encode_as
  encode_octets =
      let few_states = v.shape.few_states in
      let few_transitions = v.shape.few_transitions in
      let few_entries = v.shape.few_entries in
      let ts = concat (map (encode_transition w) (all_transitions M)) in
      let es = concat (map encode_entry (all_entries M)) in
      let cs = concat (map (field_bytes w) M.codes) in
      let first : Every (actions_section w M) = both (field_bytes w (length M.codes)) cs (field_octets w (length M.codes) v.codes.counted) (records 0 (field_bytes w) M.codes (λ i l. field_octets w (get_or M.codes i 0) (v.codes.small i l))) in
      let second : Every (states_section M) = (omega arith, counts) in
      let third : Every (transitions_section w M) = both (half_bytes (length (all_transitions M))) ts (half_octets (length (all_transitions M)) (omega arith)) (records no_transition (encode_transition w) (all_transitions M) transition_octets) in
      let fourth : Every (entries_section M) = both (half_bytes (length (all_entries M))) es (half_octets (length (all_entries M)) (omega arith)) (records no-entry encode_entry (all_entries M) entries_octets) in
      octets (encode_as w M) (both (actions_section w M ++ states_section M ++ transitions_section w M) (entries_section M) (both (actions_section w M ++ states_section M) (transitions_section w M) (both (actions_section w M) (states_section M) first second) third) fourth)
