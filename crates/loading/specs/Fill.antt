-- What the functions that write a form leave in it, by places.
-- Assumes nothing.
use Rattle.std.specs.Prelude.{◌≡◌, ◌⊎◌, ◌≢◌, List, ℕ, ◌+◌, ◌*◌, ◌≤◌, ◌<◌, length, drop, Result}
use Rattle.simulation.specs.Sum.{sum, below}
use Rattle.simulation.specs.Limits.{wide}
use Rattle.simulation.specs.Table.{Entry, steps, transition}
use Rattle.simulation.specs.Support.{support_entries, supported}
use Rattle.layout.specs.Bytes.{byte, half, actions, code, states, transitions, label, size, state_start, decoded_transition, refusal, table}
use Rattle.layout.specs.declared.refusals.Refusal.{Refusal}
use Rattle.layout.specs.Refusals.{PassesUnless}
use Rattle.table.specs.declared.parts.Layout.{Layout}
use Rattle.table.specs.Layouts.{layout}
use Rattle.form.specs.Form.{form_size, states_from, actions_from, codes_from, targets_from, listed_from, at, start_of, entries_listed, entry_start, entry_at, Loaded, table_of}

-- f' has n numbers from a place on, the i-th of which P holds at i, and is f elsewhere
pub record FormFilledBy (P : ℕ → ℕ → Type 0) (f : List ℕ) (from n : ℕ) (f' : List ℕ) : Type 0 where
  pub long : length f' ≡ length f
  pub filled : (i : ℕ) → i < n → P i (at f' (from + i))
  pub kept : (i : ℕ) → (i < from) ⊎ (from + n ≤ i) → at f' i ≡ at f i

-- these are g 0, …, g (n - 1)
abbrev pub FormFilled : (f : List ℕ) (from n : ℕ) (g : ℕ → ℕ) (f' : List ℕ) → Type 0
FormFilled f from n g f' = FormFilledBy (λ i v. v ≡ g i) f from n f'

-- n bytes of s, each step after the one before
abbrev pub run : (s : List ℕ) (from step : ℕ) → ℕ → ℕ
run s from step i = byte s (from + step * i)

-- n places of s are there, each step after the one before, and so are n places of a form
pub record Runs (s : List ℕ) (from step n : ℕ) (f : List ℕ) (to : ℕ) : Type 0 where
  pub bytes : (i : ℕ) → i < n → from + step * i < length s
  pub room : to + n ≤ length f

-- the form has the counts and the starts of the bytes s
pub record Counts (s f : List ℕ) : Type 0 where
  pub states_are : at f states_from ≡ states wide s
  pub actions_are : at f actions_from ≡ actions wide s
  pub starts_are : (q : ℕ) → q ≤ states wide s → start_of f q ≡ state_start wide s q

-- the form has the columns of transitions and of listed codes of the bytes s
pub record Columns (s f : List ℕ) : Type 0 where
  pub sizes_are : (j : ℕ) → j < transitions wide s → entries_listed f j ≡ size wide s j
  pub codes_are : (j : ℕ) → j < transitions wide s → at f (codes_from + j) ≡ label wide s j
  pub listed_are : (i : ℕ) → i < actions wide s → at f (listed_from + i) ≡ code wide s i

-- f and f' are equally long, and differ at the places from a on, below b, only
pub record Between (a b : ℕ) (f f' : List ℕ) : Type 0 where
  pub long : length f' ≡ length f
  pub kept : (i : ℕ) → (i < a) ⊎ (b ≤ i) → at f' i ≡ at f i

-- the entry at the place p of the bytes, and n entries from there on
abbrev pub entry_in : (s : List ℕ) (p : ℕ) → Entry
entry_in s p = record { target = byte s p; weight = half s (p + 1) }

abbrev pub entries_in : (s : List ℕ) (p n : ℕ) → List Entry
entries_in s p n = below 0 n (λ k. entry_in s (p + 3 * k))

-- f' has the entries es from number n on, and r is the number after them; entries before n are those of f, and so is all but the entries
pub record EntriesPut (es : List Entry) (f : List ℕ) (n : ℕ) (f' : List ℕ) (r : ℕ) : Type 0 where
  pub next : r ≡ n + length es
  pub are : below n (length es) (entry_at f') ≡ es
  pub before : (e : ℕ) → e < n → entry_at f' e ≡ entry_at f e
  pub elsewhere : Between targets_from listed_from f f'

-- the entries of the transition j whose weight is not 0, and how many come before them
abbrev pub support_of : (s : List ℕ) (j : ℕ) → List Entry
support_of s j = support_entries (decoded_transition wide s j).entries

abbrev pub support_start : (s : List ℕ) (j : ℕ) → ℕ
support_start s j = sum j (λ i. length (support_of s i))

-- the form has these entries for the first m transitions of the bytes s, and where they begin
pub record Supports (s f : List ℕ) (m : ℕ) : Type 0 where
  pub starts_are : (j : ℕ) → j < m → entry_start f j ≡ support_start s j
  pub runs_are : (j : ℕ) → j < m → below (support_start s j) (length (support_of s j)) (entry_at f) ≡ support_of s j

-- and where the last of them end
pub record SupportsUpTo (s f : List ℕ) (m : ℕ) : Type 0 where
  pub each : Supports s f m
  pub last_is : entry_start f m ≡ support_start s m

-- the bytes s are accepted, their parts lie where t says, and f has room for a form
pub record Laid (s : List ℕ) (t : Layout) (f : List ℕ) : Type 0 where
  pub passed : refusal wide s ≡ 0
  pub parts : t ≡ layout wide s
  pub room : form_size ≤ length f

-- f' holds the table of the accepted bytes s without its entries of weight 0, and how many entries each of its transitions lists;
-- it is f past the end of a form
pub record Loads (s f f' : List ℕ) : Type 0 where
  pub loaded : Loaded f'
  pub same : table_of f' ≡ supported (table wide s)
  pub listed : (q k : ℕ) → k < length (steps (table wide s) q) → entries_listed f' (start_of f' q + k) ≡ length (transition (table wide s) q k).entries
  pub long : length f' ≡ length f
  pub beyond : drop form_size f' ≡ drop form_size f

-- r tells the refusal of the bytes s; f' is loaded where there is none, and f as it was otherwise
pub record Reads (s f : List ℕ) (r : Result (Unit {0}) Refusal) (f' : List ℕ) : Type 0 where
  pub told : PassesUnless (refusal wide s) r
  pub accepted : refusal wide s ≡ 0 → Loads s f f'
  pub refused : refusal wide s ≢ 0 → f' ≡ f
