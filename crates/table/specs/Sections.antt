-- What the functions over the sections return, by the definitions of Bytes: counts and places, and where the cursor is left.
-- Assumes nothing.
use Rattle.std.specs.Prelude.{◌≡◌, ◌&&◌, List, ℕ, ◌+◌, ◌*◌, leb, eqb, length}
use Rattle.layout.specs.Bytes.{refuse◌unless◌, section, half, actions, states_start, states, transitions_start, transitions, entries_start, entries, end}
use Rattle.table.specs.declared.parts.Items.{Items}

-- a section up to its items: a count of two bytes, at most the limit and equal to the total, and its items of w bytes each
abbrev pub count_refusal : (s : List ℕ) (p limit total number w : ℕ) → ℕ
count_refusal s p limit total number w =
    section (leb (p + 2) (length s)) (refuse number unless (leb (half s p) limit && eqb (half s p) total)) (leb (p + 2 + w * half s p) (length s)) 0

-- n items from the place a on, with the cursor at q
pub record ItemsAt (n a : ℕ) (i : Items) (q next : ℕ) : Type 0 where
  pub count : i.count ≡ n
  pub from : i.at ≡ a
  pub cursor : q ≡ next

-- those of a section at the place p
abbrev pub CountRead : (s : List ℕ) (p w : ℕ) → Items → ℕ → Type 0
CountRead s p w i q = ItemsAt (half s p) (p + 2) i q (p + 2 + w * half s p)

module _ (w : ℕ) (s : List ℕ) where
  pub record CodesRead (n q : ℕ) : Type 0 where
    pub count : n ≡ actions w s
    pub cursor : q ≡ states_start w s

  abbrev pub StatesRead : Items → ℕ → Type 0
  StatesRead i q = ItemsAt (states w s) (states_start w s + 1) i q (transitions_start w s)

  abbrev pub TransitionsRead : Items → ℕ → Type 0
  TransitionsRead i q = ItemsAt (transitions w s) (transitions_start w s + 2) i q (entries_start w s)

  abbrev pub EntriesRead : Items → ℕ → Type 0
  EntriesRead i q = ItemsAt (entries w s) (entries_start w s + 2) i q (end w s)
