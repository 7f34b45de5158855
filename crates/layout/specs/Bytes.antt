-- A table in bytes (01, "A table in bytes"; 02, E2 and E6): where each section lies, what refuses it, and the table that it stands for.
-- A code, and the count of codes, takes w bytes: 1 in the old layout, 2 in the wide one.
-- A refusal is its number in 01, 0 for none. A byte past the end counts as 0; it is never reached, since 1 refuses first.
-- Assumes nothing.
use Rattle.std.specs.Prelude.{Bool, true, false, ◌&&◌, ◌||◌, List, ℕ, zero, suc, pred, ◌+◌, ◌*◌, ◌-◌, ◌≤◌, ◌<◌, length, get_or}
use Rattle.std.proofs.Math.Dec.{leb, ltb, eqb}
use Rattle.simulation.specs.Sum.{sum, any, below}
use Rattle.simulation.specs.Table.{Entry, Transition, Table}
use Rattle.simulation.specs.Limits.{narrow, wide, most_codes, most_states, most_transitions, most_entries, most_total}

infixl 20 ◌then◌
infix 25 refuse◌unless◌
unfoldable pub refuse◌unless◌ : ℕ → Bool → ℕ
refuse k unless true = 0
refuse k unless false = k

-- the first of two refusals
unfoldable pub ◌then◌ : ℕ → ℕ → ℕ
zero then g = g
suc f then g = suc f

-- the first refusal of the items i, …, i + n - 1
unfoldable pub first : ℕ → ℕ → (ℕ → ℕ) → ℕ
unfolding ◌then◌
first i zero f = 0
first i (suc n) f = f i then first (suc i) n f

-- a section: count present, the count's own rule, all bytes present, then the items
unfoldable pub section : (present : Bool) (rule : ℕ) (whole : Bool) (items : ℕ) → ℕ
unfolding refuse◌unless◌ ◌then◌
section present rule whole items = refuse 1 unless present then rule then refuse 1 unless whole then items

abbrev pub byte : List ℕ → ℕ → ℕ
byte s i = get_or s i 0

-- every element is a byte
abbrev pub Octets : List ℕ → Type 0
Octets s = (i : ℕ) → byte s i < 256

-- the bytes of a code in one of the layouts
abbrev pub CodeWidth : ℕ → Type 0
CodeWidth w = (narrow ≤ w) × (w ≤ wide)

-- a field of w bytes, low byte first
unfoldable pub field : (w : ℕ) → List ℕ → ℕ → ℕ
field zero s i = 0
field (suc w) s i = byte s i + 256 * field w s (i + 1)

-- one of two bytes
abbrev pub half : List ℕ → ℕ → ℕ
half s i = byte s i + 256 * byte s (i + 1)

module _ (s : List ℕ) where
  -- the entry k of the transition whose entries begin at the place p: the target is one of n states and above the one before
  unfoldable pub target_right : (n p k : ℕ) → Bool
  target_right n p k = ltb (byte s (p + 3 * k)) n && (eqb k 0 || ltb (byte s (p + 3 * (k - 1))) (byte s (p + 3 * k)))

  abbrev pub weight_from : (p k : ℕ) → ℕ
  weight_from p k = half s (p + 3 * k + 1)

  -- the total of the first k weights
  abbrev pub total_from : (p k : ℕ) → ℕ
  total_from p k = sum k (weight_from p)

  -- the total so far, this weight with it, is within the limit
  unfoldable pub weight_right : (p k : ℕ) → Bool
  unfolding sum
  weight_right p k = leb (total_from p (k + 1)) most_total

  unfoldable pub entry_refusal : (n p k : ℕ) → ℕ
  unfolding refuse◌unless◌ ◌then◌ target_right weight_right
  entry_refusal n p k = refuse 9 unless target_right n p k then refuse 10 unless weight_right p k

  -- the entries of a transition, size of them from the place p on; after the last, their total is not 0
  unfoldable pub distribution_refusal : (n p size : ℕ) → ℕ
  unfolding refuse◌unless◌ ◌then◌ first sum entry_refusal
  distribution_refusal n p size = first 0 size (entry_refusal n p) then refuse 10 unless ltb 0 (total_from p size)

module _ (w : ℕ) (s : List ℕ) where
  -- the j-th of the sizes that stand after each code of a transition, from the place q on
  abbrev pub size_from : (q j : ℕ) → ℕ
  size_from q j = byte s (q + (w + 1) * j)

  -- 1. Actions
  unfoldable pub actions : ℕ
  unfolding field
  actions = field w s 0

  unfoldable pub code : ℕ → ℕ
  unfolding field
  code i = field w s (w + w * i)

  -- 2. States
  abbrev pub states_start : ℕ
  states_start = w + w * actions

  unfoldable pub states : ℕ
  unfolding actions
  states = byte s states_start

  -- how many transitions the state q has
  abbrev pub count : ℕ → ℕ
  count q = byte s (states_start + 1 + q)

  -- 3. Transitions
  unfoldable pub transitions_start : ℕ
  unfolding states
  transitions_start = states_start + 1 + states

  unfoldable pub transitions : ℕ
  unfolding transitions_start
  transitions = half s transitions_start

  unfoldable pub label : ℕ → ℕ
  unfolding field transitions_start
  label j = field w s (transitions_start + 2 + (w + 1) * j)

  -- how many entries the transition j has
  abbrev pub size : ℕ → ℕ
  size j = size_from (transitions_start + 2 + w) j

  -- 4. Entries
  unfoldable pub entries_start : ℕ
  unfolding transitions_start transitions
  entries_start = transitions_start + 2 + (w + 1) * transitions

  unfoldable pub entries : ℕ
  unfolding entries_start
  entries = half s entries_start

  abbrev pub entry_target : ℕ → ℕ
  entry_target e = byte s (entries_start + 2 + 3 * e)

  abbrev pub entry_weight : ℕ → ℕ
  entry_weight e = half s (entries_start + 2 + 3 * e + 1)

  unfoldable pub end : ℕ
  unfolding entries_start entries
  end = entries_start + 2 + 3 * entries

  -- Items belong in order: the first transition of a state and the first entry of a transition
  abbrev pub state_start : ℕ → ℕ
  state_start q = sum q count

  abbrev pub start : ℕ → ℕ
  start j = sum j size

  -- What refuses each section, and each of its items
  unfoldable pub code_refusal : ℕ → ℕ
  unfolding refuse◌unless◌ code
  code_refusal i = refuse 3 unless ltb (code i) (code (i + 1))

  abbrev pub actions_refusal : ℕ
  actions_refusal = section (leb w (length s)) (refuse 3 unless leb actions most_codes) (leb states_start (length s)) (first 0 (pred actions) code_refusal)

  abbrev pub states_refusal : ℕ
  states_refusal =
      section (leb (states_start + 1) (length s)) (refuse 4 unless (ltb 0 states && leb states most_states)) (leb (states_start + 1 + states) (length s)) 0

  -- the transition at the place p
  unfoldable pub transition_refusal : ℕ → ℕ
  unfolding refuse◌unless◌ ◌then◌ any actions code field
  transition_refusal p =
      refuse 6 unless any actions (λ i. eqb (code i) (field w s p))
      then refuse 8 unless ltb 0 (byte s (p + w))

  abbrev pub transitions_refusal : ℕ
  transitions_refusal =
      section (leb (transitions_start + 2) (length s))
      (refuse 5 unless (leb transitions most_transitions && eqb transitions (sum states count)))
      (leb (transitions_start + 2 + (w + 1) * transitions) (length s))
      (first 0 transitions (λ j. transition_refusal (transitions_start + 2 + (w + 1) * j)))

  -- the entries of the transition j, where the sizes begin at the place q and the entries at the place p
  unfoldable pub run_refusal : (n q p j : ℕ) → ℕ
  unfolding sum distribution_refusal
  run_refusal n q p j = distribution_refusal s n (p + 3 * sum j (size_from q)) (size_from q j)

  abbrev pub entries_refusal : ℕ
  entries_refusal =
      section (leb (entries_start + 2) (length s))
      (refuse 7 unless (leb entries most_entries && eqb entries (sum transitions size)))
      (leb (entries_start + 2 + 3 * entries) (length s))
      (first 0 transitions (run_refusal states (transitions_start + 2 + w) (entries_start + 2)))

  unfoldable pub refusal : ℕ
  unfolding section first code_refusal transition_refusal run_refusal end
  refusal =
      actions_refusal then states_refusal then transitions_refusal then entries_refusal then refuse 2 unless eqb end (length s)

  -- The table
  abbrev pub decoded_entry : ℕ → Entry
  decoded_entry e = record { target = entry_target e; weight = entry_weight e }

  unfoldable pub decoded_transition : ℕ → Transition
  unfolding below sum label
  decoded_transition j = record { code = label j; entries = below (start j) (size j) decoded_entry }

  unfoldable pub table : Table
  unfolding below sum decoded_transition states code
  table = record { codes = below 0 actions code; states = below 0 states (λ q. below (state_start q) (count q) decoded_transition) }

pub data Decoded : Type 0 where
  refused : ℕ → Decoded
  accepted : Table → Decoded

-- 01's number, 0 for an accepted table
abbrev pub number : Decoded → ℕ
number (refused k) = k
number (accepted M) = 0

unfoldable pub decided : ℕ → Table → Decoded
decided zero t = accepted t
decided (suc k) t = refused (suc k)

-- what bytes decode to in the layout of that width
unfoldable pub decode_as : ℕ → List ℕ → Decoded
unfolding decided refusal table
decode_as w s = decided (refusal w s) (table w s)

-- the wide layout is the one that is checked
abbrev pub decode : List ℕ → Decoded
decode = decode_as wide
