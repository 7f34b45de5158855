-- Sets of states and walks over them: the laws of numbers made of words, at the words of a set.
-- Assumes nothing.
use mathlib.Core.Path.{◌≡◌, refl, sym, ap, ap₂, ◌∙◌, subst, fun_ext}
use mathlib.Core.Bool.{Bool, true, false, not, ◌&&◌, true≢false}
use mathlib.Core.List.{List, [], ◌∷◌}
use mathlib.Core.Logic.{⊎_elim, ◌≢◌}
use native.Mathlib.Decide.{ℕ_discrete}
use borrow.Author.Tests.{lt-ltb, le-ltb, eq-eqb, ne_eqb, eqb-true, eqb-false}
use Prim.Native.Nat.{ℕ, zero, suc, ◌+◌, ◌-◌, ◌*◌, ◌/◌, ◌%◌, ◌^◌, ◌≤◌, ◌<◌, min}
use native.Mathlib.Nat.{not-suc-le-zero, le_of_suc-le-suc, lt_irrefl}
use native.Mathlib.Omega.{arith}
use lib.Dec.{eqb, ltb}
use lib.Bits.{bit_or}
use lib.ListN.{length, get_or, set, length-set}
use lib.Seq.{get_or-set_same, get_or-set_other}
use Rattle.simulation.specs.Sum.{sum}
use Rattle.word.specs.Mask.{Test, member, up_to, without_member, both, except, part, size, Lowest, word_bits}
use Rattle.simulation.specs.Limits.{most_states}
use Rattle.simulation.proofs.Finite.Tests.{neither_true}
use Rattle.set.specs.Words.{words, word_of, mask}
use Rattle.set.specs.declared.Set.{Set}
use Rattle.word.proofs.Mask.{member-none, member_or, below_or_not, no_member}
use Rattle.set.proofs.Words.{equation, bit_at, number_lt, words_are, number-none, word_wise, word_put, number_lowest, number-drop, number-less, words_size}

abbrev pub of_words : List ℕ → Set
of_words l = record { words = l }

-- what holds of both words
pub two : (P : ℕ → Type 0) → P 0 → P 1 → (i : ℕ) → i < words → P i
two P a b zero lt = a
two P a b (suc zero) lt = b
two P a b (suc (suc i)) lt = absurd (not-suc-le-zero (le_of_suc-le-suc (le_of_suc-le-suc lt)))

first_word : (i : ℕ) → i < 1 → i ≡ 0
first_word i lt = omega arith

pub mask_lt : (s : Set) → mask s < 2 ^ most_states
unfolding mask
mask_lt s = number_lt words (word_of s)

-- the bit of t, as the code finds it
pub place_of : (t : ℕ) → t / word_bits * word_bits + t % word_bits ≡ t
place_of t = omega arith

pub mask-bit : (s : Set) (t : ℕ) → t < most_states → member (word_of s (t / word_bits)) (t % word_bits) ≡ member (mask s) t
unfolding mask
mask-bit s t lt = sym (bit_at words (word_of s) (t / word_bits) (t % word_bits) (omega arith) (omega arith)) ∙ ap (member (mask s)) (place_of t)

pub mask-none : mask (of_words (0 ∷ 0 ∷ [])) ≡ 0
unfolding mask
mask-none = number-none words (word_of (of_words (0 ∷ 0 ∷ []))) (two (λ i. get_or (0 ∷ 0 ∷ []) i 0 ≡ 0) refl refl)

-- a set is empty where all its words are 0
pub zero-words : (s : Set) → word_of s 0 ≡ 0 → word_of s 1 ≡ 0 → mask s ≡ 0
unfolding mask
zero-words s a b = number-none words (word_of s) (two (λ i. word_of s i ≡ 0) a b)

word_zero : (s : Set) (i : ℕ) → i < words → word_of s i < 2 ^ word_bits → mask s ≡ 0 → word_of s i ≡ 0
unfolding mask
word_zero s i li h e =
    no_member word_bits (word_of s i) h (λ u lu. sym (bit_at words (word_of s) i u li lu) ∙ ap (λ (n : ℕ). member n (i * word_bits + u)) e ∙ member-none (i * word_bits + u))

-- and has a member where one is not
pub some_word : (s : Set) (i : ℕ) → i < words → word_of s i < 2 ^ word_bits → word_of s i ≢ 0 → 0 < mask s
some_word s i li h q = at (ℕ_discrete (mask s) 0)
  where
    at : Dec (mask s ≡ 0) → 0 < mask s
    at (yes e) = absurd (q (word_zero s i li h e))
    at (no z) = omega (arith, z)

or_zero : (a b : ℕ) → a < 2 ^ word_bits → b < 2 ^ word_bits → bit_or a b ≡ 0 → (a ≡ 0) × (b ≡ 0)
or_zero a b ha hb e =
    let at : (u : ℕ) → (member a u ≡ false) × (member b u ≡ false) = λ u. neither_true (member a u) (member b u) (sym (member_or a b u) ∙ ap (λ (n : ℕ). member n u) e ∙ member-none u) in
    (no_member word_bits a ha (λ u _. (at u).0), no_member word_bits b hb (λ u _. (at u).1))

pub words-empty : (s : Set) → word_of s 0 < 2 ^ word_bits → word_of s 1 < 2 ^ word_bits → eqb (bit_or (word_of s 0) (word_of s 1)) 0 ≡ eqb (mask s) 0
words-empty s ha hb = at (ℕ_discrete (mask s) 0)
  where
    at : Dec (mask s ≡ 0) → eqb (bit_or (word_of s 0) (word_of s 1)) 0 ≡ eqb (mask s) 0
    at (yes e) = ap (λ (n : ℕ). eqb n 0) (ap₂ bit_or (word_zero s 0 (omega arith) ha e) (word_zero s 1 (omega arith) hb e)) ∙ sym (eq-eqb (mask s) 0 e)
    at (no q) =
        ne_eqb (bit_or (word_of s 0) (word_of s 1)) 0 (λ e. let z = or_zero (word_of s 0) (word_of s 1) ha hb e in q (zero-words s z.0 z.1))
        ∙ sym (ne_eqb (mask s) 0 q)

-- the second word of a set that has a member, where the first has none
pub high_word : (s : Set) → 0 < mask s → word_of s 0 ≡ 0 → 0 < word_of s 1
high_word s pos e = at (ℕ_discrete (word_of s 1) 0)
  where
    at : Dec (word_of s 1 ≡ 0) → 0 < word_of s 1
    at (yes z) = absurd (lt_irrefl 0 (subst (λ (n : ℕ). 0 < n) (zero-words s e z) pos))
    at (no q) = omega (arith, q)

-- one bit changed in its word
module _ (g : Bool → Bool → Bool) (keep : (b : Bool) → g false b ≡ b) where
  pub changed : (l : List ℕ) (t x : ℕ) → t < most_states → t / word_bits < length l → member x ≡ (λ u. g (eqb u (t % word_bits)) (member (get_or l (t / word_bits) 0) u))
      → member (mask (of_words (set l (t / word_bits) x))) ≡ (λ k. g (eqb k t) (member (mask (of_words l)) k))
  unfolding mask
  changed l t x lt room e =
      word_put g keep words (word_of (of_words l)) (word_of (of_words (set l (t / word_bits) x))) (t / word_bits) (t % word_bits) (omega arith) (omega arith)
      (λ v. ap (λ (n : ℕ). member n v) (get_or-set_same l (t / word_bits) x 0 room) ∙ ap (λ X. X v) e)
      (λ j _ ne. get_or-set_other l (t / word_bits) j x 0 ne)
      ∙ ap {B = Test} (λ (m : ℕ). λ (k : ℕ). g (eqb k m) (member (mask (of_words l)) k)) (place_of t)

-- word by word
module _ (g : Bool → Bool → Bool) (none : g false false ≡ false) where
  pub joined : (a b : Set) (x y : ℕ) → member x ≡ (λ u. g (member (word_of a 0) u) (member (word_of b 0) u))
      → member y ≡ (λ u. g (member (word_of a 1) u) (member (word_of b 1) u)) → member (mask (of_words (x ∷ y ∷ []))) ≡ (λ t. g (member (mask a) t) (member (mask b) t))
  unfolding mask
  joined a b x y e f =
      word_wise g none words (word_of a) (word_of b) (word_of (of_words (x ∷ y ∷ [])))
      (λ i u li lu. ap (λ X. X u) (two (λ j. member (word_of (of_words (x ∷ y ∷ [])) j) ≡ (λ v. g (member (word_of a j) v) (member (word_of b j) v))) e f i li))

-- every number below n
pub low_below : (n x : ℕ) → n < word_bits → member x ≡ up_to n → member (mask (of_words (x ∷ 0 ∷ []))) ≡ up_to n
unfolding mask
low_below n x lt e =
    words_are words (word_of (of_words (x ∷ 0 ∷ []))) (up_to n)
    (λ i u li lu. two (λ j. member (word_of (of_words (x ∷ 0 ∷ [])) j) u ≡ up_to n (j * word_bits + u))
    (ap (λ X. X u) e ∙ ap (λ (k : ℕ). ltb k n) (equation u (0 * word_bits + u) (omega arith)))
    (member-none u ∙ sym (le-ltb (1 * word_bits + u) n (omega arith))) i li)
    (λ t le. le-ltb t n (omega arith))

pub high-below : (n x y : ℕ) → word_bits ≤ n → n ≤ most_states → member x ≡ up_to word_bits → member y ≡ up_to (n - word_bits) → member (mask (of_words (x ∷ y ∷ []))) ≡ up_to n
unfolding mask
high-below n x y ge le e f =
    words_are words (word_of (of_words (x ∷ y ∷ []))) (up_to n)
    (λ i u li lu. two (λ j. member (word_of (of_words (x ∷ y ∷ [])) j) u ≡ up_to n (j * word_bits + u))
    (ap (λ X. X u) e ∙ lt-ltb u word_bits lu ∙ sym (lt-ltb (0 * word_bits + u) n (omega arith)))
    (ap (λ X. X u) f ∙ ⊎_elim
    (λ lt. lt-ltb u (n - word_bits) lt ∙ sym (lt-ltb (1 * word_bits + u) n (omega arith)))
    (λ ge'. le-ltb u (n - word_bits) ge' ∙ sym (le-ltb (1 * word_bits + u) n (omega arith)))
    (below_or_not u (n - word_bits))) i li)
    (λ t out. le-ltb t n (omega arith))

-- the members of both words
sum_two : (f : ℕ → ℕ) → sum 2 f ≡ f 0 + f 1
unfolding sum
sum_two f = omega arith

pub count-is : (s : Set) → size word_bits (member (word_of s 0)) + size word_bits (member (word_of s 1)) ≡ size most_states (member (mask s))
unfolding mask
count-is s = sym (words_size words words (word_of s) (omega arith) ∙ sum_two (λ i. size word_bits (member (word_of s i))))

-- the lowest member, and the set without it, where word i is the first that has a member
module _ (s : Set) (i u : ℕ) (li : i < words) (lu : u < word_bits) (none : (j : ℕ) → j < i → word_of s j ≡ 0) (l : Lowest (member (word_of s i)) u) where
  no_lower : (j v : ℕ) → j < i → member (word_of s j) v ≡ false
  no_lower j v lt = ap (λ (n : ℕ). member n v) (none j lt) ∙ member-none v

  pub lowest_is : Lowest (member (mask s)) (i * word_bits + u)
  unfolding mask
  lowest_is = number_lowest words (word_of s) i u li lu no_lower l

  module _ (r : Set) (here : member (word_of r i) ≡ without_member u (member (word_of s i))) (other : (j : ℕ) → j < words → j ≢ i → word_of r j ≡ word_of s j) where
    pub lowest_dropped : ((t : ℕ) → Lowest (member (mask s)) t → member (mask r) ≡ without_member t (member (mask s))) × (mask r < mask s)
    unfolding mask
    lowest_dropped =
        (number-drop words (word_of s) (word_of r) i u li lu no_lower l here other, number-less words (word_of s) (word_of r) i u li lu no_lower l here other)

-- the words that stay where one is written anew
pub second : (s : Set) (x j : ℕ) → j < words → j ≢ 0 → word_of (of_words (x ∷ word_of s 1 ∷ [])) j ≡ word_of s j
second s x = two (λ j. j ≢ 0 → word_of (of_words (x ∷ word_of s 1 ∷ [])) j ≡ word_of s j) (λ ne. absurd (ne refl)) (λ ne. refl)

pub second-alone : (s : Set) (x : ℕ) → word_of s 0 ≡ 0 → (j : ℕ) → j < words → j ≢ 1 → word_of (of_words (0 ∷ x ∷ [])) j ≡ word_of s j
second-alone s x z = two (λ j. j ≢ 1 → word_of (of_words (0 ∷ x ∷ [])) j ≡ word_of s j) (λ ne. sym z) (λ ne. absurd (ne refl))

-- the first w words of a list have the bits of a test
pub record FilledBy (X : Test) (w : ℕ) (l : List ℕ) : Type 0 where
  pub size : length l ≡ words
  pub each : (v : ℕ) → v < w → member (get_or l v 0) ≡ part word_bits (λ u. X (v * word_bits + u))

module _ (X : Test) where
  pub by_start : {l : List ℕ} → length l ≡ words → FilledBy X 0 l
  by_start size = record { size = size; each = λ v lt. absurd (not-suc-le-zero lt) }

  pub by_next : (w x : ℕ) {l : List ℕ} → w < words → FilledBy X w l → member x ≡ part word_bits (λ u. X (w * word_bits + u)) → FilledBy X (w + 1) (set l w x)
  by_next w x {l} lw h e = record { size = length-set l w x ∙ h.size; each = λ v lt. at v lt (ℕ_discrete v w) }
    where
      at : (v : ℕ) → v < w + 1 → Dec (v ≡ w) → member (get_or (set l w x) v 0) ≡ part word_bits (λ u. X (v * word_bits + u))
      at v lt (yes q) =
          ap (λ (k : ℕ). member (get_or (set l w x) k 0)) q ∙ ap member (get_or-set_same l w x 0 (omega (arith, h.size))) ∙ e
          ∙ ap (λ (k : ℕ). part word_bits (λ u. X (k * word_bits + u))) (sym q)
      at v lt (no ne) = ap member (get_or-set_other l w v x 0 ne) ∙ h.each v (omega (arith, ne))

  pub by_all : {w : ℕ} (s : Set) → w ≡ words → ((t : ℕ) → most_states ≤ t → X t ≡ false) → FilledBy X w s.words → member (mask s) ≡ X
  unfolding mask
  by_all {w} s e out h =
      words_are words (word_of s) X
      (λ i u li lu. ap (λ Y. Y u) (h.each i (omega arith)) ∙ ap (λ b. b && X (i * word_bits + u)) (lt-ltb u word_bits lu))
      (λ t le. out t (omega arith))

-- word w has the places from a to before b of those below n
module _ (F : Test) (n w : ℕ) {a b : ℕ} (ea : a ≡ min (w * word_bits) n) (eb : b ≡ min ((w + 1) * word_bits) n) where
  inside : (k : ℕ) → k < b - a → (ltb k (b - a) && F (a + k)) ≡ part word_bits (λ u. part n F (w * word_bits + u)) k
  inside k lt =
      ap₂ ◌&&◌ (lt-ltb k (b - a) lt ∙ sym (lt-ltb k word_bits (omega arith)))
      (ap F (equation (a + k) (w * word_bits + k) (omega arith)) ∙ sym (ap (λ c. c && F (w * word_bits + k)) (lt-ltb (w * word_bits + k) n (omega arith))))

  outside : (k : ℕ) → b - a ≤ k → (ltb k (b - a) && F (a + k)) ≡ part word_bits (λ u. part n F (w * word_bits + u)) k
  outside k le =
      ap (λ c. c && F (a + k)) (le-ltb k (b - a) le)
      ∙ sym (⊎_elim
      (λ lt. ap₂ (λ c d. c && (d && F (w * word_bits + k))) (lt-ltb k word_bits lt) (le-ltb (w * word_bits + k) n (omega arith)))
      (λ out. ap (λ c. c && part n F (w * word_bits + k)) (le-ltb k word_bits out))
      (below_or_not k word_bits))

  pub word_part : part (b - a) (λ k. F (a + k)) ≡ part word_bits (λ u. part n F (w * word_bits + u))
  word_part = fun_ext (λ k. ⊎_elim (inside k) (outside k) (below_or_not k (b - a)))

-- a set that was read from a row
module _ {Z : Test} {g x : ℕ} (e : g ≡ x) where
  pub both_of : (Y : Test) → Z ≡ both (member g) Y → Z ≡ both (member x) Y
  both_of Y h = h ∙ ap (λ (n : ℕ). both (member n) Y) e

  pub both_by : (X : Test) → Z ≡ both X (member g) → Z ≡ both X (member x)
  both_by X h = h ∙ ap (λ (n : ℕ). both X (member n)) e

  pub except_of : (Y : Test) → Z ≡ except (member g) Y → Z ≡ except (member x) Y
  except_of Y h = h ∙ ap (λ (n : ℕ). except (member n) Y) e

  pub except_by : (X : Test) → Z ≡ except X (member g) → Z ≡ except X (member x)
  except_by X h = h ∙ ap (λ (n : ℕ). except X (member n)) e

-- the test for an empty set, as the code makes it
pub is_none : {m : ℕ} {b : Bool} → b ≡ eqb m 0 → b ≡ true → m ≡ 0
is_none {m} e t = eqb-true m 0 (sym e ∙ t)

pub is_some : {m : ℕ} {b : Bool} → b ≡ eqb m 0 → b ≡ false → m ≢ 0
is_some {m} e f = eqb-false m 0 (sym e ∙ f)

-- and where it is turned round
un_not : (b : Bool) → not b ≡ false → b ≡ true
un_not true e = refl
un_not false e = absurd (true≢false e)

un_not-not : (b : Bool) → not b ≡ true → b ≡ false
un_not-not true e = absurd (true≢false (sym e))
un_not-not false e = refl

pub not_none : {m : ℕ} {b : Bool} → b ≡ eqb m 0 → not b ≡ false → m ≡ 0
not_none {m} {b} e f = is_none {m = m} {b = b} e (un_not b f)

pub not_some : {m : ℕ} {b : Bool} → b ≡ eqb m 0 → not b ≡ true → m ≢ 0
not_some {m} {b} e t = is_some {m = m} {b = b} e (un_not-not b t)
