-- A set word by word: what a walk over the words has left, and the words that the places of a list fill.
-- Assumes nothing.
use mathlib.Core.Path.{◌≡◌, refl, sym, ap, ◌∙◌, subst, fun_ext}
use mathlib.Core.Bool.{false, cond, ◌&&◌}
use mathlib.Core.List.{List}
use mathlib.Core.Logic.{◌⊎◌, inl, inr, ⊎_elim, ◌≢◌}
use native.Mathlib.Decide.{ℕ_discrete}
use borrow.Author.Tests.{lt-ltb, le-ltb, eq-eqb, ne_eqb}
use Prim.Native.Nat.{ℕ, ◌+◌, ◌-◌, ◌*◌, ◌≤◌, ◌<◌, min}
use native.Mathlib.Omega.{arith}
use lib.Dec.{eqb, ltb}
use lib.ListN.{length, get_or, set, take, drop, length-take, length-drop}
use lib.Seq.{get_or-take, get_or-drop}
use Rattle.simulation.specs.Limits.{most_states}
use Rattle.word.specs.Mask.{Test, member, without_member, part, Lowest, word_bits}
use Rattle.word.proofs.Mask.{below_or_not, member-none}
use Rattle.set.specs.Words.{words, word_of, mask, rest, after}
use Rattle.set.specs.declared.Set.{Set}
use Rattle.set.proofs.Words.{number_ext, number-none, number_lowest, number-drop, number-less}
use Rattle.set.specs.Members.{Taken}
use Rattle.set.proofs.Sets.{FilledBy, by_start, by_next, by_all, word_part}

-- a walk word by word: what it has left before word w, and in it
module _ (s : Set) where
  left_in : ℕ → ℕ → ℕ → ℕ
  left_in w left i = cond (ltb i w) 0 (cond (eqb i w) left (word_of s i))

  left_here : (w left : ℕ) → left_in w left w ≡ left
  unfolding left_in
  left_here w left = rw (le-ltb w w (omega arith), eq-eqb w w refl)

  left_before : (w left j : ℕ) → j < w → left_in w left j ≡ 0
  unfolding left_in
  left_before w left j lt = rw (lt-ltb j w lt)

  left_other : (w x y j : ℕ) → j ≢ w → left_in w x j ≡ left_in w y j
  unfolding left_in
  left_other w x y j ne = rw (ne_eqb j w ne)

  -- it takes the lowest member that is left, which is the lowest of the word, and so makes the steps of `Members`
  module _ (w left u : ℕ) (lw : w < words) (lu : u < word_bits) (l : Lowest (member left) u) where
    none_before : (j v : ℕ) → j < w → member (left_in w left j) v ≡ false
    none_before j v lt = ap (λ (n : ℕ). member n v) (left_before w left j lt) ∙ member-none v

    in_word : Lowest (member (left_in w left w)) u
    in_word = subst (λ (n : ℕ). Lowest (member n) u) (sym (left_here w left)) l

    pub walk_lowest : Lowest (member (rest w left s)) (w * word_bits + u)
    unfolding rest left_in
    walk_lowest = number_lowest words (left_in w left) w u lw lu none_before in_word

    module _ (y : ℕ) (e : member y ≡ without_member u (member left)) where
      here : member (left_in w y w) ≡ without_member u (member (left_in w left w))
      here = ap member (left_here w y) ∙ e ∙ ap (λ (n : ℕ). without_member u (member n)) (sym (left_here w left))

      pub walk_drop : (t : ℕ) → Lowest (member (rest w left s)) t → member (rest w y s) ≡ without_member t (member (rest w left s))
      unfolding rest left_in
      walk_drop = number-drop words (left_in w left) (left_in w y) w u lw lu none_before in_word here (λ j _ ne. left_other w y left j ne)

      pub walk_less : rest w y s < rest w left s
      unfolding rest left_in
      walk_less = number-less words (left_in w left) (left_in w y) w u lw lu none_before in_word here (λ j _ ne. left_other w y left j ne)

      pub walk_taken : {t : ℕ} → w * word_bits + u ≡ t → Taken (rest w left s) t (rest w y s)
      walk_taken {t} q = subst (λ (t : ℕ). Taken (rest w left s) t (rest w y s)) q (record { state = omega arith; lowest = walk_lowest; left = walk_drop (w * word_bits + u) walk_lowest })

  -- it starts with the set, goes from a word to the next, and ends with nothing
  pub after-all : after 0 s ≡ mask s
  unfolding after mask
  after-all = number_ext words (λ i. cond (ltb i 0) 0 (word_of s i)) (word_of s) (λ i lt. ap (λ b. cond b 0 (word_of s i)) (le-ltb i 0 (omega arith)))

  pub after-rest : (w : ℕ) → after w s ≡ rest w (word_of s w) s
  unfolding after rest
  after-rest w = number_ext words (λ i. cond (ltb i w) 0 (word_of s i)) (λ i. cond (ltb i w) 0 (cond (eqb i w) (word_of s w) (word_of s i))) (λ i lt. ap (cond (ltb i w) 0) (at i (ℕ_discrete i w)))
    where
      at : (i : ℕ) → Dec (i ≡ w) → word_of s i ≡ cond (eqb i w) (word_of s w) (word_of s i)
      at i (yes e) = ap (word_of s) e ∙ ap (λ b. cond b (word_of s w) (word_of s i)) (sym (eq-eqb i w e))
      at i (no q) = ap (λ b. cond b (word_of s w) (word_of s i)) (sym (ne_eqb i w q))

  pub rest-after : (w : ℕ) → rest w 0 s ≡ after (w + 1) s
  unfolding after rest
  rest-after w = number_ext words (λ i. cond (ltb i w) 0 (cond (eqb i w) 0 (word_of s i))) (λ i. cond (ltb i (w + 1)) 0 (word_of s i)) (λ i lt. at i (below_or_not i w) (ℕ_discrete i w))
    where
      at : (i : ℕ) → (i < w) ⊎ (w ≤ i) → Dec (i ≡ w) → cond (ltb i w) 0 (cond (eqb i w) 0 (word_of s i)) ≡ cond (ltb i (w + 1)) 0 (word_of s i)
      at i (inl lt) d = rw (lt-ltb i w lt, lt-ltb i (w + 1) (omega arith))
      at i (inr ge) (yes e) = rw (le-ltb i w ge, eq-eqb i w e, lt-ltb i (w + 1) (omega arith))
      at i (inr ge) (no q) = rw (le-ltb i w ge, ne_eqb i w q, le-ltb i (w + 1) (omega (arith, q)))

  pub after_none : after words s ≡ 0
  unfolding after
  after_none = number-none words (λ i. cond (ltb i words) 0 (word_of s i)) (λ i lt. ap (λ b. cond b 0 (word_of s i)) (lt-ltb i words lt))

  -- the same for whatever is known of what is left
  module _ (P : ℕ → Type 0) where
    pub walk_begin : P (mask s) → P (after 0 s)
    walk_begin = subst P (sym after-all)

    pub walk_into : (w : ℕ) → P (after w s) → P (rest w (word_of s w) s)
    walk_into w = subst P (after-rest w)

    pub walk_on : (w left : ℕ) → left ≡ 0 → P (rest w left s) → P (after (w + 1) s)
    walk_on w left e h = subst P (rest-after w) (subst (λ (n : ℕ). P (rest w n s)) e h)

  pub walk_done : (w : ℕ) → w ≡ words → after w s ≡ 0
  walk_done w e = ap (λ (n : ℕ). after n s) e ∙ after_none

part_ext : (n : ℕ) (X Y : Test) → ((j : ℕ) → j < n → X j ≡ Y j) → part n X ≡ part n Y
part_ext n X Y e = fun_ext (λ k. ⊎_elim
    (λ lt. ap (λ b. ltb k n && b) (e k lt))
    (λ le. ap (λ b. b && X k) (le-ltb k n le) ∙ sym (ap (λ b. b && Y k) (le-ltb k n le)))
    (below_or_not k n))

-- the places of a list whose number passes
abbrev pub passing : Test → List ℕ → Test
passing F ts = part (length ts) (λ j. F (get_or ts j 0))

pub part-take : (F : Test) (k : ℕ) (ts : List ℕ) → k ≤ length ts → passing F (take k ts) ≡ part k (λ j. F (get_or ts j 0))
part-take F k ts h =
    let m : length (take k ts) ≡ k = simp length-take (omega arith) in
    ap (λ (n : ℕ). part n (λ j. F (get_or (take k ts) j 0))) m
    ∙ part_ext k (λ j. F (get_or (take k ts) j 0)) (λ j. F (get_or ts j 0)) (λ j l. ap F (get_or-take k ts j 0 l))

-- the same for the places of a list that pass a test
abbrev pub PlacesFilled : (F : Test) (ts : List ℕ) (w : ℕ) (l : List ℕ) → Type 0
PlacesFilled F ts w l = FilledBy (passing F ts) w l

module _ (F : Test) (ts : List ℕ) where
  pub places_start : {l : List ℕ} → length l ≡ words → PlacesFilled F ts 0 l
  places_start = by_start (passing F ts)

  pub places_next : (w x : ℕ) {l : List ℕ} → w < words → PlacesFilled F ts w l → member x ≡ part word_bits (λ u. passing F ts (w * word_bits + u)) → PlacesFilled F ts (w + 1) (set l w x)
  places_next = by_next (passing F ts)

  pub places_all : {w : ℕ} (s : Set) → w ≡ words → length ts ≤ most_states → PlacesFilled F ts w s.words → member (mask s) ≡ passing F ts
  places_all s e few h = by_all (passing F ts) s e (λ t out. ap (λ b. b && F (get_or ts t 0)) (le-ltb t (length ts) (omega arith))) h

-- word w has the places of its part of the list
pub slice_passing : (F : Test) (ts : List ℕ) (w : ℕ) {a b : ℕ} → a ≡ min (w * word_bits) (length ts) → b ≡ min ((w + 1) * word_bits) (length ts)
    → passing F (take (b - a) (drop a ts)) ≡ part word_bits (λ u. passing F ts (w * word_bits + u))
slice_passing F ts w {a} {b} ea eb =
    let m : length (drop a ts) ≡ length ts - a = length-drop a ts in
    part-take F (b - a) (drop a ts) (omega arith)
    ∙ part_ext (b - a) (λ j. F (get_or (drop a ts) j 0)) (λ j. F (get_or ts (a + j) 0)) (λ j l. ap F (get_or-drop a ts j 0))
    ∙ word_part (λ i. F (get_or ts i 0)) (length ts) w ea eb
