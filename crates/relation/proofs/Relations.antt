-- Relations by rows. Assumes nothing.
use mathlib.Core.Path.{◌≡◌, refl, sym, ap, ◌∙◌, subst, fun_ext}
use mathlib.Core.Bool.{not, ◌&&◌, and-true}
use mathlib.Core.List.{List}
use mathlib.Core.Logic.{⊎_elim, ◌≢◌}
use Prim.Native.Nat.{ℕ, zero, suc, ◌+◌, ◌-◌, ◌*◌, ◌/◌, ◌%◌, ◌^◌, ◌<◌, ◌≤◌}
use native.Mathlib.Nat.{zero-add}
use native.Mathlib.Numerals.{add-one}
use native.Mathlib.Decide.{ℕ_discrete}
use native.Mathlib.Omega.{arith}
use lib.Dec.{eqb, ltb}
use lib.ListN.{length, get_or, set, replicate, get_or-replicate, length-replicate, get_or-eq_default}
use lib.Seq.{get_or-set_same, get_or-set_other}
use borrow.Author.Tests.{lt-ltb, le-ltb, eq-eqb, ne_eqb}
use Rattle.simulation.specs.Limits.{most_states}
use Rattle.simulation.specs.Sum.{sum}
use Rattle.simulation.proofs.Finite.Sums.{sum_bound, members_most}
use Rattle.simulation.proofs.Finite.Lists.{zeros-at}
use Rattle.word.specs.Mask.{Test, member, up_to, without_member, size, word_bits}
use Rattle.set.specs.Words.{words}
use Rattle.relation.specs.Rows.{row_of}
use Rattle.std.specs.List as list
use Rattle.std.specs.List.{range_with_len}
use Rattle.std.specs.Prelude.{map}
use Rattle.std.proofs.lemmas.List.FromFn.{sum_by-map-range_with_len_more}
use Rattle.relation.specs.Related.{related, none, all_below, without, pairs_of}
use Rattle.relation.specs.declared.Relation.{Relation}
use Rattle.word.proofs.Mask.{member-none, member_ones, below_or_not}
use Rattle.set.proofs.Words.{words_are, number_ext, number-none, word_put}
use Rattle.set.proofs.Sets.{place_of}

abbrev of_rows : List ℕ → Relation
of_rows l = record { rows = l }

-- a row of zeros has no member
pub zero_row : (l : List ℕ) → ((i : ℕ) → get_or l i 0 ≡ 0) → (s : ℕ) → row_of l s ≡ 0
unfolding row_of
zero_row l zero_at s = number-none words (λ i. get_or l (s * words + i) 0) (λ i lt. zero_at (s * words + i))

-- a relation of words that are all the same
module _ (x : ℕ) where
  word_in : (k : ℕ) → k < (most_states * words) → get_or (replicate (most_states * words) x) k 0 ≡ x
  word_in k lt = get_or-replicate (most_states * words) k x 0 lt

  word_out : (k : ℕ) → (most_states * words) ≤ k → ◌≡◌ {A = ℕ} (get_or (replicate (most_states * words) x) k 0) 0
  word_out k le = get_or-eq_default (replicate (most_states * words) x) 0 {n = k} (subst (λ (m : ℕ). m ≤ k) (sym (length-replicate (most_states * words) x)) le)

pub row-none : (s : ℕ) → row_of (replicate (most_states * words) 0) s ≡ 0
row-none = zero_row (replicate (most_states * words) 0) (zeros-at (most_states * words))

pub empty-is : related (of_rows (replicate (most_states * words) 0)) ≡ none
unfolding related
empty-is = fun_ext (λ s. fun_ext (λ t. ap (λ (x : ℕ). member x t) (row-none s) ∙ member-none t))

abbrev ones : ℕ
ones = 2 ^ word_bits - 1

full_row : (s : ℕ) → s < most_states → member (row_of (replicate (most_states * words) ones) s) ≡ up_to most_states
unfolding row_of
full_row s lt =
    words_are words (λ i. get_or (replicate (most_states * words) ones) (s * words + i) 0) (up_to most_states)
    (λ i u li lu. ap (λ (x : ℕ). member x u) (word_in ones (s * words + i) (omega arith)) ∙ member_ones word_bits u ∙ lt-ltb u word_bits lu ∙ sym (lt-ltb (i * word_bits + u) most_states (omega arith)))
    (λ t le. le-ltb t most_states le)

no_row : (s : ℕ) → most_states ≤ s → row_of (replicate (most_states * words) ones) s ≡ 0
unfolding row_of
no_row s le = number-none words (λ i. get_or (replicate (most_states * words) ones) (s * words + i) 0) (λ i _. word_out ones (s * words + i) (omega arith))

pub full_is : related (of_rows (replicate (most_states * words) ones)) ≡ all_below most_states most_states
unfolding related
full_is = fun_ext (λ s. fun_ext (λ t. ⊎_elim
    (λ lt. ap (λ X. X t) (full_row s lt) ∙ ap (λ b. b && ltb t most_states) (sym (lt-ltb s most_states lt)))
    (λ le. ap (λ (x : ℕ). member x t) (no_row s le) ∙ member-none t ∙ ap (λ b. b && ltb t most_states) (sym (le-ltb s most_states le)))
    (below_or_not s most_states)))

-- a word that lacks t in the place of its word in row s
module _ (l : List ℕ) (s t x : ℕ) (lt : t < most_states) (room : s * words + t / word_bits < length l) (e : member x ≡ without_member (t % word_bits) (member (get_or l (s * words + t / word_bits) 0))) where
  removed_row : member (row_of (set l (s * words + t / word_bits) x) s) ≡ without_member t (member (row_of l s))
  unfolding row_of
  removed_row =
      word_put (λ d b. b && not d) and-true words (λ i. get_or l (s * words + i) 0) (λ i. get_or (set l (s * words + t / word_bits) x) (s * words + i) 0) (t / word_bits) (t % word_bits) (omega arith) (omega arith)
      (λ v. ap (λ (y : ℕ). member y v) (get_or-set_same l (s * words + t / word_bits) x 0 room) ∙ ap (λ X. X v) e)
      (λ j _ ne. get_or-set_other l (s * words + t / word_bits) (s * words + j) x 0 (λ q. ne (omega arith)))
      ∙ ap (λ (m : ℕ). without_member m (member (row_of l s))) (place_of t)

  other_row : (a : ℕ) → a ≢ s → row_of (set l (s * words + t / word_bits) x) a ≡ row_of l a
  unfolding row_of
  other_row a ne =
      number_ext words (λ i. get_or (set l (s * words + t / word_bits) x) (a * words + i) 0) (λ i. get_or l (a * words + i) 0)
      (λ i li. get_or-set_other l (s * words + t / word_bits) (a * words + i) x 0 (λ q. ne (omega arith)))

  pub removed : related (of_rows (set l (s * words + t / word_bits) x)) ≡ without s t (related (of_rows l))
  unfolding related
  removed = fun_ext (λ a. fun_ext (λ b. at a b (ℕ_discrete a s)))
    where
      at : (a b : ℕ) → Dec (a ≡ s) → member (row_of (set l (s * words + t / word_bits) x) a) b ≡ (member (row_of l a) b && not (eqb a s && eqb b t))
      at a b (yes p) =
          ap (λ (k : ℕ). member (row_of (set l (s * words + t / word_bits) x) k) b) p ∙ ap (λ X. X b) removed_row
          ∙ ap (λ (k : ℕ). member (row_of l k) b && not (eqb b t)) (sym p) ∙ ap (λ q. member (row_of l a) b && not (q && eqb b t)) (sym (eq-eqb a s p))
      at a b (no n) =
          ap (λ (y : ℕ). member y b) (other_row a n) ∙ sym (and-true (member (row_of l a) b))
          ∙ ap (λ q. member (row_of l a) b && not (q && eqb b t)) (sym (ne_eqb a s n))

-- a sum over the numbers below n, as an iterator has it
pub sum-range : (f : ℕ → ℕ) (n : ℕ) → list.sum (map f (range_with_len 0 n)) ≡ sum n f
unfolding sum
sum-range f zero = refl
sum-range f (suc n) =
    let e = sum_by-map-range_with_len_more (λ x. x) f 0 n n (zero-add n) in
    omega (arith, rw add-one at e, sum-range f n)

pub pairs-most : (R : ℕ → Test) (n : ℕ) → pairs_of n R ≤ n * most_states
pairs-most R n = sum_bound n most_states (λ s. size most_states (R s)) (λ s _. members_most most_states (R s))
