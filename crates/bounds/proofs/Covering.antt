-- What sets of targets tell of a fit, target by target.
-- Assumes nothing.
use mathlib.Core.Path.{◌≡◌, refl, sym, ap, ap₂, ◌∙◌, subst}
use mathlib.Core.Bool.{Bool, true, false, not, ◌&&◌, true≢false}
use mathlib.Core.List.{List}
use mathlib.Core.Logic.{⊎_elim, ◌≢◌}
use Prim.Native.Nat.{ℕ, ◌+◌, ◌^◌, ◌≤◌, ◌<◌}
use native.Mathlib.Omega.{arith}
use borrow.Author.Tests.{lt-ltb, ltb-false, not-true, not-false}
use lib.Dec.{T}
use lib.ListN.{length, get_or}
use Rattle.simulation.specs.Limits.{most_states}
use Rattle.simulation.specs.Sum.{all_of}
use Rattle.simulation.proofs.Finite.Tests.{both_true, neither_true, last_or_below, is_true, same_test}
use Rattle.simulation.proofs.Finite.Lists.{all_of-at, all_of_by}
use Rattle.word.specs.Mask.{Test, member, up_to, either, both, except}
use Rattle.relation.specs.Rows.{row_of}
use Rattle.word.proofs.Mask.{member-none, member-high, some-member}
use Rattle.relation.proofs.RowLaws.{row_lt}
use Rattle.relation.specs.Related.{holds}
use Rattle.bounds.specs.Quick.{Unrelated, Bounding}

first_fails : (a b : Bool) → (a && b) ≡ false → b ≡ true → a ≡ false
first_fails true b e h = absurd (true≢false (sym h ∙ e))
first_fails false b e h = refl

-- a difference that is not empty has a member that one mask has and the other lacks
pub outside-member : (to some d : ℕ) → d < 2 ^ most_states → d ≢ 0 → member d ≡ except (member to) (member some) → (u : ℕ) × (member to u ≡ true) × (member some u ≡ false)
outside-member to some d h n e =
    let r = some-member most_states d h n in
    let u = r.0 in
    let b = both_true (member to u) (not (member some u)) (sym (ap (λ (X : Test). X u) e) ∙ r.1) in
    (u, b.0, not-true (member some u) b.1)

-- where it is empty, the one has no member that the other lacks
pub covered : (to every d : ℕ) → d ≡ 0 → member d ≡ except (member to) (member every) → (u : ℕ) → member to u ≡ true → member every u ≡ true
covered to every d z e u t =
    let n : (member to u && not (member every u)) ≡ false = sym (ap (λ (X : Test). X u) e) ∙ ap (λ (x : ℕ). member x u) z ∙ member-none u in
    not-false (member every u) (sym (ap (λ (b : Bool). b && not (member every u)) t) ∙ n)

-- each of the first n targets is related to all of every, and to none outside some
pub record BoundsSoFar (rows ms : List ℕ) (n some every : ℕ) : Type 0 where
  pub others : (i u : ℕ) → i < n → member some u ≡ false → holds rows (get_or ms i 0) u ≡ false
  pub within : (i u : ℕ) → i < n → member every u ≡ true → holds rows (get_or ms i 0) u ≡ true

module _ (rows ms : List ℕ) where
  -- any sets will do for no targets
  pub passed_start : (some every : ℕ) → BoundsSoFar rows ms 0 some every
  passed_start some every = record { others = λ i u a _. absurd (omega arith); within = λ i u a _. absurd (omega arith) }

  module _ (n near : ℕ) (e : near ≡ row_of rows (get_or ms n 0)) where
    near-at : (i u : ℕ) (b : Bool) → i ≡ n → member near u ≡ b → holds rows (get_or ms i 0) u ≡ b
    near-at i u b q h = ap (λ (k : ℕ). holds rows (get_or ms k 0) u) q ∙ sym (ap (λ (x : ℕ). member x u) e) ∙ h

    pub passed-next : (some every some' every' : ℕ) → member some' ≡ either (member some) (member near) → member every' ≡ both (member every) (member near)
        → BoundsSoFar rows ms n some every → BoundsSoFar rows ms (n + 1) some' every'
    passed-next some every some' every' x y h =
        record {
          others = λ i u a s.
              let z = neither_true (member some u) (member near u) (sym (ap (λ (X : Test). X u) x) ∙ s) in
              ⊎_elim (λ q. near-at i u false q z.1) (λ l. h.others i u l z.0) (last_or_below i n (omega arith));
          within = λ i u a s.
              let z = both_true (member every u) (member near u) (sym (ap (λ (X : Test). X u) y) ∙ s) in
              ⊎_elim (λ q. near-at i u true q z.1) (λ l. h.within i u l z.0) (last_or_below i n (omega arith));
        }

  -- the states that each of the first n targets is related to
  pub record CommonSoFar (n every : ℕ) : Type 0 where
    pub within : (i u : ℕ) → i < n → member every u ≡ true → holds rows (get_or ms i 0) u ≡ true
    pub all : (u : ℕ) → u < most_states → ((i : ℕ) → i < n → holds rows (get_or ms i 0) u ≡ true) → member every u ≡ true

  pub common_start : {every : ℕ} → member every ≡ up_to most_states → CommonSoFar 0 every
  common_start e = record { within = λ i u a _. absurd (omega arith); all = λ u b _. ap (λ (X : Test). X u) e ∙ lt-ltb u most_states b }

  pub common_next : {n every every' : ℕ} (near : ℕ) → near ≡ row_of rows (get_or ms n 0) → member every' ≡ both (member every) (member near) → CommonSoFar n every → CommonSoFar (n + 1) every'
  common_next {n} {every} near e y h =
      record {
        within = λ i u a s.
            let z = both_true (member every u) (member near u) (sym (ap (λ (X : Test). X u) y) ∙ s) in
            ⊎_elim (λ q. near-at n near e i u true q z.1) (λ l. h.within i u l z.0) (last_or_below i n (omega arith));
        all = λ u b s. ap (λ (X : Test). X u) y
            ∙ ap₂ ◌&&◌ (h.all u b (λ i a. s i (omega arith))) (ap (λ (x : ℕ). member x u) e ∙ s n (omega arith));
      }

  pub common_end : {n every : ℕ} → length ms ≤ n → n ≤ length ms → CommonSoFar n every → (u : ℕ) → u < most_states → member every u ≡ all_of (λ s. holds rows s u) ms
  common_end {n} {every} a b h u c =
      let related : Test = λ s. holds rows s u in
      same_test (member every u) (all_of related ms)
      (λ m. all_of_by related 0 ms (λ i d. subst T (sym (h.within i u (omega arith) (is_true (member every u) m))) tt))
      (λ m. subst T (sym (h.all u c (λ i d. is_true (related (get_or ms i 0)) (all_of-at related 0 ms m i (omega arith))))) tt)

  pub passed-all : (n some every : ℕ) → length ms ≤ n → BoundsSoFar rows ms n some every → Bounding rows ms some every
  passed-all n some every a h = record { others = λ i u b s. h.others i u (omega arith) s; within = λ i u b s. h.within i u (omega arith) s }

  -- all states, and none, bound what any targets are related to
  pub bounds_of_all : (some every : ℕ) → member some ≡ up_to most_states → every ≡ 0 → Bounding rows ms some every
  bounds_of_all some every e z =
      record {
        others = λ i u _ s. member-high most_states (row_of rows (get_or ms i 0)) u (row_lt rows (get_or ms i 0)) (ltb-false u most_states (sym (ap (λ (X : Test). X u) e) ∙ s));
        within = λ i u _ s. absurd (true≢false (sym s ∙ ap (λ (x : ℕ). member x u) z ∙ member-none u));
      }

-- a state with nothing near
pub unrelated : (rows : List ℕ) (s to near : ℕ) → member near ≡ both (member (row_of rows s)) (member to) → near ≡ 0 → Unrelated rows s to
unrelated rows s to near e z u t =
    first_fails (holds rows s u) (member to u) (sym (ap (λ (X : Test). X u) e) ∙ ap (λ (x : ℕ). member x u) z ∙ member-none u) t
