-- The states that lack one of some codes, code by code.
-- Assumes nothing.
use Rattle.form.specs.declared.tables.Tables.{Tables}
use mathlib.Core.Path.{◌≡◌, refl, sym, ap, ap₂, ◌∙◌, fun_ext, subst}
use mathlib.Core.Bool.{Bool, true, false, not, ◌&&◌, ◌||◌, and-false, or-true, or-false}
use mathlib.Core.List.{List}
use mathlib.Core.Logic.{⊎_elim}
use Prim.Native.Nat.{ℕ, suc, ◌+◌, ◌≤◌, ◌<◌}
use native.Mathlib.Numerals.{add-one}
use native.Mathlib.Omega.{arith}
use borrow.Author.Tests.{le-leb, lt-leb, eq-eqb}
use lib.Dec.{T, T_not, not_T, eqb, eqb→eq, leb, ltb, leb→le, ltb→lt}
use Rattle.simulation.specs.Sum.{any, all_of}
use Rattle.simulation.specs.Table.{Transition, Table, states_of, steps}
use Rattle.simulation.specs.Complete.{lists}
use Rattle.simulation.proofs.Finite.Tests.{or_cases, or_right, and_both, and_left, and_right, by_contradiction, is_true, is_false, true_T, false_T, same_test, any_some, some-any}
use Rattle.simulation.proofs.Complete.Tables.{search_added, search_listed}
use Rattle.word.specs.Mask.{Test, member, either, from_place}
use Rattle.word.proofs.Mask.{member-none, none_is}
use Rattle.form.specs.Form.{Loaded, start_of, transition_at, table_of}
use Rattle.form.specs.Tables.{second_form, first_table, second_table, contract_table, BothLoaded}
use Rattle.form.proofs.Contract.{own-codes, contract-states}
use Rattle.fit.specs.Held.{coded}
use Rattle.fit.proofs.Steps.{one_fails, all_pass}
use Rattle.lacking.specs.Lacking.{lacks, lacks_one}

-- a code of the contract: one that the second table lists is lacked by the same states there, one that is added by none
module _ (tables : Tables) (c : ℕ) where
  like : (n : Transition) → T (eqb c n.code) → n.code ≡ c
  like n h = sym (eqb→eq c n.code h)

  pub lacks-listed : lists (second_table tables).codes c ≡ true → lacks (second_table tables) c ≡ lacks (contract_table tables) c
  lacks-listed e =
      fun_ext
      (λ t.
      sym
      (ap₂ (λ (q : ℕ) (b : Bool). ltb t q && not b) (contract-states tables)
      (search_listed (first_table tables).codes (second_table tables) t c (λ n. eqb c n.code) like (true_T e))))

  pub lacks-added : BothLoaded tables → T (lists (first_table tables).codes c) → lists (second_table tables).codes c ≡ false → member 0 ≡ lacks (contract_table tables) c
  lacks-added loaded asked e = none_is ∙ fun_ext (λ t. sym (is_false (lacks (contract_table tables) c t) (none t)))
    where
      none : (t : ℕ) → T (lacks (contract_table tables) c t) → ⊥
      none t h =
          let q = states_of (contract_table tables) in
          let has = coded c (steps (contract_table tables) t) in
          let state : t < q = ltb→lt t q (and_left (ltb t q) (not has) h) in
          T_not has (and_right (ltb t q) (not has) h)
          (true_T
          (search_added (first_table tables).codes (second_table tables) t c (λ n. eqb c n.code) like (own-codes (second_form tables) loaded.second)
          (omega (arith, contract-states tables)) asked (T_not (lists (second_table tables).codes c) (false_T e))
          ∙ eq-eqb c c refl))

-- t is in a set if it is or lacks one more
one_more : (q a b : Bool) → ((q && a) || (q && b)) ≡ (q && (b || a))
one_more true true b = sym (or-true b)
one_more true false b = sym (or-false b)
one_more false a b = refl

-- the states that lack the code of one of the transitions from number a to j
pub record Lacked (f : List ℕ) (N : Table) (a j x : ℕ) : Type 0 where
  pub at : (t : ℕ) → member x t ≡ (ltb t (states_of N) && any j (from_place a (λ k. not (coded (transition_at f k).code (steps N t)))))

pub lacked-start : (f : List ℕ) (N : Table) {a x : ℕ} → x ≡ 0 → Lacked f N a a x
lacked-start f N {a} {x} e =
    record {
      at = λ t.
          ap (λ (n : ℕ). member n t) e ∙ member-none t
          ∙ sym (ap (λ (b : Bool). ltb t (states_of N) && b) (is_false _ (none t)) ∙ and-false (ltb t (states_of N)));
    }
  where
    none : (t : ℕ) → T (any a (from_place a (λ k. not (coded (transition_at f k).code (steps N t))))) → ⊥
    none t h =
        let x = any_some a (from_place a (λ k. not (coded (transition_at f k).code (steps N t)))) h in
        subst T (lt-leb a x.0 x.1) (and_left (leb a x.0) _ x.2)

pub lacked-next : (f : List ℕ) (N : Table) {a j c x y : ℕ} (z : ℕ) → a ≤ j → c ≡ (transition_at f j).code → member z ≡ lacks N c → member y ≡ either (member x) (member z) → Lacked f N a j x → Lacked f N a (j + 1) y
unfolding any
lacked-next f N {a} {j} {c} {x} {y} z l e d u h =
    record {
      at = λ t.
          let X : Test = from_place a (λ k. not (coded (transition_at f k).code (steps N t))) in
          ap (λ (Y : Test). Y t) u
          ∙ ap₂ ◌||◌ (h.at t) (ap (λ (Y : Test). Y t) d ∙ ap (λ (n : ℕ). lacks N n t) e)
          ∙ one_more (ltb t (states_of N)) (any j X) (not (coded (transition_at f j).code (steps N t)))
          ∙ ap (λ (b : Bool). ltb t (states_of N) && ((b && not (coded (transition_at f j).code (steps N t))) || any j X)) (sym (le-leb a j l))
          ∙ ap (λ (n : ℕ). ltb t (states_of N) && any n X) (sym (add-one j));
    }

-- a code that was passed
pub lacked_again : (f : List ℕ) (N : Table) {a j x : ℕ} (k : ℕ) → a ≤ k → k < j → (transition_at f j).code ≡ (transition_at f k).code → Lacked f N a j x → Lacked f N a (j + 1) x
unfolding any
lacked_again f N {a} {j} k l b e h =
    record { at = λ t. h.at t ∙ ap (λ (c : Bool). ltb t (states_of N) && c) (same t) ∙ ap (λ (n : ℕ). ltb t (states_of N) && any n (X t)) (sym (add-one j)) }
  where
    X : ℕ → Test
    X t = from_place a (λ k. not (coded (transition_at f k).code (steps N t)))

    same : (t : ℕ) → any j (X t) ≡ any (suc j) (X t)
    same t =
        let lacks-at : ℕ → Bool = λ c. not (coded c (steps N t)) in
        same_test (any j (X t)) (any (suc j) (X t)) (or_right (X t j) (any j (X t)))
        (λ u.
        ⊎_elim
        (λ v. some-any j (X t) k b (and_both (leb a k) (lacks-at (transition_at f k).code) (true_T (le-leb a k l)) (subst (λ (c : ℕ). T (lacks-at c)) e (and_right (leb a j) (lacks-at (transition_at f j).code) v))))
        (λ v. v) (or_cases (X t j) (any j (X t)) u))

-- those of a state are all its codes
pub lacked-end : (f : List ℕ) (loaded : Loaded f) (N : Table) (s : ℕ) → s < states_of (table_of f) → {x : ℕ} → Lacked f N (start_of f s) (start_of f (s + 1)) x → member x ≡ lacks_one (table_of f) N s
lacked-end f loaded N s a h = fun_ext (λ t. h.at t ∙ ap (λ (b : Bool). ltb t (states_of N) && b) (same_test _ _ (to t) (back t)))
  where
    F : ℕ → Transition → Bool
    F t m = coded m.code (steps N t)

    X : ℕ → Test
    X t = from_place (start_of f s) (λ k. not (F t (transition_at f k)))

    to : (t : ℕ) → T (any (start_of f (s + 1)) (X t)) → T (not (all_of (F t) (steps (table_of f) s)))
    to t h =
        let x = any_some (start_of f (s + 1)) (X t) h in
        let y = F t (transition_at f x.0) in
        subst (λ (b : Bool). T (not b))
        (one_fails f loaded s a (F t) x.0 (leb→le (start_of f s) x.0 (and_left (leb (start_of f s) x.0) (not y) x.2)) x.1 {r = y} refl
        (is_false y (T_not y (and_right (leb (start_of f s) x.0) (not y) x.2))))
        tt

    back : (t : ℕ) → T (not (all_of (F t) (steps (table_of f) s))) → T (any (start_of f (s + 1)) (X t))
    back t h =
        by_contradiction (any (start_of f (s + 1)) (X t))
        (λ n.
        T_not (all_of (F t) (steps (table_of f) s)) h
        (true_T
        (sym
        (all_pass f loaded s a (F t)
        (λ j l u.
        let y = F t (transition_at f j) in
        is_true y
        (by_contradiction y
        (λ m. n (some-any (start_of f (s + 1)) (X t) j u (and_both (leb (start_of f s) j) (not y) (true_T (le-leb (start_of f s) j l)) (not_T y m))))))))))
