-- A call on two accepted tables: which number it gives, exactly when, and what it leaves in the buffers.
-- Assumes nothing.
use mathlib.Core.Path.{◌≡◌, refl, sym, ap, ◌∙◌, subst}
use mathlib.Core.Bool.{Bool, true, false, not, ◌||◌}
use mathlib.Core.Logic.{◌↔◌, ◌⊎◌, inl, inr, ⊎_elim}
use Prim.Native.Nat.{ℕ, ◌≤◌, ◌<◌}
use native.Mathlib.Omega.{arith}
use native.Mathlib.Decide.{dec_lt, ℕ_discrete}
use lib.Dec.{T, T_not, not_T, leb, ltb, eqb, leb→le, ltb→lt, lt→ltb, nleb→lt, eqb→eq}
use lib.ListN.{length}
use Rattle.simulation.specs.Fit.{Amounts}
use Rattle.simulation.specs.Table.{Table, states_of}
use Rattle.simulation.specs.Round.{pairs, rank}
use Rattle.simulation.specs.Demands.{Kept}
use Rattle.simulation.proofs.Finite.Tests.{is_true, is_false, or_cases, or_left, or_right, same_eqb}
use Rattle.flows.specs.Flow.{flow_bytes}
use Rattle.counting.specs.Count.{longest}
use Rattle.compare.specs.Outcome.{Buffers, Result, success, with_flow, with_tree, kept_outcome, fallen_outcome, outcome, ranked}
use Rattle.simulation.specs.Tree.{tree_bytes}
use Rattle.answer.specs.Numbers.{refusal}
use Rattle.compare.specs.Condition.{Inside, Condition, short_ranks, short_flow, short_tree, long_tree, result_of, Ready, outside, flow_fits, tree_fits}

module _ (M N : Table) (room listed s t : ℕ) (b : Buffers) (x : ℕ → Amounts) where
  -- a call by the results of its six tests
  shaped : (out few kept short_flow long short_tree : Bool) → Result
  shaped o f k w l u = elim o [
    | true ↦ record { answer = refusal 11 0 0; buffers = b }
    | false ↦ elim f [
      | true ↦ record { answer = refusal 20 0 (pairs M N); buffers = b }
      | false ↦ elim k [
        | true ↦ elim w [
          | true ↦ record { answer = refusal 21 0 room; buffers = ranked M N b }
          | false ↦ record { answer = success M N s t (length (flow_bytes M N listed s t x)); buffers = with_flow M N (flow_bytes M N listed s t x) b }
        ]
        | false ↦ elim l [
          | true ↦ record { answer = refusal 23 0 0; buffers = ranked M N b }
          | false ↦ elim u [
            | true ↦ record { answer = refusal 22 0 (length (tree_bytes M N s t)); buffers = ranked M N b }
            | false ↦ record { answer = success M N s t (length (tree_bytes M N s t)); buffers = with_tree M N (tree_bytes M N s t) b }
          ]
        ]
      ]
    ]
  ]

  abbrev O : Bool
  O = leb (states_of M) s || leb (states_of N) t

  abbrev F : Bool
  F = ltb (length b.ranks) (pairs M N)

  abbrev K : Bool
  K = eqb (rank M N s t) 0

  abbrev W : Bool
  W = ltb (length b.flow) room

  abbrev L : Bool
  L = ltb longest (length (tree_bytes M N s t))

  abbrev U : Bool
  U = ltb (length b.tree) (length (tree_bytes M N s t))

  outcome_shaped : outcome M N room listed s t b x ≡ shaped O F K W L U
  unfolding outcome kept_outcome fallen_outcome shaped
  outcome_shaped = refl

  -- what the tests say
  is-outside : ¬ Inside M N s t b → O ≡ true
  is-outside h =
      ⊎_elim (λ t. t) (λ f. absurd (h (split (T_not O f)))) (either_way O)
    where
      either_way : (c : Bool) → (c ≡ true) ⊎ T (not c)
      either_way true = inl refl
      either_way false = inr tt

      split : ¬ T O → Inside M N s t b
      split f = (
        nleb→lt (states_of M) s (not_T (leb (states_of M) s) (λ y. f (or_left (leb (states_of M) s) (leb (states_of N) t) y))),
        nleb→lt (states_of N) t (not_T (leb (states_of N) t) (λ y. f (or_right (leb (states_of M) s) (leb (states_of N) t) y))),
      )

  is-inside : Inside M N s t b → O ≡ false
  is-inside h =
      is_false O (λ y. ⊎_elim (λ z. absurd (omega (arith, h.0, leb→le (states_of M) s z))) (λ z. absurd (omega (arith, h.1, leb→le (states_of N) t z))) (or_cases (leb (states_of M) s) (leb (states_of N) t) y))

  below : (m n : ℕ) → m < n → ltb m n ≡ true
  below m n h = is_true (ltb m n) (lt→ltb m n h)

  not_below : (m n : ℕ) → n ≤ m → ltb m n ≡ false
  not_below m n h = is_false (ltb m n) (λ y. absurd (omega (arith, ltb→lt m n y)))

  is-kept : Kept M N s t → K ≡ true
  is-kept e = is_true K (same_eqb e)

  is-fallen : ¬ Kept M N s t → K ≡ false
  is-fallen f = is_false K (λ y. f (eqb→eq (rank M N s t) 0 y))

  -- the call gives what its condition says
  ready : Ready M N s t b → shaped O F K W L U ≡ shaped false false K W L U
  ready r = ap (λ (o : Bool). shaped o F K W L U) (is-inside r.0) ∙ ap (λ (f : Bool). shaped false f K W L U) (not_below (length b.ranks) (pairs M N) r.1)

  pub met : {n : ℕ} (c : Condition M N room s t b n) → outcome M N room listed s t b x ≡ result_of M N room s t b listed x c
  unfolding shaped
  met (outside h) = outcome_shaped ∙ ap (λ (o : Bool). shaped o F K W L U) (is-outside h)
  met (short_ranks i h) = outcome_shaped ∙ ap (λ (o : Bool). shaped o F K W L U) (is-inside i) ∙ ap (λ (f : Bool). shaped false f K W L U) (below (length b.ranks) (pairs M N) h)
  met (short_flow r k h) = outcome_shaped ∙ ready r ∙ ap (λ (k : Bool). shaped false false k W L U) (is-kept k) ∙ ap (λ (w : Bool). shaped false false true w L U) (below (length b.flow) room h)
  met (flow_fits r k h) = outcome_shaped ∙ ready r ∙ ap (λ (k : Bool). shaped false false k W L U) (is-kept k) ∙ ap (λ (w : Bool). shaped false false true w L U) (not_below (length b.flow) room h)
  met (long_tree r k h) = outcome_shaped ∙ ready r ∙ ap (λ (k : Bool). shaped false false k W L U) (is-fallen k) ∙ ap (λ (l : Bool). shaped false false false W l U) (below longest (length (tree_bytes M N s t)) h)
  met (short_tree r k h g) =
      outcome_shaped ∙ ready r ∙ ap (λ (k : Bool). shaped false false k W L U) (is-fallen k) ∙ ap (λ (l : Bool). shaped false false false W l U) (not_below longest (length (tree_bytes M N s t)) h)
      ∙ ap (λ (u : Bool). shaped false false false W false u) (below (length b.tree) (length (tree_bytes M N s t)) g)
  met (tree_fits r k h g) =
      outcome_shaped ∙ ready r ∙ ap (λ (k : Bool). shaped false false k W L U) (is-fallen k) ∙ ap (λ (l : Bool). shaped false false false W l U) (not_below longest (length (tree_bytes M N s t)) h)
      ∙ ap (λ (u : Bool). shaped false false false W false u) (not_below (length b.tree) (length (tree_bytes M N s t)) g)

  -- some condition holds
  pub some_condition : (n : ℕ) × Condition M N room s t b n
  some_condition = place (dec_lt s (states_of M)) (dec_lt t (states_of N))
    where
      in_tree : Ready M N s t b → ¬ Kept M N s t → Dec (longest < length (tree_bytes M N s t)) → Dec (length b.tree < length (tree_bytes M N s t)) → (n : ℕ) × Condition M N room s t b n
      in_tree r k (yes h) d = (23, long_tree r k h)
      in_tree r k (no h) (yes g) = (22, short_tree r k (omega arith) g)
      in_tree r k (no h) (no g) = (0, tree_fits r k (omega arith) (omega arith))

      in_flow : Ready M N s t b → Kept M N s t → Dec (length b.flow < room) → (n : ℕ) × Condition M N room s t b n
      in_flow r k (yes h) = (21, short_flow r k h)
      in_flow r k (no h) = (0, flow_fits r k (omega arith))

      chosen : Ready M N s t b → Dec (rank M N s t ≡ 0) → (n : ℕ) × Condition M N room s t b n
      chosen r (yes k) = in_flow r k (dec_lt (length b.flow) room)
      chosen r (no k) = in_tree r k (dec_lt longest (length (tree_bytes M N s t))) (dec_lt (length b.tree) (length (tree_bytes M N s t)))

      with_ranks : Inside M N s t b → Dec (length b.ranks < pairs M N) → (n : ℕ) × Condition M N room s t b n
      with_ranks i (yes h) = (20, short_ranks i h)
      with_ranks i (no h) = chosen (i, omega arith) (ℕ_discrete (rank M N s t) 0)

      place : Dec (s < states_of M) → Dec (t < states_of N) → (n : ℕ) × Condition M N room s t b n
      place (no h) d = (11, outside (λ i. h i.0))
      place (yes h) (no g) = (11, outside (λ i. g i.1))
      place (yes h) (yes g) = with_ranks (h, g) (dec_lt (length b.ranks) (pairs M N))

  pub number-met : {n : ℕ} (c : Condition M N room s t b n) → (result_of M N room s t b listed x c).answer.number ≡ n
  unfolding success
  number-met (outside h) = refl
  number-met (short_ranks i h) = refl
  number-met (short_flow r k h) = refl
  number-met (flow_fits r k h) = refl
  number-met (long_tree r k h) = refl
  number-met (short_tree r k h g) = refl
  number-met (tree_fits r k h g) = refl

  -- each number exactly under its condition
  pub numbered : (n : ℕ) → ((outcome M N room listed s t b x).answer.number ≡ n) ↔ Condition M N room s t b n
  numbered n = (
    λ e. subst (Condition M N room s t b) (sym (given some_condition.1) ∙ e) some_condition.1,
    λ c. given c,
  )
    where
      given : {n : ℕ} → Condition M N room s t b n → (outcome M N room listed s t b x).answer.number ≡ n
      given c = ap (λ (r : Result). r.answer.number) (met c) ∙ number-met c
