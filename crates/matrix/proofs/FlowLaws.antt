-- What one move does to a partial flow.
-- Assumes nothing.
use mathlib.Core.Path.{◌≡◌, refl, sym, ap, ◌∙◌, subst₂}
use mathlib.Core.Bool.{true}
use mathlib.Core.List.{List}
use mathlib.Core.Logic.{◌≢◌}
use Prim.Native.Nat.{ℕ, ◌+◌, ◌≤◌, ◌<◌, ◌^◌}
use native.Mathlib.Decide.{ℕ_discrete}
use native.Mathlib.Omega.{arith}
use lib.ListN.{length, get_or}
use Rattle.simulation.specs.Limits.{most_states}
use Rattle.simulation.specs.Sum.{sum}
use Rattle.simulation.proofs.Finite.Sums.{sum_ext, sum_add}
use Rattle.relation.specs.Related.{holds}
use Rattle.matrix.specs.Matrix.{cell, delta, AddsAt, Adds}
use Rattle.matrix.specs.Masks.{Used}
use Rattle.matrix.specs.Flow.{missing, Supported, Small, Flow, Preserves, Extends, Improves}
use Rattle.matrix.specs.Lists.{SameList}
use Rattle.matrix.specs.Held.{SameLists}
use Rattle.matrix.specs.declared.flow.Flow.{Flow as Held}
use Rattle.std.specs.Borrow.{MutBor}
use Rattle.matrix.proofs.MatrixLaws.{delta_eq, delta-other, sum-delta, row_adds, column_adds, cell_le, outside_refl, outside_trans, outside_adds}

-- d less left at the row and the column
preserved : {p q : ℕ} {rel x a b x' a' b' : List ℕ} {r c d : ℕ} → Extends p q rel x x' r c d → AddsAt a' a r d → AddsAt b' b c d → Preserves p q x a b x' a' b'
preserved e f g = record {
  sent = λ i h. omega (arith, e.rows i h, f.more i);
  taken = λ j h. omega (arith, e.columns j h, g.more j);
}

small-kept : {p q : ℕ} {x a b x' a' b' : List ℕ} → Preserves p q x a b x' a' b' → Small p q x a → Small p q x' a'
small-kept k s = record { fits = λ i h. omega (arith, k.sent i h, s.fits i h) }

pub preserves_refl : {p q : ℕ} (x a b : List ℕ) → Preserves p q x a b x a b
preserves_refl x a b = record { sent = λ i h. refl; taken = λ j h. refl }

pub preserves_trans : {p q : ℕ} {x a b x' a' b' x'' a'' b'' : List ℕ} → Preserves p q x a b x' a' b' → Preserves p q x' a' b' x'' a'' b'' → Preserves p q x a b x'' a'' b''
preserves_trans s t = record { sent = λ i h. t.sent i h ∙ s.sent i h; taken = λ j h. t.taken j h ∙ s.taken j h }

pub improves_refl : {p q : ℕ} {rel x a b senders : List ℕ} → Flow p q rel x a b senders → Improves p q rel x a b senders x a b senders
improves_refl {x = x} {a = a} {b = b} f = record { flow = f; preserves = preserves_refl x a b; outside = outside_refl x; same_x = refl; same_a = refl; same_b = refl; same_senders = refl }

pub improves_trans : {p q : ℕ} {rel x a b u x' a' b' u' x'' a'' b'' u'' : List ℕ} → Improves p q rel x a b u x' a' b' u' → Improves p q rel x' a' b' u' x'' a'' b'' u'' → Improves p q rel x a b u x'' a'' b'' u''
improves_trans s t = record {
  flow = t.flow;
  preserves = preserves_trans s.preserves t.preserves;
  outside = outside_trans s.outside t.outside;
  same_x = t.same_x ∙ s.same_x;
  same_a = t.same_a ∙ s.same_a;
  same_b = t.same_b ∙ s.same_b;
  same_senders = t.same_senders ∙ s.same_senders;
}

-- lengths stay, so that a flow goes on where another has ended
module _ {rel x a b u x' a' b' u' : List ℕ} (s : Improves (length a) (length b) rel x a b u x' a' b' u') where
  pub flow_now : Flow (length a') (length b') rel x' a' b' u'
  flow_now = subst₂ (λ (p q : ℕ). Flow p q rel x' a' b' u') (sym s.same_a) (sym s.same_b) s.flow

  pub improves-on : {x'' a'' b'' u'' : List ℕ} → Improves (length a') (length b') rel x' a' b' u' x'' a'' b'' u'' → Improves (length a) (length b) rel x a b u x'' a'' b'' u''
  improves-on {x''} {a''} {b''} {u''} t = improves_trans s (subst₂ (λ (p q : ℕ). Improves p q rel x' a' b' u' x'' a'' b'' u'') s.same_a s.same_b t)

-- lists that stay the same
pub same_list_refl : {x : MutBor (List ℕ)} → SameList x x
same_list_refl = record { name = refl; same_length = refl }

pub same_list_trans : {x y z : MutBor (List ℕ)} → SameList x y → SameList y z → SameList x z
same_list_trans s t = record { name = t.name ∙ s.name; same_length = t.same_length ∙ s.same_length }

pub same_lists_refl : {f : Held} → SameLists f f
same_lists_refl = record { amounts = same_list_refl; supply = same_list_refl; demand = same_list_refl; senders = same_list_refl }

pub same_lists_trans : {f g h : Held} → SameLists f g → SameLists g h → SameLists f h
same_lists_trans s t = record {
  amounts = same_list_trans s.amounts t.amounts;
  supply = same_list_trans s.supply t.supply;
  demand = same_list_trans s.demand t.demand;
  senders = same_list_trans s.senders t.senders;
}

-- d more along a path from row r to column c
pub improved : {p q : ℕ} {rel x a b u x' a' b' u' : List ℕ} {r c d : ℕ} → Flow p q rel x a b u → length x' ≡ length x → length a' ≡ length a → length b' ≡ length b → length u' ≡ length u
    → Extends p q rel x x' r c d → AddsAt a' a r d → AddsAt b' b c d → Used p q x' u' → Improves p q rel x a b u x' a' b' u'
improved f lx la lb lu e s t u = let w = f.sized in let k = preserved e s t in record {
  flow = record {
    sized = record {
      few_rows = w.few_rows;
      few_columns = w.few_columns;
      masks = w.masks;
      cells = omega (arith, w.cells);
      supplies = omega (arith, w.supplies);
      demands = omega (arith, w.demands);
      columns = omega (arith, w.columns);
    };
    supported = e.supported;
    small = small-kept k f.small;
    used = u;
  };
  preserves = k;
  outside = e.outside;
  same_x = lx;
  same_a = la;
  same_b = lb;
  same_senders = lu;
}

-- the amounts after d was added at a related place
pub added-support : {p q : ℕ} {rel y y' : List ℕ} {r c d : ℕ} → q ≤ most_states → holds rel r c ≡ true → Adds y y' r c d
    → ((i j : ℕ) → i < p → j < q → cell y i j ≢ 0 → holds rel i j ≡ true) → Supported p q rel y'
added-support {rel = rel} {r = r} {c = c} {d = d} w e a s = record {
  support = λ i j hi hj n. elim (ℕ_discrete r i) [
    | yes f ↦ elim (ℕ_discrete c j) [
      | yes g ↦ subst₂ (λ (i j : ℕ). holds rel i j ≡ true) f g e
      | no o ↦ s i j hi hj (λ z. n (a.more i j (omega arith) ∙ omega (arith, z, delta_eq (delta c j d) f, delta-other d o)))
    ]
    | no o ↦ s i j hi hj (λ z. n (a.more i j (omega arith) ∙ omega (arith, z, delta-other (delta c j d) o)))
  ];
}

-- d more in a related cell
pub cell_extends : {p q : ℕ} {rel x a b u x' : List ℕ} {i j d : ℕ} → Flow p q rel x a b u → i < p → j < q → holds rel i j ≡ true → Adds x x' i j d → Extends p q rel x x' i j d
cell_extends {p} {q} f hi hj r s = let w = f.sized.few_columns in record {
  rows = λ k h. row_adds p q w s hj k;
  columns = λ k h. column_adds p q w s hi k h;
  supported = added-support w r s f.supported.support;
  outside = outside_adds hi hj s;
}

pub cell-fits : {p q : ℕ} {rel x a b u : List ℕ} (i j d : ℕ) → Flow p q rel x a b u → i < p → j < q → d ≤ get_or a i 0 → cell x i j + d < 2 ^ 32
cell-fits {q = q} {x = x} i j d f hi hj l = omega (arith, f.small.fits i hi, cell_le q x i j hj)

-- what is missing falls by what is sent
pub missing-falls : {q : ℕ} {b b' : List ℕ} {c d : ℕ} → c < q → AddsAt b' b c d → missing q b ≡ missing q b' + d
unfolding missing
missing-falls {q} {b} {b'} {c} {d} h s =
    sum_ext q (λ j. get_or b j 0) (λ j. get_or b' j 0 + delta c j d) (λ j l. s.more j)
    ∙ sum_add q (λ j. get_or b' j 0) (λ j. delta c j d)
    ∙ ap (λ (m : ℕ). sum q (λ j. get_or b' j 0) + m) (sum-delta q c d h)
