-- Two transitions compared in the relation of a round, out of ranks: what the cut of the rows says.
-- Assumes nothing.
use Rattle.form.specs.declared.tables.Tables.{Tables}
use mathlib.Core.Path.{◌≡◌, sym, ◌∙◌, subst₂}
use mathlib.Core.List.{List}
use Prim.Native.Nat.{ℕ, ◌<◌, pred}
use native.Mathlib.Omega.{arith}
use lib.Dec.{eqb}
use lib.ListN.{length}
use Rattle.simulation.specs.Table.{Transition, weights, targets, states_of}
use Rattle.simulation.specs.Round.{Relation, between, fits_step, round}
use Rattle.simulation.proofs.Fit.Agree.{fits_agree, cut_agree}
use Rattle.relation.specs.Related.{holds}
use Rattle.form.specs.Tables.{first_table, contract_table, first_step, second_step}
use Rattle.form.proofs.FormLaws.{weights-length}
use Rattle.relate.specs.Rows.{Rows}
use Rattle.relate.proofs.Relating.{related-round}
use Rattle.cut.specs.Quick.{CutOf}
use Rattle.fit.specs.Ranked.{InRound, Cut}
use Rattle.fit.proofs.Codes.{same_code}

-- the cut of the rows that were asked for
pub cut-found : {tables : Tables} {ranks : List ℕ} {r j k : ℕ} {amounts rel rel' ws vs : List ℕ} {mask : ℕ} → InRound tables ranks r j k amounts
    → Rows ranks (states_of (contract_table tables)) r (targets (first_step tables j)) (targets (second_step tables k)) rel rel'
    → ws ≡ weights (first_step tables j) → vs ≡ weights (second_step tables k) → CutOf ws vs rel' mask
    → Cut (round (first_table tables) (contract_table tables) (pred r)) (first_step tables j) (second_step tables k) rel' mask
cut-found {tables} {ranks} {r} {j} {k} {rel' = rel'} {mask = mask} g w ew ev answer =
    let m = first_step tables j in
    let n = second_step tables k in
    let R = between (round (first_table tables) (contract_table tables) (pred r)) m n in
    let a : CutOf (weights m) (weights n) rel' mask = subst₂ (λ (p q : List ℕ). CutOf p q rel' mask) ew ev answer in
    let rows = related-round j k g.ranked g.from_first g.from_second r g.later w in
    let same : (i l : ℕ) → i < length (weights m) → l < length (weights n) → R i l ≡ holds rel' i l =
    λ i l b c. sym (rows i l (omega (arith, weights-length m)) (omega (arith, weights-length n))) in
    record {
      fit = fits_agree R (holds rel') (weights m) (weights n) same ∙ a.fit;
      smallest = λ i b. let c : i < length (weights m) = omega (arith, weights-length m) in cut_agree R (holds rel') (weights m) (weights n) same i c ∙ a.smallest i c;
      no_others = λ i b. a.no_others i (omega (arith, weights-length m));
      related = rows;
    }

-- it tells whether m fits n, which has the same code
pub cut_fits : (R : Relation) (m n : Transition) {rel : List ℕ} {mask : ℕ} → m.code ≡ n.code → Cut R m n rel mask → eqb mask 0 ≡ fits_step R m n
cut_fits R m n e c = same_code R m n e (sym c.fit)
