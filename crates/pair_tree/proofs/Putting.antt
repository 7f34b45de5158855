-- A tree of the length that was measured, kept back or written.
-- Assumes nothing.
use Rattle.form.specs.declared.tables.Tables.{Tables}
use mathlib.Core.Path.{◌≡◌, refl, ap, ap₂}
use mathlib.Core.List.{List}
use Prim.Native.Nat.{ℕ, ◌+◌, ◌*◌, ◌≤◌, ◌<◌, min}
use native.Mathlib.Omega.{arith}
use lib.ListN.{length}
use Rattle.simulation.specs.Limits.{most_pairs}
use Rattle.simulation.specs.Table.{Table, states_of}
use Rattle.simulation.specs.Round.{pairs}
use Rattle.simulation.specs.Length.{tree_length}
use Rattle.simulation.proofs.Trees.Length.{tree_bytes-length as bytes-length}
use Rattle.form.specs.Tables.{first_table, contract_table, BothLoaded}
use Rattle.form.proofs.Contract.{contract-pairs}
use Rattle.buffer.specs.Buffer.{over}
use Rattle.counting.specs.Count.{longest}
use Rattle.simulation.specs.Tree.{tree_bytes}
use Rattle.std.specs.Prelude.{Ok, Err}
use Rattle.answer.specs.declared.refusal.Refusal.TheVariants.{ShortTree, LongTree}
use Rattle.pair_tree.specs.Put.{TreePut}

-- the pairs, counted by the code
module _ {tables : Tables} (l : BothLoaded tables) {p q : ℕ} (ep : p ≡ states_of (first_table tables)) (eq : q ≡ states_of (contract_table tables)) where
  pub count-is : p * q ≡ pairs (first_table tables) (contract_table tables)
  count-is = ap₂ ◌*◌ ep eq

  pub count_small : p * q ≤ most_pairs
  count_small = omega (arith, count-is, contract-pairs tables l)

-- the tree of a pair that is not kept
module _ (M N : Table) (s t : ℕ) (b : t < states_of N) where
  pub tree-long : {tree : List ℕ} → longest < tree_length M N s t → TreePut M N s t (Err LongTree) tree tree
  tree-long h =
      let e = bytes-length M N s t b in
      record {
        long = λ _. (refl, refl);
        short = λ g _. absurd (omega (arith, e));
        written = λ g _. absurd (omega (arith, e));
      }

  -- of the length that was measured
  module _ {len : ℕ} (e : len ≡ tree_length M N s t) (whole : len ≤ longest) where
    length_whole : len ≡ length (tree_bytes M N s t)
    length_whole = omega (arith, bytes-length M N s t b)

    pub tree-short : {tree : List ℕ} → length tree < len → TreePut M N s t (Err (ShortTree len)) tree tree
    tree-short h =
        record {
          long = λ g. absurd (omega (arith, length_whole));
          short = λ _ _. (ap (λ (n : ℕ). Err (ShortTree n)) length_whole, refl);
          written = λ _ g. absurd (omega (arith, length_whole));
        }

    pub tree-written : {tree tree' : List ℕ} → len ≤ length tree → tree' ≡ over (tree_bytes M N s t) tree → TreePut M N s t (Ok len) tree tree'
    tree-written room w =
        record {
          long = λ g. absurd (omega (arith, length_whole));
          short = λ _ g. absurd (omega (arith, length_whole));
          written = λ _ _. (ap Ok length_whole, w);
        }
