-- `relation::rows::put` meets its contract. Assumes nothing.
use mathlib.Core.Path.{ap}
use Prim.Native.Nat.{ℕ, ◌+◌, ◌*◌}
use native.Mathlib.Omega.{arith}
use lib.ListN.{set, length-set}
use Rattle.set.specs.Words.{words, word_of}
use Rattle.relation.specs.Rows.{put_row}
use Rattle.set.proofs.Words.{equation}
use Rattle.relation.proofs.rows.put.Goals as goal

pub bounds-rows-at-2 : goal.bounds-rows-at-2
bounds-rows-at-2 c = simp length-set (omega arith)

pub returns : goal.returns
unfolding put_row
returns c =
    let a = c.args in
    ap (λ (k : ℕ). set (set a.rows.now k (word_of a.set 0)) (a.s * words + 1) (word_of a.set 1)) (equation (a.s * words) (a.s * words + 0) (omega arith))
