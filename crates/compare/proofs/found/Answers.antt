-- `compare::found` meets its contract.
-- Assumes nothing.
use mathlib.Core.Path.{ap}
use Prim.Native.Nat.{ℕ}
use lib.ListN.{get_or}
use Rattle.answer.specs.declared.answer.Answer.{Answer}
use Rattle.compare.proofs.found.Goals as goal

abbrev set-verdict : (rounds kept verdict rank : ℕ) → Answer
set-verdict r k v p = record { number = 0; table = 0; needed = 0; rounds = r; kept = k; verdict = v; rank = p; written = 0 }

pub returns : goal.returns
returns c =
    let d = c.args in
    ap (λ (v : ℕ). set-verdict d.rounds d.kept v (get_or d.ranks.now d.place 0)) c.kept.ensures
