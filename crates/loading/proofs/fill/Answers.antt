-- `loading::fill` meets its contract.
-- Assumes nothing.
use native.Mathlib.Omega.{arith}
use Rattle.loading.proofs.LoadLaws.{loads}
use Rattle.loading.proofs.fill.Goals as goal

pub put_columns-requires : goal.put_columns-requires
put_columns-requires c =
    record { passed = c.requires.passed; parts = c.requires.parts; room = omega (arith, c.put_counts.ensures.1.long) }

pub put_supports-requires : goal.put_supports-requires
put_supports-requires c =
    record { passed = c.requires.passed; parts = c.requires.parts; room = omega (arith, c.put_counts.ensures.1.long, c.put_columns.ensures.1.long) }

pub returns : goal.returns
returns c =
    loads _ (λ i. omega (arith, c.type_inv.s i)) c.requires.passed c.requires.room
    c.put_counts.ensures.0 c.put_counts.ensures.1 c.put_columns.ensures.0 c.put_columns.ensures.1 c.put_supports.ensures.0 c.put_supports.ensures.1
