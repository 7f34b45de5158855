-- `pair::number` meets its contract. Assumes nothing.
use Rattle.form.specs.declared.tables.Tables.{Tables}
use mathlib.Core.List.{List}
use mathlib.Core.Path.{◌≡◌, ap}
use Prim.Native.Nat.{ℕ, ◌+◌, ◌-◌, ◌*◌, ◌≤◌, ◌<◌}
use native.Mathlib.Omega.{arith}
use native.Mathlib.Nat.{mul-le-mul_left}
use Rattle.simulation.specs.Limits.{most_states, most_pairs}
use Rattle.simulation.specs.Table.{states_of}
use Rattle.form.specs.Tables.{contract_table, BothLoaded}
use Rattle.form.proofs.Contract.{contract-few}
use Rattle.counting.proofs.pair.number.Goals as goal

small : (tables : Tables) (s n : ℕ) → BothLoaded tables → s < most_states → n ≡ states_of (contract_table tables) → s * n ≤ most_pairs - most_states
small tables s n b a e =
    omega (arith, mul-le-mul_left s (let h : n ≤ most_states = omega (arith, contract-few tables b) in h))

pub overflow_mul-result : goal.overflow_mul-result
overflow_mul-result c =
    record { fits = omega (arith, small c.args.tables.now c.args.s _ c.requires.0 c.requires.1 c.width.ensures) }

pub overflow_add-result : goal.overflow_add-result
overflow_add-result c =
    record { fits = omega (arith, small c.args.tables.now c.args.s _ c.requires.0 c.requires.1 c.width.ensures, c.requires.2) }

pub returns : goal.returns
returns c =
    let low = small c.args.tables.now c.args.s _ c.requires.0 c.requires.1 c.width.ensures in
    (ap (λ (n : ℕ). c.args.s * n + c.args.t) c.width.ensures, omega (arith, low, c.requires.2))
