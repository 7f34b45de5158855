-- `report::text::put_bytes`: the bytes before the index are in place. Assumes nothing.
use Rattle.std.proofs.Common.{◌≡◌, ◌++◌, take}
use Rattle.std.specs.List.{flat_map}
use Rattle.digits.specs.Appending.{append}
use Rattle.digits.specs.Digits.{hex}
use Rattle.report.specs.Text.{space}
use Rattle.report.proofs.text.put_bytes.Given as goal

abbrev pub invariant-loop-b : goal.invariant-loop-b
invariant-loop-b l = l.text ≡ append l.initial.text (flat_map (λ b. space ++ hex b) (take l.b-index l.bytes))
