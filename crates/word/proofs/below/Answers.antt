-- `word::below` meets its contract. Assumes nothing.
use mathlib.Core.Path.{◌∙◌, ap, fun_ext}
use native.Mathlib.Omega.{arith}
use lib.Pow.{pow_pos}
use Rattle.word.specs.Mask.{up_to, word_bits}
use Rattle.word.proofs.Mask.{power_is, up_to-is, member_ones}
use Rattle.word.proofs.below.Goals as goal

pub overflow_sub-result : goal.overflow_sub-result
overflow_sub-result c = rw (power_is c.args.n (omega arith)) (pow_pos c.args.n)

pub returns-then-n-lt-BITS : goal.returns-then-n-lt-BITS
returns-then-n-lt-BITS c = up_to-is c.args.n (omega arith)

pub returns : goal.returns
returns c = fun_ext (member_ones word_bits) ∙ ap up_to (omega arith)
