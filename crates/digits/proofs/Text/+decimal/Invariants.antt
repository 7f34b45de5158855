-- The measure of `digits::Text::decimal` is the number. Assumes nothing.
use Rattle.digits.proofs.Text.+decimal.Given as goal

abbrev pub decreases-decimal : goal.decreases-decimal
decreases-decimal l = l.n
