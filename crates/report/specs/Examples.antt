-- Computed examples: the two tables in the input, and the text for P and C, for a verdict of yes, for a refused table and for a tree that is too long.
-- Assumes nothing.
use Rattle.std.specs.Prelude.{◌≡◌, refl, codes, List, [], ◌∷◌, ◌++◌, ℕ}
use Rattle.simulation.specs.Round.{maximum, zeros}
use Rattle.report.specs.Input.{first_of_input, second_of_input}
use Rattle.digits.specs.Digits.{digits, decimal}
use Rattle.report.specs.Text.{pieces, pair_line, ranks_text, row_line, rows_text, summary_line, bytes_text, tree_line, tree_or_refusal, tree_text, report_text, answer_text}

unfoldable P : List ℕ
P = 2 ∷ 0 ∷ 10 ∷ 0 ∷ 20 ∷ 0 ∷ 3 ∷ 1 ∷ 1 ∷ 0 ∷ 2 ∷ 0 ∷ 10 ∷ 0 ∷ 2 ∷ 20 ∷ 0 ∷ 1 ∷ 3 ∷ 0 ∷ 1 ∷ 3 ∷ 0 ∷ 2 ∷ 1 ∷ 0 ∷ 1 ∷ 1 ∷ 0 ∷ []

unfoldable C : List ℕ
C = 2 ∷ 0 ∷ 10 ∷ 0 ∷ 20 ∷ 0 ∷ 3 ∷ 1 ∷ 1 ∷ 0 ∷ 2 ∷ 0 ∷ 10 ∷ 0 ∷ 2 ∷ 20 ∷ 0 ∷ 1 ∷ 3 ∷ 0 ∷ 1 ∷ 1 ∷ 0 ∷ 2 ∷ 1 ∷ 0 ∷ 1 ∷ 1 ∷ 0 ∷ []

-- two bytes of length before each table; what follows is ignored
first_example : first_of_input ((29 ∷ 0 ∷ []) ++ P ++ (29 ∷ 0 ∷ []) ++ C ++ (7 ∷ [])) ≡ P
unfolding P C
first_example = refl

second_example : second_of_input ((29 ∷ 0 ∷ []) ++ P ++ (29 ∷ 0 ∷ []) ++ C ++ (7 ∷ [])) ≡ C
unfolding P C
second_example = refl

-- input that ends early: 258 bytes are stated and 3 are there; a length of one byte is 0
short_example : (first_of_input (2 ∷ 1 ∷ 5 ∷ 6 ∷ 7 ∷ []) ≡ 5 ∷ 6 ∷ 7 ∷ []) × (second_of_input (2 ∷ 1 ∷ 5 ∷ 6 ∷ 7 ∷ []) ≡ [])
short_example = (refl, refl)

cut_example : (first_of_input (9 ∷ []) ≡ []) × (second_of_input (1 ∷ 0 ∷ 5 ∷ 9 ∷ []) ≡ [])
cut_example = (refl, refl)

decimal_example : (decimal 0 ≡ 48 ∷ []) × (decimal 10 ≡ 49 ∷ 48 ∷ []) × (decimal 4096 ≡ 52 ∷ 48 ∷ 57 ∷ 54 ∷ [])
unfolding digits decimal
decimal_example = (refl, refl, refl)

-- "refused 1 3\n"
refused_example : answer_text 1 3 0 0 0 [] [] ≡ 114 ∷ 101 ∷ 102 ∷ 117 ∷ 115 ∷ 101 ∷ 100 ∷ 32 ∷ 49 ∷ 32 ∷ 51 ∷ 10 ∷ []
unfolding digits decimal pair_line answer_text
refused_example = refl

ranks_PC : List ℕ
ranks_PC = 2 ∷ 1 ∷ 1 ∷ 1 ∷ 0 ∷ 1 ∷ 0 ∷ 0 ∷ 0 ∷ []

tree_PC : List ℕ
tree_PC = 1 ∷ 10 ∷ 0 ∷ 2 ∷ 1 ∷ 3 ∷ 0 ∷ 1 ∷ 20 ∷ 0 ∷ 1 ∷ 1 ∷ 1 ∷ 0 ∷ 0 ∷ 2 ∷ 1 ∷ 0 ∷ 0 ∷ []

lines_PC : List ℕ
lines_PC =
    codes "tables 3 3\n"
    ++ codes "row 0 2 1 1\n"
    ++ codes "row 1 1 0 1\n"
    ++ codes "row 2 0 0 0\n"
    ++ codes "rounds 2 kept 4 verdict no\n"

tree_line_PC : List ℕ
tree_line_PC =
    codes "tree 01 0a 00 02 01 03 00 01 14 00 01 01 01 00 00 02 01 00 00\n"

PC_example : answer_text 0 0 19 3 3 (ranks_PC ++ (7 ∷ [])) (tree_PC ++ (7 ∷ [])) ≡ lines_PC ++ tree_line_PC
unfolding ranks_PC tree_PC lines_PC tree_line_PC maximum zeros pieces digits decimal pair_line ranks_text row_line rows_text summary_line bytes_text tree_line tree_or_refusal tree_text report_text answer_text
PC_example = refl

line_refused : List ℕ
line_refused =
    codes "tree refused 23\n"

-- were its tree too long
PC_refused_example : answer_text 0 23 0 3 3 ranks_PC [] ≡ lines_PC ++ line_refused
unfolding ranks_PC lines_PC line_refused maximum zeros pieces digits decimal pair_line ranks_text row_line rows_text summary_line bytes_text tree_line tree_or_refusal tree_text report_text answer_text
PC_refused_example = refl

lines_yes : List ℕ
lines_yes =
    codes "tables 1 2\n"
    ++ codes "row 0 0 1\n"
    ++ codes "rounds 1 kept 1 verdict yes\n"

yes_example : answer_text 0 0 19 1 2 (0 ∷ 1 ∷ []) tree_PC ≡ lines_yes
unfolding lines_yes maximum zeros pieces digits decimal pair_line ranks_text row_line rows_text summary_line bytes_text tree_line tree_or_refusal tree_text report_text answer_text
yes_example = refl
