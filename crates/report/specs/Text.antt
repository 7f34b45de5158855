-- What the program prints, as a list of bytes.
-- Assumes nothing.
use Rattle.std.specs.Prelude.{Bool, cond, codes, Option, Some, None, option_map, unwrap_or, List, [], ◌++◌, ℕ, zero, suc, ◌+◌, ◌*◌, max, eqb, length, take, get_or}
use Rattle.std.specs.List.{flat_map}
use Rattle.std.specs.Borrow.{Bor}
use Rattle.simulation.specs.Limits.{most_states, few_pairs, most_tree_bytes}
use Rattle.simulation.specs.Round.{maximum, zeros}
use Rattle.digits.specs.Digits.{hex, labelled}

-- f 0, …, f (n - 1), one after the other
unfoldable pub pieces : (ℕ → List ℕ) → ℕ → List ℕ
pieces f zero = []
pieces f (suc n) = pieces f n ++ f n

abbrev pub space : List ℕ
space = codes " "

abbrev pub newline : List ℕ
newline = codes "\n"

abbrev pub word_tables : List ℕ
word_tables = codes "tables "

abbrev pub word_row : List ℕ
word_row = codes "row "

abbrev pub word_rounds : List ℕ
word_rounds = codes "rounds "

abbrev pub word_kept : List ℕ
word_kept = codes " kept "

abbrev pub word_verdict : List ℕ
word_verdict = codes " verdict "

abbrev pub word_yes : List ℕ
word_yes = codes "yes\n"

abbrev pub word_no : List ℕ
word_no = codes "no\n"

abbrev pub word_refused : List ℕ
word_refused = codes "refused "

abbrev pub word_tree : List ℕ
word_tree = codes "tree"

abbrev pub word_tree_refused : List ℕ
word_tree_refused = codes "tree refused 23\n"

-- a line of a word and two numbers
unfoldable pub pair_line : List ℕ → ℕ → ℕ → List ℕ
pair_line word a b = labelled word a ++ labelled space b ++ newline

-- of a refused table: its place, and the number of the refusal
abbrev pub refused_text : ℕ → ℕ → List ℕ
refused_text table number = pair_line word_refused table number

-- the numbers of states
abbrev pub tables_line : ℕ → ℕ → List ℕ
tables_line p q = pair_line word_tables p q

-- the q ranks from a place on, a space before each
unfoldable pub ranks_text : List ℕ → ℕ → ℕ → List ℕ
unfolding pieces
ranks_text ranks from q = pieces (λ t. labelled space (get_or ranks (from + t) 0)) q

-- a state of the first table, and its ranks
unfoldable pub row_line : List ℕ → ℕ → ℕ → List ℕ
unfolding ranks_text
row_line ranks q s = labelled word_row s ++ ranks_text ranks (s * q) q ++ newline

unfoldable pub rows_text : List ℕ → ℕ → ℕ → List ℕ
unfolding pieces row_line
rows_text ranks q p = pieces (row_line ranks q) p

-- the verdict is yes if the first rank is 0
abbrev pub yes? : List ℕ → Bool
yes? ranks = eqb (get_or ranks 0 0) 0

-- rounds, kept pairs and verdict
unfoldable pub summary_line : ℕ → ℕ → Bool → List ℕ
summary_line rounds kept good = labelled word_rounds rounds ++ labelled word_kept kept ++ word_verdict ++ cond good word_yes word_no

-- the same, of the ranks of all pairs
abbrev pub rounds_line : List ℕ → List ℕ
rounds_line ranks = summary_line (maximum ranks) (zeros ranks) (yes? ranks)

-- bytes, a space before each
unfoldable pub bytes_text : List ℕ → List ℕ
bytes_text bytes = flat_map (λ b. space ++ hex b) bytes

-- the bytes of a tree
unfoldable pub tree_line : List ℕ → List ℕ
unfolding bytes_text
tree_line bytes = word_tree ++ bytes_text bytes ++ newline

-- the tree, or that it is too long where there is none
unfoldable pub tree_or_refusal : Option (List ℕ) → List ℕ
unfolding tree_line
tree_or_refusal None = word_tree_refused
tree_or_refusal (Some bytes) = tree_line bytes

-- the same on no alone
unfoldable pub tree_text : Bool → Option (List ℕ) → List ℕ
unfolding tree_or_refusal
tree_text good tree = cond good [] (tree_or_refusal tree)

-- the bytes of a tree that is lent, if one is
abbrev pub lent_bytes : Option (Bor (List ℕ)) → Option (List ℕ)
lent_bytes tree = option_map (λ bytes. bytes.now) tree

-- all that is printed of two accepted tables with p and q states, from the ranks of their pairs and the bytes of the tree, none where it
-- is too long
unfoldable pub report_text : ℕ → ℕ → List ℕ → Option (List ℕ) → List ℕ
unfolding rows_text summary_line tree_text
report_text p q ranks tree = tables_line p q ++ rows_text ranks q p ++ rounds_line ranks ++ tree_text (yes? ranks) tree

-- the answer to two tables. A refusal that names a table: that alone. Else the report: the ranks of the pairs come first in `ranks`, the
-- tree is the first `written` bytes of `tree`, and 23 says that it is too long
unfoldable pub answer_text : (table number written p q : ℕ) → List ℕ → List ℕ → List ℕ
unfolding pair_line report_text
answer_text table number written p q ranks tree =
    cond (eqb table 0) (report_text p q (take (p * q) ranks) (cond (eqb number 23) None (Some (take written tree)))) (refused_text table number)

-- the bytes of the tree, as far as there is one
abbrev pub tree_size : Option (List ℕ) → ℕ
tree_size tree = length (unwrap_or tree [])

-- no text is longer, for tables with p and q states, ranks of 16 bits and k bytes of tree: 15 bytes for the numbers of states, p rows of
-- 8 and 6 for each rank, 36 for rounds, kept pairs and verdict, 5 + 3 × k for the tree or 16 to say that it is too long
abbrev pub text_bound : (p q k : ℕ) → ℕ
text_bound p q k = 15 + p * (8 + 6 * q) + 36 + max 16 (5 + 3 * k)

-- the same for any tables within the limits and a tree of at most 65,535 bytes
abbrev pub longest_text : ℕ
longest_text = 15 + most_states * (8 + 6 * most_states) + 36 + (5 + 3 * most_tree_bytes)

-- the bytes of a short tree, at most
abbrev pub short_tree : ℕ
short_tree = 1023

-- the same for few pairs and a short tree
abbrev pub short_text : ℕ
short_text = 15 + 8 * most_states + 6 * few_pairs + 36 + (5 + 3 * short_tree)
