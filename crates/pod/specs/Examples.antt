-- The calls that 01 marks to be proved, as rows of one table: what goes in and what must come out; some with entries of weight 0 (02, E2);
-- and some with codes that only one of the tables lists (02, E3).
-- proofs/Examples covers them all.
-- Assumes nothing.
use Rattle.std.specs.Prelude.{◌≡◌, List, [], ◌∷◌, ◌++◌, ℕ, replicate, take}
use Rattle.compare.specs.Outcome.{Buffers, Result, lent, left}
use Rattle.answer.specs.Numbers.{refusal}
use Rattle.pod.specs.Check.{Checked}
use Rattle.answer.specs.declared.answer.Answer.{Answer}

-- P and C differ in the first weight; the codes of P are 0A and 14
abbrev pub bytes : (code₁ code₂ weight : ℕ) → List ℕ
bytes a c w = 2 ∷ 0 ∷ a ∷ 0 ∷ c ∷ 0 ∷ 3 ∷ 1 ∷ 1 ∷ 0 ∷ 2 ∷ 0 ∷ 0x0A ∷ 0 ∷ 2 ∷ 0x14 ∷ 0 ∷ 1 ∷ 3 ∷ 0 ∷ 1 ∷ w ∷ 0 ∷ 2 ∷ 1 ∷ 0 ∷ 1 ∷ 1 ∷ 0 ∷ []

abbrev pub P : List ℕ
P = bytes 0x0A 0x14 3

abbrev pub C : List ℕ
C = bytes 0x0A 0x14 1

-- the same with an entry for each outcome that was watched, also for those never counted
abbrev pub watched : (weight : ℕ) → List ℕ
watched w =
    2 ∷ 0 ∷ 0x0A ∷ 0 ∷ 0x14 ∷ 0 ∷ 3 ∷ 1 ∷ 1 ∷ 0 ∷ 2 ∷ 0 ∷ 0x0A ∷ 0 ∷ 3 ∷ 0x14 ∷ 0 ∷ 3
    ∷ 6 ∷ 0 ∷ 0 ∷ 0 ∷ 0 ∷ 1 ∷ w ∷ 0 ∷ 2 ∷ 1 ∷ 0 ∷ 0 ∷ 0 ∷ 0 ∷ 1 ∷ 1 ∷ 0 ∷ 2 ∷ 0 ∷ 0
    ∷ []

-- one state without transitions
abbrev pub lone : List ℕ
lone = 0 ∷ 0 ∷ 1 ∷ 0 ∷ 0 ∷ 0 ∷ 0 ∷ 0 ∷ []

-- a call for the pair (s, t), with buffers full of 7 of the given lengths
pub record Row : Type 0 where
  pub first : List ℕ
  pub second : List ℕ
  pub s : ℕ
  pub t : ℕ
  pub buffers : Buffers
  pub result : Result

abbrev pub sevens : (ranks flow tree : ℕ) → Buffers
sevens a b c = lent (replicate a 7) (replicate b 7) (replicate c 7)

abbrev pub answered : (rounds kept verdict rank written : ℕ) → Answer
answered r k v p w = record { number = 0; table = 0; needed = 0; rounds = r; kept = k; verdict = v; rank = p; written = w }

-- the call for (s, t) with such buffers gives this answer and leaves this
abbrev pub call : (first second : List ℕ) (s t ranks flow tree : ℕ) → Answer → Buffers → Row
call f g s t a b c r l = record { first = f; second = g; s = s; t = t; buffers = sevens a b c; result = left r l }

-- a refusal that changes no buffer
abbrev pub refuses : (first second : List ℕ) (number table : ℕ) → Row
refuses f g n k = call f g 0 0 9 40 19 (refusal n k 0) (sevens 9 40 19)

abbrev pub ranks_PC : List ℕ
ranks_PC = 2 ∷ 1 ∷ 1 ∷ 1 ∷ 0 ∷ 1 ∷ 0 ∷ 0 ∷ 0 ∷ []

abbrev pub ranks_PP : List ℕ
ranks_PP = 0 ∷ 1 ∷ 1 ∷ 1 ∷ 0 ∷ 1 ∷ 0 ∷ 0 ∷ 0 ∷ []

abbrev pub tree_PC : List ℕ
tree_PC = 0x01 ∷ 0x0A ∷ 0x00 ∷ 0x02 ∷ 0x01 ∷ 0x03 ∷ 0x00 ∷ 0x01 ∷ 0x14 ∷ 0x00 ∷ 0x01 ∷ 0x01 ∷ 0x01 ∷ 0x00 ∷ 0x00 ∷ 0x02 ∷ 0x01 ∷ 0x00 ∷ 0x00 ∷ []

-- one transition of (0, 0), place 0, three records: (1, 1) 4, (2, 1) 2, (2, 2) 2
abbrev pub flow_CP : List ℕ
flow_CP = 1 ∷ 0 ∷ 3 ∷ 0 ∷ 1 ∷ 1 ∷ 4 ∷ 0 ∷ 0 ∷ 0 ∷ 2 ∷ 1 ∷ 2 ∷ 0 ∷ 0 ∷ 0 ∷ 2 ∷ 2 ∷ 2 ∷ 0 ∷ 0 ∷ 0 ∷ []

abbrev pub tree_fits : Row
tree_fits = call P C 0 0 9 0 19 (answered 2 4 0 2 19) (lent ranks_PC [] tree_PC)

abbrev pub tree_short : Row
tree_short = call P C 0 0 9 0 18 (refusal 22 0 19) (lent ranks_PC [] (replicate 18 7))

abbrev pub itself : Row
itself = call P P 0 1 9 0 12 (answered 1 5 1 1 12) (lent ranks_PP [] (1 ∷ 10 ∷ 0 ∷ 2 ∷ 1 ∷ 3 ∷ 0 ∷ 0 ∷ 2 ∷ 1 ∷ 0 ∷ 0 ∷ []))

abbrev pub flow_fits : Row
flow_fits = call C P 0 0 9 40 0 (answered 1 5 1 0 22) (lent ranks_PP (flow_CP ++ replicate 18 7) [])

abbrev pub flow_short : Row
flow_short = call C P 0 0 9 39 0 (refusal 21 0 40) (lent ranks_PP (replicate 39 7) [])

abbrev pub one_state : Row
one_state = call lone lone 0 0 1 1 0 (answered 0 1 1 0 1) (lent (0 ∷ []) (0 ∷ []) [])

abbrev pub no_bytes : Row
no_bytes = refuses [] P 1 1

abbrev pub cut_short : Row
cut_short = refuses (take 28 P) P 1 1

abbrev pub byte_more : Row
byte_more = refuses (P ++ 0 ∷ []) P 2 1

abbrev pub codes_exchanged : Row
codes_exchanged = refuses (bytes 0x14 0x0A 3) P 3 1

abbrev pub second_cut_short : Row
second_cut_short = refuses P (take 28 P) 1 2

abbrev pub rows : List Row
rows = tree_fits ∷ tree_short ∷ itself ∷ flow_fits ∷ flow_short ∷ one_state ∷ no_bytes ∷ cut_short ∷ byte_more ∷ codes_exchanged ∷ second_cut_short ∷ []

-- with entries of weight 0: the tree, in which they are no children, of the first table; that of the second, whose sets do not hold their targets;
-- the flow, for which the buffer must have room for all entries
abbrev pub watched_first : Row
watched_first = call (watched 3) C 0 0 9 0 19 (answered 2 4 0 2 19) (lent ranks_PC [] tree_PC)

abbrev pub watched_second : Row
watched_second = call P (watched 1) 0 0 9 0 19 (answered 2 4 0 2 19) (lent ranks_PC [] tree_PC)

abbrev pub watched_flow : Row
watched_flow = call (watched 1) (watched 3) 0 0 9 58 0 (answered 1 5 1 0 22) (lent ranks_PP (flow_CP ++ replicate 36 7) [])

abbrev pub watched_short : Row
watched_short = call (watched 1) (watched 3) 0 0 9 57 0 (refusal 21 0 58) (lent ranks_PP (replicate 57 7) [])

abbrev pub watched_rows : List Row
watched_rows = watched_first ∷ watched_second ∷ watched_flow ∷ watched_short ∷ []

-- one state and the code 0A: taken back to the state, and listed alone
abbrev pub display : List ℕ
display = 1 ∷ 0 ∷ 0x0A ∷ 0 ∷ 1 ∷ 1 ∷ 1 ∷ 0 ∷ 0x0A ∷ 0 ∷ 1 ∷ 1 ∷ 0 ∷ 0 ∷ 1 ∷ 0 ∷ []

abbrev pub listing : List ℕ
listing = 1 ∷ 0 ∷ 0x0A ∷ 0 ∷ 1 ∷ 0 ∷ 0 ∷ 0 ∷ 0 ∷ 0 ∷ []

-- by 14 to itself and to a state that has 0A
abbrev pub later : List ℕ
later = 2 ∷ 0 ∷ 0x0A ∷ 0 ∷ 0x14 ∷ 0 ∷ 2 ∷ 1 ∷ 1 ∷ 2 ∷ 0 ∷ 0x14 ∷ 0 ∷ 2 ∷ 0x0A ∷ 0 ∷ 1 ∷ 3 ∷ 0 ∷ 0 ∷ 1 ∷ 0 ∷ 1 ∷ 2 ∷ 0 ∷ 1 ∷ 1 ∷ 0 ∷ []

-- one transition, place 255, one record: (0, 0) 1
abbrev pub flow_alone : List ℕ
flow_alone = 1 ∷ 255 ∷ 1 ∷ 0 ∷ 0 ∷ 0 ∷ 1 ∷ 0 ∷ 0 ∷ 0 ∷ []

-- a code that the second table does not list, and one that it lists and does not take; one that only the second lists; a tree over the added transition
abbrev pub alone_fits : Row
alone_fits = call display lone 0 0 1 10 0 (answered 0 1 1 0 10) (lent (0 ∷ []) flow_alone [])

abbrev pub alone_short : Row
alone_short = call display lone 0 0 1 9 0 (refusal 21 0 10) (lent (0 ∷ []) (replicate 9 7) [])

abbrev pub not_taken : Row
not_taken = call display listing 0 0 1 0 8 (answered 1 0 0 1 8) (lent (1 ∷ []) [] (1 ∷ 10 ∷ 0 ∷ 1 ∷ 0 ∷ 1 ∷ 0 ∷ 0 ∷ []))

abbrev pub second_only : Row
second_only = call lone listing 0 0 1 1 0 (answered 0 1 1 0 1) (lent (0 ∷ []) (0 ∷ []) [])

abbrev pub over_added : Row
over_added =
    call later listing 0 0 2 0 19 (answered 2 0 0 2 19)
    (lent (2 ∷ 1 ∷ []) [] (1 ∷ 20 ∷ 0 ∷ 2 ∷ 0 ∷ 1 ∷ 0 ∷ 0 ∷ 1 ∷ 2 ∷ 0 ∷ 1 ∷ 10 ∷ 0 ∷ 1 ∷ 1 ∷ 1 ∷ 0 ∷ 0 ∷ []))

-- `alone_fits` and `second_only` say yes and `not_taken` says no: a chain that breaks, since its middle table does not list 0A (02, E14)
abbrev pub partial_rows : List Row
partial_rows = alone_fits ∷ alone_short ∷ not_taken ∷ second_only ∷ over_added ∷ []

-- every result that the contract allows is the row's
abbrev pub Covered : Row → Type 0
Covered w = (r : Result) → Checked w.first w.second w.s w.t w.buffers r → r ≡ w.result

infixr 5 ◌also◌
pub data All (Q : Row → Type 0) : List Row → Type 0 where
  done : All Q []
  ◌also◌ : {w : Row} {ws : List Row} → Q w → All Q ws → All Q (w ∷ ws)
