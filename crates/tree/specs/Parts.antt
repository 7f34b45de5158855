-- A tree written in any order: what a node and a transition are in bytes, the part of one that is still to be written.
-- Assumes nothing.
use Rattle.std.specs.Prelude.{◌≡◌, ◌⊎◌, List, ℕ, zero, suc, ◌+◌, ◌-◌, ◌*◌, ◌/◌, ◌^◌, ◌≤◌, ◌<◌, min, T, length, get_or, Option, Some, None, IfSome}
use Rattle.simulation.specs.Limits.{most_pairs, most_states}
use Rattle.simulation.specs.Table.{states_of}
use Rattle.simulation.specs.Round.{pairs}
use Rattle.simulation.specs.Tree.{leaf, own_step, own_node, transition_bytes, node_bytes}
use Rattle.simulation.specs.Length.{tree_length}
use Rattle.form.specs.Tables.{first_table, contract_table}
use Rattle.word.specs.Mask.{member}
use Rattle.set.specs.Words.{words, mask}
use Rattle.counting.specs.Count.{longest}
use Rattle.measure.specs.Lengths.{Measured}
use Rattle.relate.specs.Ranked.{RanksRight}
use Rattle.tree.specs.declared.write.Node.{Node}
use Rattle.tree.specs.declared.write.Rest.{Rest}
use Rattle.tree.specs.declared.write.Source.{Source}
use Rattle.tree.specs.declared.write.Step.{Step}

-- the list P stands in the list l at place a
pub record At (l : List ℕ) (a : ℕ) (P : List ℕ) : Type 0 where
  pub fits : a + length P ≤ length l
  pub same : (k : ℕ) → k < length P → get_or l (a + k) 0 ≡ get_or P k 0

-- the words for the calls of so many levels, a set for each child: a transition has most-states children at most, and no more than a quarter of 2 ^ levels, since each takes four bytes
unfoldable pub words_for : (levels : ℕ) → ℕ
words_for zero = 0
words_for (suc levels) = words * min most_states (2 ^ suc levels / 4) + words_for levels

-- the words for 16 levels: most-states children at the upper eight, one less than that at all levels below them together; and room for a full set of sets and for the rows of a relation
abbrev pub stack_words : ℕ
stack_words = words * (11 * most_states - 1)

-- what is left in a part of a buffer, by its place in the buffer, in which the part begins at `start`
abbrev pub offset : Option Rest → ℕ → Option Rest
offset None start = None
offset (Some hole) start = Some (record hole { at = start + hole.at })

-- the calls below a limit are no deeper than the levels, and the stack has the words for them
pub record Depth (limit : ℕ) (stack : List ℕ) : Type 0 where
  pub levels : ℕ
  pub deep : limit < 2 ^ levels
  pub words : words_for levels + 2 * words * most_states ≤ length stack

module _ (src : Source) where
  -- the bytes of the node of a state and a set of states that it is not kept with; no rank is above the number of pairs
  abbrev pub node_of : Node → List ℕ
  node_of node =
      let M = first_table src.tables.now in
      let N = contract_table src.tables.now in
      node_bytes (own_node M N (pairs M N) node.s (member (mask node.members)))

  -- the bytes of the transition of a pair that is not kept
  abbrev pub step_of : ℕ → ℕ → List ℕ
  step_of s t =
      let M = first_table src.tables.now in
      let N = contract_table src.tables.now in
      transition_bytes (own_step M N (own_node M N (pairs M N - 1)) s t leaf)

  -- the first n bytes of `total` are written, but for the part that a pair's transition takes
  pub record PartLeft (total : List ℕ) (n : ℕ) (now : List ℕ) (rest : Rest) : Type 0 where
    pub measured : Measured src.tables.now src.choices.now src.lengths.now rest.s rest.t
    pub size : rest.len ≡ length (step_of rest.s rest.t)
    pub part : At total rest.at (step_of rest.s rest.t)
    pub within : rest.at + rest.len ≤ n
    pub written : (k : ℕ) → k < n → (k < rest.at) ⊎ (rest.at + rest.len ≤ k) → get_or now k 0 ≡ get_or total k 0

  -- the first n bytes of `total` are written, but for what is left
  pub data Left (total : List ℕ) (n : ℕ) (now : List ℕ) : Option Rest → Type 0 where
    whole : ((k : ℕ) → k < n → get_or now k 0 ≡ get_or total k 0) → Left total n now None
    but : {rest : Rest} → PartLeft total n now rest → Left total n now (Some rest)

  -- what all writing rests on
  pub record WriteGiven (amounts : List ℕ) : Type 0 where
    pub ranked : RanksRight src.tables.now src.ranks.now
    pub notes : pairs (first_table src.tables.now) (contract_table src.tables.now) ≤ length src.choices.now
    pub enough : pairs (first_table src.tables.now) (contract_table src.tables.now) ≤ length src.lengths.now
    pub amounts_room : most_pairs ≤ length amounts

  -- the writing of a transition or its deferral
  pub record StepGiven (step : Step) (amounts stack buf : List ℕ) : Type 0 where
    pub given : WriteGiven amounts
    pub depth : Depth step.limit stack
    pub measured : Measured src.tables.now src.choices.now src.lengths.now step.s step.t
    pub size : length buf ≡ length (step_of step.s step.t)

  -- the transition is written if it is not longer than the limit, and is what is left if it is
  pub record StepWritten (step : Step) (rest : Option Rest) (old new : List ℕ) : Type 0 where
    pub short : length old ≤ step.limit → (rest ≡ None) × (new ≡ step_of step.s step.t)
    pub long : step.limit < length old → rest ≡ Some (record { s = step.s; t = step.t; at = 0; len = length old })

  -- the writing of a node whose bytes have at most one part that is longer than half
  pub record NodeGiven (node : Node) (amounts stack buf : List ℕ) : Type 0 where
    pub given : WriteGiven amounts
    pub depth : Depth node.half stack
    pub state : node.s < states_of (first_table src.tables.now)
    pub measured : (t : ℕ) → T (member (mask node.members) t) → Measured src.tables.now src.choices.now src.lengths.now node.s t
    pub size : length buf ≡ length (node_of node)
    pub once : length buf ≤ 2 * node.half + 1

  -- all but a part longer than half is written
  pub record Around (total : List ℕ) (half : ℕ) (now : List ℕ) (rest : Option Rest) : Type 0 where
    pub left : Left total (length total) now rest
    pub less : IfSome rest (λ (r : Rest). r.len < length total)
    pub long : IfSome rest (λ (r : Rest). half < r.len)

  -- what the writing of a pair's tree rests on
  pub record TreeGiven (s t : ℕ) (amounts buf : List ℕ) : Type 0 where
    pub given : WriteGiven amounts
    pub measured : Measured src.tables.now src.choices.now src.lengths.now s t
    pub short : tree_length (first_table src.tables.now) (contract_table src.tables.now) s t ≤ longest
    pub room : tree_length (first_table src.tables.now) (contract_table src.tables.now) s t ≤ length buf
