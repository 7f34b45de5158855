-- What is appended to a text.
-- Assumes nothing.
use Rattle.std.specs.Prelude.{List, ℕ, ◌+◌, ◌≤◌, length}
use Rattle.std.proofs.lemmas.List.Edits.{sets}
use Rattle.digits.specs.declared.Text.{Text}

-- the buffer has room for bs after the text
abbrev pub HasRoom : Text → List ℕ → Type 0
HasRoom t bs = t.len + length bs ≤ length t.buf.now

-- bs went into the buffer after the text, and nothing else changed
unfoldable pub append : Text → List ℕ → Text
append t bs = record { buf = record { ref_ptr = t.buf.ref_ptr; ghost_name = t.buf.ghost_name; now = sets t.buf.now t.len bs }; len = t.len + length bs }
