-- What the code carries between its own functions; nothing that a caller has to believe.
-- Assumes nothing.
use Rattle.std.specs.Prelude.{ℕ, ◌+◌, ◌≤◌, List, length}
use Rattle.record.specs.declared.record.Value.{Value}
use Rattle.record.specs.declared.record.Value.TheVariants.{Null, Int, Real, Text, Blob}

-- a real has its eight bytes
abbrev pub BodyThere : List ℕ → ℕ → Value → Type 0
BodyThere s at Null = Unit
BodyThere s at (Int z) = Unit
BodyThere s at (Real x) = at + 8 ≤ length s
BodyThere s at (Text start n) = Unit
BodyThere s at (Blob start n) = Unit
