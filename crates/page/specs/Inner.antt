-- What the code carries between its own functions; nothing that a caller has to believe.
-- Assumes nothing.
use Rattle.std.specs.Prelude.{ℕ}

-- no place is asked for beyond: twice the largest region
abbrev pub farthest : ℕ
farthest = 33554432
