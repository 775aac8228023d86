-- What the code carries between its own functions; nothing that a caller has to believe.
-- Assumes nothing.
use Rattle.std.specs.Prelude.{ℕ, cond, leb}

-- a place behind `at`, or 0
abbrev pub larger : ℕ → ℕ → ℕ
larger at next = cond (leb next at) 0 next
