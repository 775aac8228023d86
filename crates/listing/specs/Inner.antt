-- What the writers of lines ask.
-- Assumes nothing.
use Rattle.std.specs.Prelude.{ℕ, ◌+◌, ◌*◌}
use Rattle.digits.specs.Digits.{hex_digits}
use Rattle.digits.specs.Inner.{most_field}

-- the most bytes of a line up to its types: two fields, a confidence and its blank,
abbrev pub most_numbers : ℕ
most_numbers = 2 * most_field + (hex_digits + 1)

-- and of a line
abbrev pub most_line : ℕ → ℕ
most_line width = most_numbers + 1 + most_field * width
