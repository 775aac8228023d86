-- Where the types of a record may begin whose header's length is lost.
-- Assumes nothing.
use Rattle.std.specs.Prelude.{ℕ, suc, ◌-◌}

-- Rule 11.6: so many starts, those v with v + columns - 1 no more than the payload's length
abbrev pub rebuilt_starts : ℕ → ℕ → ℕ
rebuilt_starts len columns = suc len - (columns - 1)
