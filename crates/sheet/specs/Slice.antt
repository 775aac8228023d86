-- The checks of a call on a slice of bytes (rule 1.1).
-- Assumes nothing.
use Rattle.std.specs.Prelude.{ℕ, not, List, [], ◌∷◌, ltb, length}
use Rattle.sheet.specs.Limits.{largest_region, largest_base, count_fits, hints_known}
use Rattle.sheet.specs.Refusal.{Check}
use Rattle.sheet.specs.declared.refusal.Refusal.TheVariants.{ColumnCount, Malformed, TooLarge, BaseTooFar}

-- `len` bytes, with the absolute offset of their first
abbrev pub reach_checks : ℕ → ℕ → List Check
reach_checks len base =
    record { refusal = TooLarge; holds = ltb largest_region len }
    ∷ record { refusal = BaseTooFar; holds = ltb largest_base base }
    ∷ []

-- a region or a page slice of `len` bytes, with the absolute offset of its first, in rising order of their numbers
abbrev pub slice_checks : ℕ → List ℕ → ℕ → List Check
slice_checks len hints base =
    record { refusal = ColumnCount; holds = not (count_fits (length hints)) }
    ∷ record { refusal = Malformed; holds = not (hints_known hints) }
    ∷ reach_checks len base

-- the same where columns are only counted
abbrev pub counted_checks : ℕ → ℕ → ℕ → List Check
counted_checks len columns base =
    record { refusal = ColumnCount; holds = not (count_fits columns) }
    ∷ reach_checks len base
