-- The hints of the columns that a CREATE TABLE statement lists, in one of two readings, and what its call answers.
-- Assumes nothing.
use Rattle.std.specs.Prelude.{ℕ, Bool, not, ◌||◌, List, [], ◌∷◌, ◌++◌, ltb, length}
use Rattle.words.specs.Runs.{has, behind_first, before_last}
use Rattle.words.specs.Words.{opening, closing, trim, pieces}
use Rattle.column.specs.Column.{piece_hints}
use Rattle.column.specs.declared.piece.Reading.{Reading}
use Rattle.sheet.specs.Filled.{ListFilling}
use Rattle.sheet.specs.Limits.{largest_statement, count_fits}
use Rattle.sheet.specs.Refusal.{Check, first_held}
use Rattle.sheet.specs.declared.refusal.Refusal.TheVariants.{ColumnCount, TooLarge, NoColumnList}

-- Rule 6.1: what stands between the first ( and the last )
unfoldable pub between : List ℕ → List ℕ
between s = before_last closing (behind_first opening s)

-- the hints of pieces, in their order
unfoldable pub all_hints : Reading → List (List ℕ) → List ℕ
all_hints reading [] = []
all_hints reading (p ∷ ps) = piece_hints reading (trim p) ++ all_hints reading ps

-- the hints that a statement gives
unfoldable pub hints_of : Reading → List ℕ → List ℕ
hints_of reading s = all_hints reading (pieces (between s))

-- Rule 6.6, the checks: there are more bytes than may be,
abbrev pub too_large : List ℕ → Bool
too_large s = ltb largest_statement (length s)

-- a bracket is missing,
abbrev pub unlisted : List ℕ → Bool
unlisted s = not (has opening s) || not (has closing (behind_first opening s))

-- or there is no hint, or more than there may be
abbrev pub miscounted : Reading → List ℕ → Bool
miscounted reading s = not (count_fits (length (hints_of reading s)))

-- Rule 6.6: their order; each leaves the list as it was
unfoldable pub statement_checks : Reading → List ℕ → List Check
statement_checks reading s =
    record { refusal = TooLarge; holds = too_large s }
    ∷ record { refusal = NoColumnList; holds = unlisted s }
    ∷ record { refusal = ColumnCount; holds = miscounted reading s }
    ∷ []

-- what its answer rests on, with such a list lent
abbrev pub statement_filling : Reading → List ℕ → List ℕ → ListFilling
statement_filling reading s old = record { checked = first_held (statement_checks reading s); things = hints_of reading s; old = old }
