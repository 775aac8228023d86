-- The hints of the columns that a CREATE TABLE statement lists, and what its call answers.
-- Assumes nothing.
use Prim.Native.Char.{code}
use Rattle.std.specs.Prelude.{ℕ, Bool, cond, not, ◌&&◌, ◌||◌, List, [], ◌∷◌, ◌++◌, ltb, eqb, length}
use Rattle.words.specs.Runs.{has, behind_first, before_last}
use Rattle.words.specs.Words.{bytes, trim, pieces, second_word, holds, starting, whole, meets_one}
use Rattle.sheet.specs.Filled.{ListFilling}
use Rattle.sheet.specs.Limits.{integer_hint, real_hint, text_hint, blob_hint, any_hint, largest_statement, count_fits}
use Rattle.sheet.specs.Refusal.{Check, first_held}
use Rattle.sheet.specs.declared.refusal.Refusal.TheVariants.{ColumnCount, TooLarge, NoColumnList}

-- the bracket before the columns
abbrev pub opening : ℕ
opening = code "("

-- the bracket behind the columns
abbrev pub closing : ℕ
closing = code ")"

-- Rule 6.1: what stands between the first ( and the last )
unfoldable pub between : List ℕ → List ℕ
between s = before_last closing (behind_first opening s)

-- the types that are integers
abbrev pub is_integer : List ℕ → Bool
is_integer = meets_one (starting "INT" ∷ whole "BOOLEAN" ∷ whole "TINYINT" ∷ whole "SMALLINT" ∷ whole "BIGINT" ∷ whole "MEDIUMINT" ∷ [])

-- the types that are texts
abbrev pub is_text : List ℕ → Bool
is_text = meets_one (starting "TEXT" ∷ starting "CHAR" ∷ starting "VARCHAR" ∷ starting "NCHAR" ∷ starting "NVARCHAR" ∷ whole "CLOB" ∷ [])

-- the types that are floats
abbrev pub is_real : List ℕ → Bool
is_real = meets_one (starting "REAL" ∷ starting "FLOAT" ∷ starting "DOUBLE" ∷ starting "NUMERIC" ∷ starting "DECIMAL" ∷ [])

-- the types that are blobs
abbrev pub is_blob : List ℕ → Bool
is_blob = meets_one (starting "BLOB" ∷ whole "BINARY" ∷ whole "VARBINARY" ∷ [])

-- Rule 6.4, the hint of a declared type: the first kind that it is of; Any where it is of none, or missing
unfoldable pub hint_of : List ℕ → ℕ
hint_of w =
    cond (is_integer w) integer_hint
    (cond (is_text w) text_hint
    (cond (is_real w) real_hint
    (cond (is_blob w) blob_hint any_hint)))

-- a piece that holds all three stands for the row id, wherever they stand in it
unfoldable pub is_row_id : List ℕ → Bool
is_row_id p = holds (bytes "INTEGER") p && holds (bytes "PRIMARY") p && holds (bytes "KEY") p

-- a piece that starts with one of these is no column, even where a column's name starts so
abbrev pub is_constraint : List ℕ → Bool
is_constraint = meets_one (starting "PRIMARY" ∷ starting "UNIQUE" ∷ starting "CHECK" ∷ starting "FOREIGN" ∷ starting "CONSTRAINT" ∷ [])

-- Rule 6.3: the pieces that give no hint
unfoldable pub is_skipped : List ℕ → Bool
is_skipped p = eqb (length p) 0 || is_row_id p || is_constraint p

-- the one hint of a trimmed piece, or none
unfoldable pub piece_hints : List ℕ → List ℕ
piece_hints p = cond (is_skipped p) [] (hint_of (second_word p) ∷ [])

-- the hints of pieces, in their order
unfoldable pub all_hints : List (List ℕ) → List ℕ
all_hints [] = []
all_hints (p ∷ ps) = piece_hints (trim p) ++ all_hints ps

-- the hints that a statement gives
unfoldable pub hints_of : List ℕ → List ℕ
hints_of s = all_hints (pieces (between s))

-- Rule 6.6, the checks: there are more bytes than may be,
abbrev pub too_large : List ℕ → Bool
too_large s = ltb largest_statement (length s)

-- a bracket is missing,
abbrev pub unlisted : List ℕ → Bool
unlisted s = not (has opening s) || not (has closing (behind_first opening s))

-- or there is no hint, or more than there may be
abbrev pub miscounted : List ℕ → Bool
miscounted s = not (count_fits (length (hints_of s)))

-- Rule 6.6: their order; each leaves the list as it was
unfoldable pub statement_checks : List ℕ → List Check
statement_checks s =
    record { refusal = TooLarge; holds = too_large s }
    ∷ record { refusal = NoColumnList; holds = unlisted s }
    ∷ record { refusal = ColumnCount; holds = miscounted s }
    ∷ []

-- what its answer rests on, with such a list lent
abbrev pub statement_filling : List ℕ → List ℕ → ListFilling
statement_filling s old = record { checked = first_held (statement_checks s); things = hints_of s; old = old }
