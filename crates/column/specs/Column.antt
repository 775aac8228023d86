-- What a piece of a CREATE TABLE statement says of a column: its hint, or that it is none.
-- Assumes nothing.
use Rattle.std.specs.Prelude.{ℕ, Bool, cond, ◌&&◌, ◌||◌, List, [], ◌∷◌, map, eqb, length}
use Prim.Native.String.{String}
use Rattle.words.specs.Runs.{in_word, take_while, before_first}
use Rattle.words.specs.Words.{bytes, opening, closing, second_word, word_behind, equals, holds, starting, whole, meets_one}
use Rattle.sheet.specs.Limits.{integer_hint, real_hint, text_hint, blob_hint, null_hint, any_hint}
use Rattle.column.specs.declared.piece.Reading.{Reading}
use Rattle.column.specs.declared.piece.Reading.TheVariants.{AsRust, ByFormat}

-- the types that are integers
abbrev pub is_integer : List ℕ → Bool
is_integer =
    meets_one (starting "INT" ∷ whole "BOOLEAN" ∷ whole "TINYINT" ∷ whole "SMALLINT" ∷ whole "BIGINT" ∷ whole "MEDIUMINT" ∷ [])

-- the types that are texts
abbrev pub is_text : List ℕ → Bool
is_text =
    meets_one (starting "TEXT" ∷ starting "CHAR" ∷ starting "VARCHAR" ∷ starting "NCHAR" ∷ starting "NVARCHAR" ∷ whole "CLOB" ∷ [])

-- the types that are floats
abbrev pub is_real : List ℕ → Bool
is_real = meets_one (starting "REAL" ∷ starting "FLOAT" ∷ starting "DOUBLE" ∷ starting "NUMERIC" ∷ starting "DECIMAL" ∷ [])

-- the types that are blobs
abbrev pub is_blob : List ℕ → Bool
is_blob = meets_one (starting "BLOB" ∷ whole "BINARY" ∷ whole "VARBINARY" ∷ [])

-- Rule 6.4, the hint of a declared type: the first kind that it is of; Any where it is of none, or missing
unfoldable pub hint_of : List ℕ → ℕ
hint_of w =
    cond (is_integer w) integer_hint
    (cond (is_text w) text_hint
    (cond (is_real w) real_hint
    (cond (is_blob w) blob_hint any_hint)))

-- the words that a constraint of a table begins with
abbrev pub constraints : List String
constraints = "PRIMARY" ∷ "UNIQUE" ∷ "CHECK" ∷ "FOREIGN" ∷ "CONSTRAINT" ∷ []

-- ---- as the Rust
-- a piece that holds all three stands for the row id, wherever they stand in it
unfoldable pub is_row_id : List ℕ → Bool
is_row_id p = holds (bytes "INTEGER") p && holds (bytes "PRIMARY") p && holds (bytes "KEY") p

-- a piece that starts with the letters of a constraint, even where they begin a column's name
abbrev pub begins_as_constraint : List ℕ → Bool
begins_as_constraint = meets_one (map starting constraints)

-- ---- by the format
-- the first word of a trimmed piece, which a round bracket ends as a blank does
unfoldable pub name_of : List ℕ → List ℕ
name_of p = before_first closing (before_first opening (take_while in_word p))

-- a name that is a constraint's word
abbrev pub is_constraint : List ℕ → Bool
is_constraint = meets_one (map whole constraints)

-- PRIMARY KEY stands right behind the second word
unfoldable pub is_keyed : List ℕ → Bool
is_keyed p = equals (bytes "PRIMARY") (word_behind 2 p) && equals (bytes "KEY") (word_behind 3 p)

-- Rule 6.8: the second word of a key is INTEGER, with PRIMARY KEY right behind it
abbrev pub is_key : List ℕ → Bool
is_key p = equals (bytes "INTEGER") (second_word p) && is_keyed p

-- a record has a NULL in the key's place; a descending one is stored like any other column
abbrev pub key_hint : List ℕ → ℕ
key_hint p = cond (equals (bytes "DESC") (word_behind 4 p)) integer_hint null_hint

-- ---- both readings
-- Rules 6.3 and 6.7: the pieces that are no columns
unfoldable pub is_dropped : Reading → List ℕ → Bool
is_dropped AsRust p = is_row_id p || begins_as_constraint p
is_dropped ByFormat p = is_constraint (name_of p)

-- Rules 6.4 and 6.8: the hint of a column
unfoldable pub column_hint : Reading → List ℕ → ℕ
column_hint AsRust p = hint_of (second_word p)
column_hint ByFormat p = cond (is_key p) (key_hint p) (hint_of (second_word p))

-- the one hint of a trimmed piece, or none; an empty one gives none (rule 6.1)
unfoldable pub piece_hints : Reading → List ℕ → List ℕ
piece_hints reading p = cond (eqb (length p) 0 || is_dropped reading p) [] (column_hint reading p ∷ [])
