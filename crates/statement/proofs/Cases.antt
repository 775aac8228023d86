-- Worked statements, as one table that is computed at once.
-- Assumes nothing.
use Prim.Native.Nat.{ℕ, zero, suc}
use Prim.Native.String.{String}
use mathlib.Core.Path.{◌≡◌, refl}
use mathlib.Core.List.{List, [], ◌∷◌, ◌++◌, map}
use lib.ListN.{length, replicate}
use Rattle.statement.specs.Statement.{between, hint_of, is_row_id, is_skipped, piece_hints, all_hints, hints_of, statement_checks, statement_filling}
use Rattle.words.specs.Runs.{is_blank, take_while, drop_while, has, behind_first, before_last}
use Rattle.words.specs.Words.{bytes, raise, trim, pieces, first_word, second_word, starts_with, equals, holds}
use Rattle.sheet.specs.Filled.{list_number, list_written, list_left}
use Rattle.sheet.specs.Limits.{count_fits}

-- a statement and how many cells are lent, with the answer's number, how many hints are written, and the hints
data Case : Type 0 where
  case : List ℕ → ℕ → ℕ → ℕ → List ℕ → Case

-- what the lent cells hold before
abbrev cells : ℕ → List ℕ
cells n = replicate n 99

-- the case as the definitions have it
computed : Case → Case
computed (case s room number written hints) =
    let a = statement_filling s (cells room) in
    case s room (list_number a) (list_written a) (list_left a)

-- a list that the hints fill
abbrev sql : String → List ℕ → Case
sql s hints = case (bytes s) (length hints) 0 (length hints) hints

-- every hint is written
given : List Case
given =
    sql "CREATE TABLE t(id INTEGER PRIMARY KEY, plot INTEGER, depth REAL, note TEXT)" (0 ∷ 1 ∷ 2 ∷ [])
    ∷ sql "create table t(id integer primary key, plot int, at double)" (0 ∷ 1 ∷ [])
    ∷ sql "CREATE TABLE t(a BLOB, check_day TEXT, b TEXT)" (3 ∷ 2 ∷ [])
    ∷ sql "CREATE TABLE t(unchecked TEXT, a BLOB CHECK (a > 0))" (2 ∷ 3 ∷ [])
    ∷ sql "CREATE TABLE t(key_word TEXT, the_primary INTEGER)" (2 ∷ 0 ∷ [])
    ∷ sql "CREATE TABLE t(my_key INTEGER, PRIMARY_at REAL, b INTEGER NOT NULL REFERENCES keys (primary))" (0 ∷ [])
    ∷ sql "CREATE TABLE t(a TEXT, UNIQUE (a), FOREIGN KEY (a) REFERENCES u (b), CONSTRAINT c CHECK (a))" (2 ∷ [])
    ∷ sql "CREATE TABLE t(a VARCHAR(20), b CHAR(1), c NVARCHAR)" (2 ∷ 2 ∷ 2 ∷ [])
    ∷ sql "CREATE TABLE t(a DECIMAL(10,2), b BLOB)" (1 ∷ 5 ∷ 3 ∷ [])
    ∷ sql "CREATE TABLE t(a\tREAL\n,\r\u{b}b\u{c}BLOB )" (1 ∷ 3 ∷ [])
    ∷ sql "CREATE TABLE t(a, b DATE, c BOOLEAN, d BOOLEANS, e BINARY, f BINARY(4))" (5 ∷ 5 ∷ 0 ∷ 5 ∷ 3 ∷ 5 ∷ [])
    ∷ sql "t(a INT,, ,b TEXT) (c REAL)" (0 ∷ 2 ∷ [])
    ∷ []

-- refused, each with one cell lent
refused : List Case
refused =
    case [] 1 7 0 (cells 1)
    ∷ case (bytes ")(") 1 7 0 (cells 1)
    ∷ case (bytes "CREATE TABLE t") 1 7 0 (cells 1)
    ∷ case (bytes "CREATE TABLE t(a INT") 1 7 0 (cells 1)
    ∷ case (bytes "t()") 1 1 0 (cells 1)
    ∷ case (bytes "t(id INTEGER PRIMARY KEY)") 1 1 0 (cells 1)
    ∷ case (bytes "t(key INTEGER primary)") 1 1 0 (cells 1)
    ∷ []

-- a list that is too short, and one that is too long
roomed : List Case
roomed =
    case (bytes "t(a INT, b REAL)") 1 9 1 (0 ∷ [])
    ∷ case (bytes "t(a INT, b REAL)") 0 9 0 []
    ∷ case (bytes "t(a INT, b REAL)") 3 0 2 (0 ∷ 1 ∷ 99 ∷ [])
    ∷ []

-- n columns and one more, none with a type
several : ℕ → List ℕ
several zero = bytes "a)"
several (suc n) = bytes "a," ++ several n

-- the most hints, and one more
counted : List Case
counted =
    case (bytes "t(" ++ several 509) 510 0 510 (replicate 510 5)
    ∷ case (bytes "t(" ++ several 510) 511 1 0 (cells 511)
    ∷ []

cases : List Case
cases = given ++ refused ++ roomed ++ counted

table : map computed cases ≡ cases
unfolding cases given refused roomed counted several computed list_number list_written list_left statement_checks hints_of all_hints piece_hints is_skipped is_row_id hint_of between equals holds starts_with second_word first_word pieces before_last behind_first has trim drop_while take_while raise is_blank count_fits
table = refl
