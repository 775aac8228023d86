-- Worked statements, as two tables that are computed at once.
-- Assumes nothing.
use Prim.Native.Nat.{ℕ, zero, suc}
use Prim.Native.String.{String}
use mathlib.Core.Path.{◌≡◌, refl}
use mathlib.Core.List.{List, [], ◌∷◌, ◌++◌, map}
use lib.ListN.{replicate}
use Rattle.column.specs.Column.{hint_of, is_row_id, name_of, is_keyed, is_dropped, column_hint, piece_hints}
use Rattle.column.specs.declared.piece.Reading.{Reading}
use Rattle.column.specs.declared.piece.Reading.TheVariants.{AsRust, ByFormat}
use Rattle.readings.specs.Statement.{between, all_hints, hints_of, statement_checks, statement_filling}
use Rattle.words.specs.Runs.{is_blank, take_while, drop_while, has, before_first, behind_first, before_last}
use Rattle.words.specs.Words.{bytes, raise, trim, pieces, first_word, second_word, behind_word, word_behind, starts_with, equals, holds}
use Rattle.sheet.specs.Filled.{list_number, list_written, list_left}
use Rattle.sheet.specs.Limits.{count_fits}

-- ---- hints: a statement, its hints as the Rust, and its hints by the format
data Read : Type 0 where
  read : String → List ℕ → List ℕ → Read

-- as the definitions have it
hinted : Read → Read
hinted (read s rust format) = read s (hints_of AsRust (bytes s)) (hints_of ByFormat (bytes s))

-- the key's column: where it stands, and what its words are
keys : List Read
keys =
    read "CREATE TABLE t(id INTEGER PRIMARY KEY, plot INTEGER, depth REAL, note TEXT)" (0 ∷ 1 ∷ 2 ∷ []) (4 ∷ 0 ∷ 1 ∷ 2 ∷ [])
    ∷ read "CREATE TABLE t(plot INTEGER, id INTEGER PRIMARY KEY, note TEXT)" (0 ∷ 2 ∷ []) (0 ∷ 4 ∷ 2 ∷ [])
    ∷ read "CREATE TABLE t(plot INTEGER, note TEXT, id INTEGER PRIMARY KEY)" (0 ∷ 2 ∷ []) (0 ∷ 2 ∷ 4 ∷ [])
    ∷ read "create table t(id integer primary key, plot int, at double)" (0 ∷ 1 ∷ []) (4 ∷ 0 ∷ 1 ∷ [])
    ∷ read "t(id\tINTEGER\n PRIMARY  KEY\r)" [] (4 ∷ [])
    ∷ read "t(id INTEGER PRIMARY KEY DESC, a TEXT)" (2 ∷ []) (0 ∷ 2 ∷ [])
    ∷ read "t(id integer primary key desc)" [] (0 ∷ [])
    ∷ read "t(id INTEGER PRIMARY KEY DESCENDING)" [] (4 ∷ [])
    ∷ read "t(id INTEGER PRIMARY KEY ON CONFLICT FAIL DESC)" [] (4 ∷ [])
    ∷ read "t(id INTEGER PRIMARY KEY ASC, a TEXT)" (2 ∷ []) (4 ∷ 2 ∷ [])
    ∷ read "t(id INTEGER PRIMARY KEY AUTOINCREMENT, a TEXT)" (2 ∷ []) (4 ∷ 2 ∷ [])
    ∷ read "t(id INT PRIMARY KEY)" (0 ∷ []) (0 ∷ [])
    ∷ read "t(id INTEGERS PRIMARY KEY)" [] (0 ∷ [])
    ∷ read "t(id INTEGER(8) PRIMARY KEY)" [] (0 ∷ [])
    ∷ read "t(id BIGINTEGER PRIMARY KEY)" [] (5 ∷ [])
    ∷ read "t(id INTEGER NOT NULL PRIMARY KEY)" [] (0 ∷ [])
    ∷ read "t(id INTEGER PRIMARY KEYS)" [] (0 ∷ [])
    ∷ read "t(id INTEGER THE PRIMARY KEY)" [] (0 ∷ [])
    ∷ read "t(INTEGER PRIMARY KEY)" [] (5 ∷ [])
    ∷ read "t(b INTEGER REFERENCES primary_keys (c), a TEXT)" (2 ∷ []) (0 ∷ 2 ∷ [])
    ∷ []

-- names of columns, and constraints of the table
names : List Read
names =
    read "CREATE TABLE t(a BLOB, check_day TEXT, b TEXT)" (3 ∷ 2 ∷ []) (3 ∷ 2 ∷ 2 ∷ [])
    ∷ read "t(primary_mail TEXT, unique1 INT, foreign_ REAL, constraints BLOB)" [] (2 ∷ 0 ∷ 1 ∷ 3 ∷ [])
    ∷ read "t(KEY INTEGER, a TEXT)" (0 ∷ 2 ∷ []) (0 ∷ 2 ∷ [])
    ∷ read "t(KEY INTEGER PRIMARY KEY, a TEXT)" (2 ∷ []) (4 ∷ 2 ∷ [])
    ∷ read "t(PRIMARY INTEGER, a TEXT)" (2 ∷ []) (2 ∷ [])
    ∷ read "t(\"PRIMARY\" INTEGER, a TEXT)" (0 ∷ 2 ∷ []) (0 ∷ 2 ∷ [])
    ∷ read "t(a INT, b INT, PRIMARY KEY(a,b))" (0 ∷ 0 ∷ 5 ∷ []) (0 ∷ 0 ∷ 5 ∷ [])
    ∷ read "t(a INTEGER, PRIMARY KEY(a))" (0 ∷ []) (0 ∷ [])
    ∷ read "t(a TEXT, CHECK(a))" (2 ∷ []) (2 ∷ [])
    ∷ read "t(a TEXT, CHECK (a))" (2 ∷ []) (2 ∷ [])
    ∷ read "t(a TEXT, check)a)" (2 ∷ []) (2 ∷ [])
    ∷ read "t(a TEXT, CHECK[a])" (2 ∷ []) (2 ∷ 5 ∷ [])
    ∷ read "t(a TEXT, (CHECK a))" (2 ∷ 5 ∷ []) (2 ∷ 5 ∷ [])
    ∷ read "CREATE TABLE t(a TEXT, UNIQUE (a), FOREIGN KEY (a) REFERENCES u (b), CONSTRAINT c CHECK (a))" (2 ∷ []) (2 ∷ [])
    ∷ read "CREATE TABLE t(unchecked TEXT, a BLOB CHECK (a > 0))" (2 ∷ 3 ∷ []) (2 ∷ 3 ∷ [])
    ∷ read "CREATE TABLE t(key_word TEXT, the_primary INTEGER)" (2 ∷ 0 ∷ []) (2 ∷ 0 ∷ [])
    ∷ read "CREATE TABLE t(my_key INTEGER, PRIMARY_at REAL, b INTEGER NOT NULL REFERENCES keys (primary))" (0 ∷ []) (0 ∷ 1 ∷ 0 ∷ [])
    ∷ []

-- pieces and types, which both readings read alike
types : List Read
types =
    read "CREATE TABLE t(a VARCHAR(20), b CHAR(1), c NVARCHAR)" (2 ∷ 2 ∷ 2 ∷ []) (2 ∷ 2 ∷ 2 ∷ [])
    ∷ read "CREATE TABLE t(a DECIMAL(10,2), b BLOB)" (1 ∷ 5 ∷ 3 ∷ []) (1 ∷ 5 ∷ 3 ∷ [])
    ∷ read "CREATE TABLE t(a\tREAL\n,\r\u{b}b\u{c}BLOB )" (1 ∷ 3 ∷ []) (1 ∷ 3 ∷ [])
    ∷ read "CREATE TABLE t(a, b DATE, c BOOLEAN, d BOOLEANS, e BINARY, f BINARY(4))"
    (5 ∷ 5 ∷ 0 ∷ 5 ∷ 3 ∷ 5 ∷ []) (5 ∷ 5 ∷ 0 ∷ 5 ∷ 3 ∷ 5 ∷ [])
    ∷ read "t(a INT,, ,b TEXT) (c REAL)" (0 ∷ 2 ∷ []) (0 ∷ 2 ∷ [])
    ∷ []

reads : List Read
reads = keys ++ names ++ types

hints_table : map hinted reads ≡ reads
unfolding reads keys names types hinted hints_of all_hints piece_hints column_hint is_dropped is_keyed is_row_id name_of hint_of between equals holds starts_with second_word word_behind behind_word first_word pieces before_last behind_first before_first has trim drop_while take_while raise is_blank
hints_table = refl

-- ---- answers: a reading, a statement and how many cells are lent, with the answer's number, how many hints are written, and the cells
data Case : Type 0 where
  case : Reading → List ℕ → ℕ → ℕ → ℕ → List ℕ → Case

-- what the lent cells hold before
abbrev cells : ℕ → List ℕ
cells n = replicate n 99

-- as the definitions have it
computed : Case → Case
computed (case reading s room number written left) =
    let a = statement_filling reading s (cells room) in
    case reading s room (list_number a) (list_written a) (list_left a)

-- n columns and one more, none with a type
several : ℕ → List ℕ
several zero = bytes "a)"
several (suc n) = bytes "a," ++ several n

-- refused in either reading, each with one cell lent; a list that is too short, one that is too long, the most hints, and one more
either : Reading → List Case
either reading =
    case reading [] 1 7 0 (cells 1)
    ∷ case reading (bytes ")(") 1 7 0 (cells 1)
    ∷ case reading (bytes "CREATE TABLE t") 1 7 0 (cells 1)
    ∷ case reading (bytes "CREATE TABLE t(a INT") 1 7 0 (cells 1)
    ∷ case reading (bytes "t()") 1 1 0 (cells 1)
    ∷ case reading (bytes "t(PRIMARY KEY (a))") 1 1 0 (cells 1)
    ∷ case reading (bytes "t(a INT, b REAL)") 1 9 1 (0 ∷ [])
    ∷ case reading (bytes "t(a INT, b REAL)") 0 9 0 []
    ∷ case reading (bytes "t(a INT, b REAL)") 3 0 2 (0 ∷ 1 ∷ 99 ∷ [])
    ∷ case reading (bytes "t(" ++ several 509) 510 0 510 (replicate 510 5)
    ∷ case reading (bytes "t(" ++ several 510) 511 1 0 (cells 511)
    ∷ []

-- a key alone, and a column that the Rust takes for one
alone : List Case
alone =
    case AsRust (bytes "t(id INTEGER PRIMARY KEY)") 1 1 0 (cells 1)
    ∷ case ByFormat (bytes "t(id INTEGER PRIMARY KEY)") 1 0 1 (4 ∷ [])
    ∷ case AsRust (bytes "t(key INTEGER primary)") 1 1 0 (cells 1)
    ∷ case ByFormat (bytes "t(key INTEGER primary)") 1 0 1 (0 ∷ [])
    ∷ []

cases : List Case
cases = alone ++ either AsRust ++ either ByFormat

answers_table : map computed cases ≡ cases
unfolding cases alone either several computed list_number list_written list_left statement_checks hints_of all_hints piece_hints column_hint is_dropped is_keyed is_row_id name_of hint_of between equals holds starts_with second_word word_behind behind_word first_word pieces before_last behind_first before_first has trim drop_while take_while raise is_blank count_fits
answers_table = refl
