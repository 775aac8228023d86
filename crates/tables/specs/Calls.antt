-- The calls that carve the leaves of tables, by the way in which one page is carved (rules 9.14, 10.5 and 11.8).
-- Assumes nothing.
use Rattle.std.specs.Prelude.{ℕ, ◌≡◌, Bool, List, ◌∷◌, length, Result}
use Rattle.carving.specs.Calls.{too_wide, leaf_hits}
use Rattle.carving.specs.declared.inner.Carving.{Carving}
use Rattle.page.specs.Page.{whole_pages}
use Rattle.sheet.specs.Columns.{room_of}
use Rattle.sheet.specs.Hits.{Hit, RowFilling, rows_left, entries_left}
use Rattle.sheet.specs.Refusal.{Check, first_held}
use Rattle.sheet.specs.Refusal.{Checked}
use Rattle.sheet.specs.declared.refusal.Refusal.{Refusal}
use Rattle.walk.specs.Carve.{Carver, widest, table_checks, tables_hits, tables_overflow}
use Rattle.walk.specs.Collect.{Walking, walking_answer, walking_number, walking_written, walking_things, walking_cleared}
use Rattle.walk.specs.Collect.{walked_number, walked_written}
use Rattle.walk.specs.declared.walk.Walked.{Walked}

-- what a call is asked: how to carve, a database and its page size, tables as their roots, their counts of columns and all their hints,
-- and the lists that it is lent
pub record Asked : Type 0 where
  pub how : Carving
  pub db : List ℕ
  pub size : ℕ
  pub roots : List ℕ
  pub counts : List ℕ
  pub hints : List ℕ
  pub flags : List ℕ
  pub stack : List ℕ
  pub rows : List ℕ
  pub cols : List ℕ

abbrev pub asked : Carving → List ℕ → ℕ → List ℕ → List ℕ → List ℕ → List ℕ → List ℕ → List ℕ → List ℕ → Asked
asked how db size roots counts hints flags stack rows cols =
    record {
      how = how;
      db = db;
      size = size;
      roots = roots;
      counts = counts;
      hints = hints;
      flags = flags;
      stack = stack;
      rows = rows;
      cols = cols;
    }

-- in a database of `len` bytes: any table that is too wide refuses all
abbrev pub table_checks_by : Carving → ℕ → ℕ → List ℕ → List ℕ → List ℕ → List Check
table_checks_by how len size roots counts hints = too_wide how (widest counts) ∷ table_checks len size roots counts hints

abbrev pub tabled_checked : Asked → Checked
tabled_checked a = first_held (table_checks_by a.how (length a.db) a.size a.roots a.counts a.hints)

-- what stands on a leaf, by the index and the hints of its table
abbrev pub tabled_carver : Asked → Carver Hit
tabled_carver a = leaf_hits a.how a.db a.size

-- all rows along the walks, and whether the stack overflowed
abbrev pub tabled_hits : Asked → List Hit
tabled_hits a = tables_hits (tabled_carver a) a.db a.size a.roots a.counts a.hints (length a.stack)

abbrev pub tabled_overflow : Asked → Bool
tabled_overflow a = tables_overflow a.db a.size a.roots a.counts a.hints (length a.stack)

-- Rule 9.14: the answer rests on that, as of any call over walks; a group has as many entries as the widest table has columns
abbrev pub tabled_walking : Asked → Walking
tabled_walking a =
    record {
      checked = tabled_checked a;
      pages = whole_pages (length a.db) a.size;
      flags = length a.flags;
      things = length (tabled_hits a);
      overflow = tabled_overflow a;
      room = room_of (length a.rows) (length a.cols) (widest a.counts);
    }

unfoldable pub tabled_answer : Asked → Result Walked Refusal
tabled_answer a = walking_answer (tabled_walking a)

unfoldable pub tabled_number : Asked → ℕ
tabled_number a = walking_number (tabled_walking a)

unfoldable pub tabled_written : Asked → ℕ
tabled_written a = walking_written (tabled_walking a)

-- the lists are left as by any call that fills two with rows and entries
abbrev pub tabled_filling : Asked → RowFilling
tabled_filling a =
    record {
      checked = tabled_checked a;
      hits = walking_things (tabled_walking a) (tabled_hits a);
      width = widest a.counts;
      rows = a.rows;
      cols = a.cols;
    }

unfoldable pub tabled_rows : Asked → List ℕ
tabled_rows a = rows_left (tabled_filling a)

unfoldable pub tabled_cols : Asked → List ℕ
tabled_cols a = entries_left (tabled_filling a)

-- Rule 9.11: flags and stack, each as it was or cleared
unfoldable pub tabled_cleared : Asked → List ℕ → List ℕ
tabled_cleared a old = walking_cleared (tabled_walking a) old

-- what a call leaves: its answer, and what the lists hold at exit
pub record OnTables : Type 0 where
  pub answer : Result Walked Refusal
  pub flags : List ℕ
  pub stack : List ℕ
  pub rows : List ℕ
  pub cols : List ℕ

abbrev pub on_tables : Result Walked Refusal → List ℕ → List ℕ → List ℕ → List ℕ → OnTables
on_tables r flags stack rows cols = record { answer = r; flags = flags; stack = stack; rows = rows; cols = cols }

-- what it promises
pub record TablesPromises (a : Asked) (x : OnTables) : Type 0 where
  pub answer : x.answer ≡ tabled_answer a
  pub number : walked_number x.answer ≡ tabled_number a
  pub written : walked_written x.answer ≡ tabled_written a
  pub rows : x.rows ≡ tabled_rows a
  pub entries : x.cols ≡ tabled_cols a
  pub flags : x.flags ≡ tabled_cleared a a.flags
  pub stack : x.stack ≡ tabled_cleared a a.stack
