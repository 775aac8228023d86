-- What the code carries between its own functions; nothing that a caller has to believe.
-- Assumes nothing.
use Rattle.std.specs.Prelude.{ℕ, ◌≤◌, ◌≡◌, List, take, Result, Ok, Err}
use Rattle.carving.specs.Calls.{width_by, leaf_hits}
use Rattle.carving.specs.declared.inner.Carving.{Carving}
use Rattle.hit.specs.Inner.{Space}
use Rattle.sheet.specs.Hits.{rows_of, groups_words, row_room}
use Rattle.sheet.specs.Inner.{Told, on, over, overflow, Adds}
use Rattle.sheet.specs.Limits.{most_columns, largest_region}
use Rattle.sheet.specs.Sheet.{overlay, rows_words}
use Rattle.sheet.specs.declared.inner.Sheet.{Sheet}
use Rattle.tables.specs.Calls.{Asked, tabled_hits, tabled_overflow, tabled_walking, tabled_filling}
use Rattle.tables.specs.declared.tables.Stopped.{Stopped}
use Rattle.tables.specs.declared.tables.Stopped.TheVariants.{Full as NoMore, Overflow}
use Rattle.walk.specs.Carve.{widest}
use Rattle.walk.specs.Collect.{walked_of}
use Rattle.walk.specs.Walk.{Walk, walk, hits_of, overflows}
use Rattle.walk.specs.declared.walk.Walked.{Walked}
use Rattle.walk.specs.declared.walk.Walked.TheVariants.{Done, Full, Short}

-- ---- what carving came to, with what the sheet is then
abbrev pub told_of : Result Unit Stopped → Sheet → Told
told_of (Ok u) s = on s.n
told_of (Err NoMore) s = over
told_of (Err Overflow) s = overflow s.n

-- the answer of a call that had room for so many rows
abbrev pub walked_as : ℕ → Told → Walked
walked_as most (on n) = Done n
walked_as most over = Full most
walked_as most (overflow n) = Short n

-- ---- one table

-- a database of so many bytes, and a table of it with so many columns, which is carved in some way
pub record TableReady (how : Carving) (len size columns : ℕ) (s : Sheet) : Type 0 where
  pub low : 512 ≤ size
  pub high : size ≤ 65536
  pub small : len ≤ largest_region
  pub some : 1 ≤ columns
  pub few : columns ≤ most_columns
  pub narrow : columns ≤ width_by how
  pub space : Space columns s

-- what carving one table is asked: which of the tables it is, with its root and its hints, and how deep the stack is
pub record TableAsked : Type 0 where
  pub how : Carving
  pub db : List ℕ
  pub size : ℕ
  pub root : ℕ
  pub hints : List ℕ
  pub table : ℕ
  pub depth : ℕ

abbrev pub table_asked : Carving → List ℕ → ℕ → ℕ → List ℕ → ℕ → ℕ → TableAsked
table_asked how db size root hints table depth =
    record { how = how; db = db; size = size; root = root; hints = hints; table = table; depth = depth }

abbrev pub walk_asked : TableAsked → Walk
walk_asked a = walk a.db a.size a.depth a.root

-- what it leaves behind the rows of a sheet: those of the leaves along its walk
abbrev pub TableCarved : TableAsked → Sheet → Told → Sheet → Type 0
TableCarved a old r new = Adds (hits_of (leaf_hits a.how a.db a.size a.table a.hints) (walk_asked a)) (overflows (walk_asked a)) old r new

-- ---- all tables

-- what carving them leaves: the rows along their walks
abbrev pub AllCarved : Asked → Sheet → Told → Sheet → Type 0
AllCarved a old r new = Adds (tabled_hits a) (tabled_overflow a) old r new

-- what a call leaves behind its checks
pub record TablesCarved (a : Asked) (r : Walked) (rows cols : List ℕ) : Type 0 where
  pub answer : r ≡ walked_of (tabled_walking a)
  pub rows_are : rows ≡ overlay (rows_words (rows_of (take (row_room (tabled_filling a)) (tabled_filling a).hits))) a.rows
  pub cols_are : cols ≡ overlay (groups_words (widest a.counts) (take (row_room (tabled_filling a)) (tabled_filling a).hits)) a.cols
