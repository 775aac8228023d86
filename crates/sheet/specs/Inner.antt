-- What code that carves carries between its own functions; nothing that a caller has to believe.
-- Assumes nothing.
use Rattle.std.specs.Prelude.{ℕ, ◌+◌, ◌-◌, ◌*◌, ◌≡◌, Bool, cond, List, leb, min, length, take, Option, Some, None, Ok}
use Rattle.std.proofs.lemmas.List.Edits.{sets}
use Rattle.sheet.specs.Columns.{room_of}
use Rattle.sheet.specs.Filled.{filled_by}
use Rattle.sheet.specs.Hits.{Hit, rows_of, group_words, groups_words, RowOutcome}
use Rattle.sheet.specs.Limits.{words_per_row, words_per_entry}
use Rattle.sheet.specs.Row.{row_words}
use Rattle.sheet.specs.Sheet.{overlay, rows_words}
use Rattle.sheet.specs.declared.filled.Filled.{Filled}
use Rattle.sheet.specs.declared.filled.Filled.TheVariants.{Done, Full}
use Rattle.sheet.specs.declared.inner.Sheet.{Sheet}

-- ---- carving: behind n rows come hits, as many as there is room for

-- the words of those that are written
pub record Puts (width room n : ℕ) (hs : List Hit) (rows cols rows' cols' : List ℕ) : Type 0 where
  pub rows_are : rows' ≡ sets rows (n * words_per_row) (rows_words (rows_of (take (room - n) hs)))
  pub cols_are : cols' ≡ sets cols (n * (words_per_entry * width)) (groups_words width (take (room - n) hs))
  -- each group is as wide as it should be
  pub wide : length (groups_words width (take (room - n) hs)) ≡ length (take (room - n) hs) * (words_per_entry * width)

-- what carving came to: so many rows; a row found no room; the stack overflowed, with so many rows
pub data Told : Type 0 where
  on : ℕ → Told
  over : Told
  overflow : ℕ → Told

-- where k hits come, and the stack overflowed behind them or not
abbrev pub carved_to : ℕ → ℕ → ℕ → Bool → Told
carved_to room n k stopped = cond (leb (n + k) room) (cond stopped (overflow (n + k)) (on (n + k))) over

pub record Carves (width room n : ℕ) (hs : List Hit) (stopped : Bool) (rows cols : List ℕ) (r : Told) (rows' cols' : List ℕ) : Type 0 where
  pub answer : r ≡ carved_to room n (length hs) stopped
  pub puts : Puts width room n hs rows cols rows' cols'

-- ---- the same of a sheet

-- on which no row stands yet
pub record Empty (rows cols : List ℕ) (width : ℕ) (s : Sheet) : Type 0 where
  pub rows_are : s.rows.now ≡ rows
  pub cols_are : s.cols.now ≡ cols
  pub width_is : s.width ≡ width
  pub room_is : s.room ≡ room_of (length rows) (length cols) width
  pub n_is : s.n ≡ 0

-- what adding rows came to: all have found room, or not
abbrev pub told_by : {A : Type 0} → Option A → Sheet → Told
told_by (Some x) s = on s.n
told_by None s = over

-- behind its rows stands one more: it is over the same lists, and as wide
pub record PutsOne (h : Hit) (old new : Sheet) : Type 0 where
  pub rows_kept : new.rows.ghost_name ≡ old.rows.ghost_name
  pub cols_kept : new.cols.ghost_name ≡ old.cols.ghost_name
  pub width : new.width ≡ old.width
  pub room : new.room ≡ old.room
  pub n : new.n ≡ old.n + 1
  pub rows : new.rows.now ≡ sets old.rows.now (old.n * words_per_row) (row_words h.row)
  pub cols : new.cols.now ≡ sets old.cols.now (old.n * (words_per_entry * old.width)) (group_words old.width h)

-- behind its rows come hits: it is over the same lists, and as wide
pub record Adds (hs : List Hit) (stopped : Bool) (old : Sheet) (r : Told) (new : Sheet) : Type 0 where
  pub rows_kept : new.rows.ghost_name ≡ old.rows.ghost_name
  pub cols_kept : new.cols.ghost_name ≡ old.cols.ghost_name
  pub width : new.width ≡ old.width
  pub room : new.room ≡ old.room
  -- so many stand on it then, whatever it came to
  pub n : new.n ≡ min old.room (old.n + length hs)
  pub carves : Carves old.width old.room old.n hs stopped old.rows.now old.cols.now r new.rows.now new.cols.now

-- ---- a call whose checks have passed
abbrev pub filled_to : Sheet → Option Unit → Filled
filled_to s (Some u) = Done s.n
filled_to s None = Full s.room

-- what it leaves
pub record FilledIs (hits : List Hit) (width : ℕ) (rows cols : List ℕ) (x : RowOutcome) : Type 0 where
  pub answer : x.answer ≡ Ok (filled_by (length hits) (room_of (length rows) (length cols) width))
  pub rows_are : x.rows ≡ overlay (rows_words (rows_of (take (room_of (length rows) (length cols) width) hits))) rows
  pub cols_are : x.cols ≡ overlay (groups_words width (take (room_of (length rows) (length cols) width) hits)) cols
