-- Rows that are lent as groups of column entries over one slice: which entries a row has, how many are used, and whether it is bad.
-- Assumes nothing.
use Rattle.std.specs.Prelude.{ℕ, zero, suc, ◌+◌, ◌*◌, ◌/◌, max, Bool, true, false, cond, not, ◌&&◌, ◌||◌, List, [], ◌∷◌, ltb, length, drop}
use Rattle.std.specs.Prelude.{None, Some}
use Rattle.record.specs.Entry.{unused_state, read_entry}
use Rattle.record.specs.declared.entry.Entry.{Entry}
use Rattle.record.specs.Entry.{EntryRead}
use Rattle.sheet.specs.Limits.{words_per_entry}
use Rattle.sheet.specs.Sheet.{entries_in}

-- ---- where they stand

-- n rows one behind the other, each a group of `width` entries
unfoldable pub rows_in : ℕ → ℕ → List ℕ → List (List Entry)
rows_in zero width words = []
rows_in (suc n) width words = entries_in width words ∷ rows_in n width (drop (words_per_entry * width) words)

-- Rule 13.1: how many whole groups there are; a rest is not read
abbrev pub row_count : ℕ → List ℕ → ℕ
row_count width words = length words / (words_per_entry * width)

unfoldable pub rows_of : ℕ → List ℕ → List (List Entry)
rows_of width words = rows_in (row_count width words) width words

-- ---- how many columns they have

-- the states 0, 1 and 2 are used
abbrev pub is_used : Entry → Bool
is_used e = ltb e.state unused_state

-- a row has as many columns as used entries
unfoldable pub columns_of : List Entry → ℕ
columns_of [] = 0
columns_of (e ∷ es) = cond (is_used e) 1 0 + columns_of es

-- the columns of the longest row
unfoldable pub longest : List (List Entry) → ℕ
longest [] = 0
longest (r ∷ rs) = max (columns_of r) (longest rs)

-- ---- whether they are bad

-- Rule 3.3: an entry of the row is bad, so reading it over the slice s is refused
abbrev pub is_refused : EntryRead → Bool
is_refused (Some v) = false
is_refused None = true

unfoldable pub any_bad : List ℕ → List Entry → Bool
any_bad s [] = false
any_bad s (e ∷ es) = is_refused (read_entry e s) || any_bad s es

-- Rule 13.1: a used entry stands behind an unused one
unfoldable pub gapped : List Entry → Bool
gapped [] = false
gapped (e ∷ es) = (not (is_used e) && ltb 0 (columns_of es)) || gapped es

abbrev pub bad_row : List ℕ → List Entry → Bool
bad_row s es = any_bad s es || gapped es

unfoldable pub bad_rows : List ℕ → List (List Entry) → Bool
bad_rows s [] = false
bad_rows s (r ∷ rs) = bad_row s r || bad_rows s rs
