-- What lent lists hold after a call.
-- Assumes nothing.
use Rattle.std.specs.Prelude.{ℕ, zero, suc, ◌+◌, ◌≤◌, List, [], ◌∷◌, ◌++◌, length, get_or, drop}
use Rattle.record.specs.declared.entry.Entry.{Entry}
use Rattle.sheet.specs.Columns.{column_words}
use Rattle.sheet.specs.Limits.{words_per_entry}
use Rattle.sheet.specs.Row.{row_words}
use Rattle.sheet.specs.declared.columns.Column.{Column}
use Rattle.sheet.specs.declared.row.Row.{Row}

-- Rule 1.2: written words over what a list held: the cells behind them keep what they held
abbrev pub overlay : {A : Type 0} → List A → List A → List A
overlay ws old = ws ++ drop (length ws) old

-- Rule 5.2: rows one after the other
abbrev pub rows_words : List Row → List ℕ
rows_words [] = []
rows_words (r ∷ rs) = row_words r ++ rows_words rs

-- and the entries of a row's columns
abbrev pub columns_words : List Column → List ℕ
columns_words [] = []
columns_words (c ∷ cs) = column_words c ++ columns_words cs

-- read back: the first n entries of a list of words
abbrev pub entry_in : List ℕ → Entry
entry_in ws = record { state = get_or ws 0 0; kind = get_or ws 1 0; start = get_or ws 2 0; len = get_or ws 3 0 }

abbrev pub entries_in : ℕ → List ℕ → List Entry
entries_in zero ws = []
entries_in (suc n) ws = entry_in ws ∷ entries_in n (drop words_per_entry ws)

-- entries of which each lies in a slice of so many bytes
abbrev pub AllWithin : ℕ → List Entry → Type 0
AllWithin len [] = Unit
AllWithin len (e ∷ es) = (e.start + e.len ≤ len) × AllWithin len es
