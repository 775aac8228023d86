-- What judging a row, or several, comes to: bad, or with so many columns.
-- Assumes nothing.
use Rattle.std.specs.Prelude.{ℕ, ◌+◌, max, cond, List, [], ◌∷◌, eqb, Option, Some, None}
use Rattle.record.specs.Entry.{read_entry}
use Rattle.record.specs.declared.entry.Entry.{Entry}
use Rattle.groups.specs.Rows.{is_used, columns_of, longest, is_refused, bad_row, bad_rows}

-- so many columns, or none where an entry is bad
abbrev pub Judged : Type 0
Judged = Option ℕ

abbrev pub judged_row : List ℕ → List Entry → Judged
judged_row s es = cond (bad_row s es) None (Some (columns_of es))

-- of several the columns of the longest
abbrev pub judged_rows : List ℕ → List (List Entry) → Judged
judged_rows s rows = cond (bad_rows s rows) None (Some (longest rows))

-- ---- what the code carries between its own functions

-- the entry at index i, behind n used ones
abbrev pub judged_entry : List ℕ → Entry → ℕ → ℕ → Judged
judged_entry s e i n = cond (is_refused (read_entry e s)) None (cond (is_used e) (cond (eqb n i) (Some (i + 1)) None) (Some n))

abbrev pub judged_then : Judged → (ℕ → Judged) → Judged
judged_then (Some n) f = f n
judged_then None f = None

-- the entries from index i on, behind n used ones
unfoldable pub judged_from : List ℕ → List Entry → ℕ → ℕ → Judged
judged_from s [] i n = Some n
judged_from s (e ∷ es) i n = judged_then (judged_entry s e i n) (λ m. judged_from s es (i + 1) m)

-- rows behind some of which the longest has n columns
abbrev pub judged_behind : List ℕ → List (List Entry) → ℕ → Judged
judged_behind s rows n = cond (bad_rows s rows) None (Some (max n (longest rows)))
