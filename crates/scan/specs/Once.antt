-- One attempt as a call (rule 4.12).
-- Assumes nothing.
use Rattle.std.specs.Prelude.{ℕ, List, [], ◌∷◌, length}
use Rattle.attempt.specs.Attempt.{Found, Tried, miss, hit, attempt_at}
use Rattle.attempt.specs.Values.{row_values}
use Rattle.record.specs.declared.record.Value.{Value}
use Rattle.scan.specs.Scan.{row_of, scan_checked}
use Rattle.sheet.specs.Hits.{Hit, RowFilling}
use Rattle.sheet.specs.Values.{written_values}

-- a row of the scan, with its columns
abbrev pub scan_hit : ℕ → ℕ → ℕ → Found → Hit
scan_hit base columns o x = record { row = row_of base columns o x; columns = x.columns }

-- Rule 4.12: one attempt is the first step of a scan, and no more: the row that it finds, or none. Where a scan tries the offset, the law
-- is `first_step`.
abbrev pub tried_hits : ℕ → ℕ → ℕ → Tried → List Hit
tried_hits base columns o miss = []
tried_hits base columns o (hit x) = scan_hit base columns o x ∷ []

unfoldable pub once_hits : List ℕ → List ℕ → ℕ → ℕ → List Hit
once_hits s hints base o = tried_hits base (length hints) o (attempt_at s hints o)

-- what the answer of such a call rests on: it has the scan's checks
abbrev pub once_filling : List ℕ → List ℕ → ℕ → ℕ → List ℕ → List ℕ → RowFilling
once_filling s hints base o rows cols =
    record { checked = scan_checked s hints base; hits = once_hits s hints base o; width = length hints; rows = rows; cols = cols }

-- Rule 4.13: the values of the row that is found, and of the one that is written
abbrev pub tried_values : List ℕ → ℕ → Tried → List (List Value)
tried_values s o miss = []
tried_values s o (hit x) = row_values s o ∷ []

unfoldable pub once_values : List ℕ → List ℕ → ℕ → ℕ → List ℕ → List ℕ → List Value
once_values s hints base o rows cols = written_values (once_filling s hints base o rows cols) (tried_values s o (attempt_at s hints o))
