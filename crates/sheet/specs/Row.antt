-- The nine words of a row.
-- Assumes nothing.
use Rattle.std.specs.Prelude.{ℕ, Option, ◌+◌, ◌*◌, cond, List, [], ◌∷◌, None, Some}
use Rattle.std.specs.Float.{binary32}
use Rattle.std.specs.Float.Ieee.{to_bits}
use Rattle.sheet.specs.declared.row.Mode.{Mode}
use Rattle.sheet.specs.declared.row.Mode.TheVariants.{Plain, Normal, ColumnsOnly, FirstColMissing}
use Rattle.sheet.specs.declared.row.Row.{Row}
use Rattle.sheet.specs.declared.row.Source.{Source}
use Rattle.sheet.specs.declared.row.Source.TheVariants.{Scan, Freelist, CarvedIntraPage, CarvedUnalloc}

-- a row's id, where there is one: its bits
abbrev pub RowId : Type 0
RowId = Option ℕ

-- whether there is a row id: 0 or 1
abbrev pub presence : RowId → ℕ
presence None = 0
presence (Some bits) = 1

-- the row id's bits, 0 when it is absent
abbrev pub id_bits : RowId → ℕ
id_bits None = 0
id_bits (Some bits) = bits

-- the number of a source
abbrev pub source_code : Source → ℕ
source_code Scan = 0
source_code Freelist = 1
source_code (CarvedIntraPage percent) = 2
source_code (CarvedUnalloc percent) = 3

-- the percent that a source carries, 0 for the two that carry none
abbrev pub source_percent : Source → ℕ
source_percent Scan = 0
source_percent Freelist = 0
source_percent (CarvedIntraPage percent) = percent
source_percent (CarvedUnalloc percent) = percent

-- the number of a mode
abbrev pub mode_code : Mode → ℕ
mode_code Plain = 0
mode_code Normal = 1
mode_code ColumnsOnly = 2
mode_code FirstColMissing = 3

-- Rule 5.1: offset, bytes consumed, row id present, row id, source, percent, confidence bits, mode plus 4 times the table's index, and
-- whether a number of its header is padded: 1 or 0
unfoldable pub row_words : Row → List ℕ
row_words r =
    r.offset
    ∷ r.consumed
    ∷ presence r.id
    ∷ id_bits r.id
    ∷ source_code r.source
    ∷ source_percent r.source
    ∷ to_bits binary32 r.confidence
    ∷ (mode_code r.mode + 4 * r.table)
    ∷ cond r.padded 1 0
    ∷ []
