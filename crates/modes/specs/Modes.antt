-- The three modes, and the call that tries them (rules 12.4 to 12.8).
-- Assumes nothing.
use Rattle.std.specs.Prelude.{ℕ, zero, suc, ◌+◌, ◌-◌, Bool, cond, ◌&&◌, List, [], ◌∷◌, ◌++◌, leb, length, None, Some}
use Rattle.std.specs.Float.{binary32}
use Rattle.std.specs.Float.Ieee.{of_bits}
use Rattle.modes.specs.Found.{Types, cut, read, types_from, Found, Tried, miss, hit, end_of, found_hits}
use Rattle.modes.specs.declared.inner.Style.{Style}
use Rattle.record.specs.Places.{types_padded, header_padded}
use Rattle.record.specs.Varint.{varint_at}
use Rattle.record.specs.Varint.{Varint}
use Rattle.sheet.specs.Hits.{RowFilling}
use Rattle.sheet.specs.Refusal.{first_held}
use Rattle.sheet.specs.Slice.{counted_checks}
use Rattle.sheet.specs.declared.row.Mode.TheVariants.{Normal, ColumnsOnly, FirstColMissing}
use Rattle.sheet.specs.declared.row.Source.TheVariants.{Freelist}

-- ---- Rule 12.4: what each mode says of its rows; the confidences are the f32 nearest to 0.8, 0.5 and 0.3
abbrev pub normal : Style
normal = record { source = Freelist; confidence = of_bits binary32 0x3f4ccccd; mode = Normal; lost = 0 }

abbrev pub columns_only : Style
columns_only = record { source = Freelist; confidence = of_bits binary32 0x3f000000; mode = ColumnsOnly; lost = 0 }

-- its first column is lost
abbrev pub first_col_missing : Style
first_col_missing = record { source = Freelist; confidence = of_bits binary32 0x3e99999a; mode = FirstColMissing; lost = 1 }

-- ---- one row

-- a row has one type at the least; p is its header's mark, which decides nothing
abbrev pub row_of : Style → ℕ → ℕ → Bool → List ℕ → Tried
row_of style o start p [] = miss
row_of style o start p (t ∷ ts) = hit (record { style = style; at = o; start = start; types = t ∷ ts; padded = p })

-- Rule 12.5: a header's length h, read at o in `own` bytes, is no less than those and no more than the bytes from o
abbrev pub length_fits : ℕ → ℕ → ℕ → ℕ → Bool
length_fits len o own h = leb own h && leb h (len - o)

-- Rule 12.5, Normal: the header's length leads, its types stand behind that, and the bodies start at the header's end
abbrev pub headed_row : ℕ → ℕ → Bool → Types → Tried
headed_row o h p cut = miss
headed_row o h p (read ts end) = row_of normal o (o + h) p ts

abbrev pub normal_with : List ℕ → ℕ → ℕ → Varint → Tried
normal_with s columns o (Some (h, c)) =
    cond (length_fits (length s) o (c.at - o) h)
    (headed_row o h (header_padded columns s c (o + h)) (types_from columns s c.at (o + h)))
    miss
normal_with s columns o None = miss

unfoldable pub normal_at : List ℕ → ℕ → ℕ → Tried
normal_at s columns o = normal_with s columns o (varint_at s o)

-- Rule 12.6, the other two: types stand from a place on, and the bodies start where the last of them ends; the row is at the slice's start
abbrev pub headless_row : Style → Bool → Types → Tried
headless_row style p cut = miss
headless_row style p (read ts end) = row_of style 0 end p ts

unfoldable pub headless_in : Style → List ℕ → ℕ → ℕ → Tried
headless_in style s from most = headless_row style (types_padded most s from (length s)) (types_from most s from (length s))

-- Rule 12.6, ColumnsOnly: from the first byte on
abbrev pub columns_only_in : List ℕ → ℕ → Tried
columns_only_in s columns = headless_in columns_only s 0 columns

-- Rule 12.6, FirstColMissing: behind four bytes, without the first column; there are five bytes and two columns at the least
unfoldable pub first_col_missing_in : List ℕ → ℕ → Tried
first_col_missing_in s columns = cond (leb 5 (length s) && leb 2 columns) (headless_in first_col_missing s 4 (columns - 1)) miss

-- ---- a slice

abbrev pub listed : Tried → List Found
listed miss = []
listed (hit x) = x ∷ []

abbrev pub while_found : (Found → List Found) → Tried → List Found
while_found rest miss = []
while_found rest (hit x) = x ∷ rest x

-- Rule 12.7: Normal is tried while three bytes remain, each row where the one before ended, up to the first failure. The first argument
-- bounds the rows.
unfoldable pub normal_from : ℕ → List ℕ → ℕ → ℕ → List Found
normal_from zero s columns o = []
normal_from (suc f) s columns o =
    cond (leb (o + 3) (length s)) (while_found (λ x. normal_from f s columns (end_of (length s) x)) (normal_at s columns o)) []

-- A row takes bytes, so the slice's length bounds them, and no larger bound gives others (`proofs/Fuel.antt`).
unfoldable pub normal_found : List ℕ → ℕ → List Found
normal_found s columns = normal_from (length s) s columns 0

unfoldable pub headless_found : List ℕ → ℕ → List Found
headless_found s columns = listed (columns_only_in s columns) ++ listed (first_col_missing_in s columns)

abbrev pub or_else : List Found → List Found → List Found
or_else [] others = others
or_else (x ∷ xs) others = x ∷ xs

-- Rule 12.7: the other two come, in this order, only where Normal found none
unfoldable pub modes_found : List ℕ → ℕ → List Found
modes_found s columns = or_else (normal_found s columns) (headless_found s columns)

-- ---- Rule 12.8: the call, on a slice whose first byte has the offset `base`, with what the lists hold; a group is as wide as there are
-- columns
abbrev pub modes_filling : List ℕ → ℕ → ℕ → List ℕ → List ℕ → RowFilling
modes_filling s base columns rows cols =
    record {
      checked = first_held (counted_checks (length s) columns base);
      hits = found_hits (length s) base (modes_found s columns);
      width = columns;
      rows = rows;
      cols = cols;
    }
