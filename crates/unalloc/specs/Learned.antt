-- Carving by learned types (rules 14.1 to 14.5): a type is known for each column, and a row is one where types match.
-- Assumes nothing.
use Rattle.std.specs.Prelude.{◌+◌, ◌-◌, ◌*◌, ◌/◌, ◌%◌, ◌&&◌, ◌||◌, [], ◌∷◌, None, Some}
use Rattle.std.specs.Prelude.{ℕ, zero, suc, Bool, true, false, cond, List, ltb, leb, eqb, length}
use Rattle.modes.specs.Found.{Types, cut, read, types_from, columns_from, Found, Tried, miss, hit, end_of, found_hits}
use Rattle.modes.specs.Modes.{length_fits}
use Rattle.modes.specs.declared.inner.Style.{Style}
use Rattle.record.specs.Places.{header_padded}
use Rattle.record.specs.Varint.{varint_at}
use Rattle.record.specs.Varint.{Varint}
use Rattle.sheet.specs.Confidence.{share}
use Rattle.sheet.specs.Hits.{RowFilling}
use Rattle.sheet.specs.Limits.{most_header}
use Rattle.sheet.specs.Refusal.{first_held}
use Rattle.sheet.specs.Slice.{counted_checks}
use Rattle.sheet.specs.declared.columns.Column.{Column}
use Rattle.sheet.specs.declared.columns.Column.TheVariants.{Body, Unfit, Lost, Unused}
use Rattle.sheet.specs.declared.row.Mode.TheVariants.{Plain}
use Rattle.sheet.specs.declared.row.Source.TheVariants.{CarvedUnalloc}

-- ---- Rule 14.1: classes of types, which NULL and a real are not of
unfoldable pub is_integer : ℕ → Bool
is_integer t = (leb 1 t && leb t 6) || (eqb t 8 || eqb t 9)

unfoldable pub is_text : ℕ → Bool
is_text t = leb 13 t && eqb (t % 2) 1

unfoldable pub is_blob : ℕ → Bool
is_blob t = leb 12 t && eqb (t % 2) 0

-- Rule 14.1: a type matches one that was learned if it is the same, or of the same class
unfoldable pub matches : ℕ → ℕ → Bool
matches t learned =
    eqb t learned || ((is_integer t && is_integer learned) || ((is_text t && is_text learned) || (is_blob t && is_blob learned)))

-- how many types match those learned for the columns that they stand at
abbrev pub matched : List ℕ → List ℕ → ℕ
matched ls [] = 0
matched [] (t ∷ ts) = 0
matched (l ∷ ls) (t ∷ ts) = cond (matches t l) 1 0 + matched ls ts

-- ---- Rule 14.2: what is said of a row of which so many types match
abbrev pub matched_percent : ℕ → ℕ → ℕ
matched_percent n columns = n * 100 / columns

abbrev pub learned_style : ℕ → ℕ → Style
learned_style n columns =
    record {
      source = CarvedUnalloc (matched_percent n columns);
      confidence = share (matched_percent n columns) 100;
      mode = Plain;
      lost = 0;
    }

-- ---- one attempt

-- Rule 14.3: a header's length h, read at o in `own` bytes, is no less than those, no more than the bytes from o, and no more than 512
abbrev pub header_fits : ℕ → ℕ → ℕ → ℕ → Bool
header_fits len o own h = leb h most_header && length_fits len o own h

-- Rule 14.3: every body fits
abbrev pub is_there : Column → Bool
is_there (Body t at n) = true
is_there (Unfit t) = false
is_there Lost = false
is_there Unused = false

abbrev pub all_there : List Column → Bool
all_there [] = true
all_there (c ∷ cs) = is_there c && all_there cs

-- Rule 14.3: of types in a header of h bytes at o, one matches, so there is one at the least, and every body fits; the bodies start at
-- the header's end, and p is its mark, which decides nothing
unfoldable pub judged : List ℕ → List ℕ → ℕ → ℕ → Bool → List ℕ → Tried
judged s ls o h p ts =
    cond (ltb 0 (matched ls ts) && all_there (columns_from (length s) (o + h) ts))
    (hit (record { style = learned_style (matched ls ts) (length ls); at = o; start = o + h; types = ts; padded = p }))
    miss

abbrev pub judged_types : List ℕ → List ℕ → ℕ → ℕ → Bool → Types → Tried
judged_types s ls o h p cut = miss
judged_types s ls o h p (read ts end) = judged s ls o h p ts

-- Rule 14.3: the types stand behind the header's length, up to the header's end, and no more are read than were learned
abbrev pub attempt_with : List ℕ → List ℕ → ℕ → Varint → Tried
attempt_with s ls o (Some (h, c)) =
    cond (header_fits (length s) o (c.at - o) h)
    (judged_types s ls o h (header_padded (length ls) s c (o + h)) (types_from (length ls) s c.at (o + h)))
    miss
attempt_with s ls o None = miss

unfoldable pub attempt_at : List ℕ → List ℕ → ℕ → Tried
attempt_at s ls o = attempt_with s ls o (varint_at s o)

-- ---- a region

-- where to go on: behind the row that was found, or by one byte
abbrev pub row_or_next_byte : (ℕ → List Found) → ℕ → ℕ → Tried → List Found
row_or_next_byte rest len o miss = rest (o + 1)
row_or_next_byte rest len o (hit x) = x ∷ rest (end_of len x)

-- Rule 14.4: a row is looked for as long as there is room for a header of one byte a type. The first argument bounds the attempts.
unfoldable pub rows_from : ℕ → List ℕ → List ℕ → ℕ → List Found
rows_from zero s ls o = []
rows_from (suc f) s ls o =
    cond (leb (o + (1 + length ls)) (length s)) (row_or_next_byte (λ next. rows_from f s ls next) (length s) o (attempt_at s ls o)) []

-- Each attempt goes on, so the region's length bounds them, and no larger bound gives other rows (`proofs/Fuel.antt`).
unfoldable pub rows_found : List ℕ → List ℕ → List Found
rows_found s ls = rows_from (length s) s ls 0

-- ---- Rule 14.5: the call, on a region whose first byte has the offset `base`, with what the lists hold; a group is as wide as there are
-- learned types
abbrev pub learned_filling : List ℕ → List ℕ → ℕ → List ℕ → List ℕ → RowFilling
learned_filling s ls base rows cols =
    record {
      checked = first_held (counted_checks (length s) (length ls) base);
      hits = found_hits (length s) base (rows_found s ls);
      width = length ls;
      rows = rows;
      cols = cols;
    }
