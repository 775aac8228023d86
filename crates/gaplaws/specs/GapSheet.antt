-- What the rows of a gap give away (rule 11.12): the header places of its scan, and the words of its rows as a call leaves them.
-- Assumes nothing.
use Rattle.std.specs.Prelude.{ℕ, ◌+◌, ◌*◌, ◌≡◌, cond, List, [], map, length, take}
use Rattle.carving.specs.Calls.{slice_spot, page_spot, SliceAsked, slice_filling, NumberedAsked, numbered_filling}
use Rattle.gap.specs.Gap.{gap_from, has_gap, gap_of, region_run, gap_hits}
use Rattle.page.specs.Page.{cell_count, content_start, start_of, page_of, head_of}
use Rattle.record.specs.Places.{AgreeAt}
use Rattle.scan.specs.Scan.{all_places}
use Rattle.sheet.specs.Hits.{Hit, rows_of, groups_words, RowFilling, row_room}
use Rattle.sheet.specs.Limits.{words_per_row, words_per_entry}
use Rattle.sheet.specs.Refusal.{after_or_kept}
use Rattle.sheet.specs.Sheet.{rows_words}

-- ---- a page

-- Rule 11.12: the header places of its gap's scan, said of the page; where there is no gap there are none
unfoldable pub gap_places : List ℕ → ℕ → List ℕ → List ℕ
gap_places page head hints =
    let gap = gap_of page head in
    cond (has_gap page head) (map (λ o. gap_from page head + o) (all_places gap (region_run gap hints))) []

-- Rule 11.12: pages of one length that agree in the cells' count and the content's start, and at the header places of the first one's gap
pub record AlikeGaps (head : ℕ) (hints x y : List ℕ) : Type 0 where
  pub length_same : length x ≡ length y
  pub cells_same : cell_count x head ≡ cell_count y head
  pub content_same : content_start x head ≡ content_start y head
  pub places_agree : AgreeAt x y (gap_places x head hints)

-- ---- a call: how many rows of the gap it writes, and their words and entries

pub record GapSheet : Type 0 where
  pub written : ℕ
  pub rows : List ℕ
  pub entries : List ℕ

-- by the rules: as many as there is room for; where a check refuses there are none
abbrev pub sheet_of_hits : ℕ → List Hit → GapSheet
sheet_of_hits width hits = record { written = length hits; rows = rows_words (rows_of hits); entries = groups_words width hits }

abbrev pub gap_sheet : RowFilling → List Hit → GapSheet
gap_sheet a gap = sheet_of_hits a.width (after_or_kept a.checked (take (row_room a) gap) [])

-- as a call leaves it: they are its first ones
abbrev pub front_of : ℕ → ℕ → List ℕ → List ℕ → GapSheet
front_of width written rows cols =
    record { written = written; rows = take (written * words_per_row) rows; entries = take (written * (words_per_entry * width)) cols }

-- ---- of a page slice
abbrev pub slice_gap : SliceAsked → GapSheet
slice_gap a = gap_sheet (slice_filling a) (gap_hits a.page a.head a.hints (slice_spot a.base))

-- the same but for the page, whose gap is alike
pub record AlikeSlices (a b : SliceAsked) : Type 0 where
  pub how_same : a.how ≡ b.how
  pub head_same : a.head ≡ b.head
  pub base_same : a.base ≡ b.base
  pub hints_same : a.hints ≡ b.hints
  pub room_same : row_room (slice_filling a) ≡ row_room (slice_filling b)
  pub gaps_alike : AlikeGaps a.head a.hints a.page b.page

-- ---- of a page by its number
abbrev pub numbered_gap : NumberedAsked → GapSheet
numbered_gap a =
    gap_sheet (numbered_filling a)
    (gap_hits (page_of a.db a.size a.page) (head_of a.page) a.hints (page_spot (start_of a.size a.page) 0))

-- the same but for the database, which has the same length and whose page has a gap that is alike
pub record AlikeNumbered (a b : NumberedAsked) : Type 0 where
  pub how_same : a.how ≡ b.how
  pub length_same : length a.db ≡ length b.db
  pub size_same : a.size ≡ b.size
  pub page_same : a.page ≡ b.page
  pub hints_same : a.hints ≡ b.hints
  pub room_same : row_room (numbered_filling a) ≡ row_room (numbered_filling b)
  pub gaps_alike : AlikeGaps (head_of a.page) a.hints (page_of a.db a.size a.page) (page_of b.db b.size b.page)
