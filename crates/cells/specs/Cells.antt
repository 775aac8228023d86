-- Rows in the payload of a freed block (rules 11.4 to 11.7 and 11.9): whole cells, then records whose header's length is lost.
-- Assumes nothing.
use Rattle.std.specs.Prelude.{ℕ, zero, suc, ◌+◌, ◌-◌, Bool, true, false, cond, List, [], ◌∷◌, ◌++◌, ltb, leb, length, take, drop}
use Rattle.std.specs.Prelude.{None, Some}
use Rattle.attempt.specs.Attempt.{Found, Tried, miss, hit, attempt_at}
use Rattle.hit.specs.Hit.{intra_page, hit_of}
use Rattle.hit.specs.declared.inner.Spot.{Spot}
use Rattle.page.specs.Page.{among}
use Rattle.record.specs.Varint.{varint_at}
use Rattle.record.specs.Varint.{Varint}
use Rattle.rebuild.specs.Header.{rebuilt}
use Rattle.rebuild.specs.declared.rebuilding.Rebuilding.{Rebuilding}
use Rattle.sheet.specs.Confidence.{share, rebuilt_share}
use Rattle.starts.specs.Starts.{rebuilt_starts}
use Rattle.sheet.specs.Hits.{Hit}

-- ---- cells

-- a cell whose record is a row: where in the payload the record starts and ends, its row id, and what the attempt found
pub record CellRow : Type 0 where
  pub at : ℕ
  pub end : ℕ
  pub id : ℕ
  pub found : Found

pub data Looked : Type 0 where
  no_cell : Looked
  cell : CellRow → Looked

-- Rule 11.4: one attempt on exactly the record, which has `len` bytes from `at` on
abbrev pub record_is : ℕ → ℕ → ℕ → Tried → Looked
record_is at len id miss = no_cell
record_is at len id (hit x) = cell (record { at = at; end = at + len; id = id; found = x })

-- Rule 11.4: behind the length stands the row id, and behind that the record, if the payload has so many bytes left
abbrev pub id_then : List ℕ → List ℕ → ℕ → Varint → Looked
id_then d hints len (Some (id, c)) =
    cond (leb len (length d - c.at)) (record_is c.at len id (attempt_at (take len (drop c.at d)) hints 0)) no_cell
id_then d hints len None = no_cell

-- Rule 11.4: a cell begins with its record's length, which is above 0
abbrev pub length_then : List ℕ → List ℕ → Varint → Looked
length_then d hints (Some (len, c)) = cond (ltb 0 len) (id_then d hints len (varint_at d c.at)) no_cell
length_then d hints None = no_cell

unfoldable pub cell_at : List ℕ → List ℕ → ℕ → Looked
cell_at d hints pos = length_then d hints (varint_at d pos)

-- Rule 11.5: behind such a cell the next is looked for at its record's end, elsewhere at the next byte. The first argument bounds the
-- steps.
abbrev pub cell_then : ℕ → (ℕ → List CellRow) → Looked → List CellRow
cell_then pos rest no_cell = rest (suc pos)
cell_then pos rest (cell c) = c ∷ rest c.end

unfoldable pub cells_from : ℕ → List ℕ → List ℕ → ℕ → List CellRow
cells_from zero d hints pos = []
cells_from (suc f) d hints pos = cond (ltb pos (length d)) (cell_then pos (λ next. cells_from f d hints next) (cell_at d hints pos)) []

-- each step goes on by a byte at least, so the length bounds them, and no larger bound gives others (`proofs/Fuel.antt`)
unfoldable pub cells_of : List ℕ → List ℕ → List CellRow
cells_of d hints = cells_from (length d) d hints 0

-- ---- rebuilt headers

-- where the records of cells start
abbrev pub starts_of : List CellRow → List ℕ
starts_of [] = []
starts_of (c ∷ cs) = c.at ∷ starts_of cs

-- ---- rows

-- Rule 11.7: the row at the place o of its page
abbrev pub cell_hit : Spot → ℕ → ℕ → ℕ → Found → Hit
cell_hit spot columns o id x = hit_of spot o o (intra_page (Some id) (share x.matched columns)) x

abbrev pub rebuilt_hit : Spot → ℕ → ℕ → Found → Hit
rebuilt_hit spot columns o x = hit_of spot o o (intra_page None (rebuilt_share (share x.matched columns))) x

-- the payload stands at o in its page
abbrev pub cell_hits : Spot → ℕ → ℕ → List CellRow → List Hit
cell_hits spot columns o [] = []
cell_hits spot columns o (c ∷ cs) = cell_hit spot columns (o + c.at) c.id c.found ∷ cell_hits spot columns o cs

-- Rule 11.6: a start that is passed over gives no row
abbrev pub start_hits : Spot → ℕ → ℕ → ℕ → Bool → Tried → List Hit
start_hits spot columns o v true t = []
start_hits spot columns o v false miss = []
start_hits spot columns o v false (hit x) = rebuilt_hit spot columns (o + v) x ∷ []

-- Rules 11.6 and 11.9: of k starts, from v on; one at which the record of a cell starts is passed over
unfoldable pub rebuilt_from : ℕ → Rebuilding → Spot → ℕ → List ℕ → List ℕ → List ℕ → ℕ → List Hit
rebuilt_from zero how spot o cells d hints v = []
rebuilt_from (suc k) how spot o cells d hints v =
    start_hits spot (length hints) o v (among v cells) (rebuilt how d hints v) ++ rebuilt_from k how spot o cells d hints (suc v)

-- Rules 11.5 and 11.6: cells first, then what is rebuilt
unfoldable pub payload_hits : Rebuilding → Spot → ℕ → List ℕ → List ℕ → List Hit
payload_hits how spot o d hints =
    cell_hits spot (length hints) o (cells_of d hints)
    ++ rebuilt_from (rebuilt_starts (length d) (length hints)) how spot o (starts_of (cells_of d hints)) d hints 0
