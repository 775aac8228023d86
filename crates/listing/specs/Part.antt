-- The parts of a list (rule 8.4): a scan into short lists, and on from the row that found no room.
-- Assumes nothing.
use Rattle.std.specs.Prelude.{ℕ, zero, suc, ◌+◌, ◌*◌, ◌≡◌, List, [], ◌∷◌, length, replicate, Result, Ok, Err}
use Rattle.std.proofs.lemmas.List.Edits.{sets}
use Rattle.listing.specs.Inner.{most_line}
use Rattle.listing.specs.Text.{rows_text}
use Rattle.listing.specs.declared.part.Part.{Part}
use Rattle.listing.specs.declared.part.Totals.{Totals}
use Rattle.scan.specs.Scan.{written_of, read_of, ScanAsked, scan_asked, scan_answer, scan_rows, scan_cols}
use Rattle.scan.specs.declared.schema_sig.Scanned.{Scanned}
use Rattle.sheet.specs.Limits.{words_per_row, words_per_entry, most_columns}
use Rattle.sheet.specs.declared.filled.Filled.{Filled}
use Rattle.sheet.specs.declared.filled.Filled.TheVariants.{Done, Full}
use Rattle.sheet.specs.declared.refusal.Refusal.{Refusal}

-- how many rows a part has at the most
abbrev pub part_rows : ℕ
part_rows = 8

-- their words, their groups of entries, and their lines
abbrev pub row_space : ℕ
row_space = part_rows * words_per_row

abbrev pub col_space : ℕ
col_space = part_rows * (words_per_entry * most_columns)

abbrev pub text_space : ℕ
text_space = part_rows * most_line most_columns

-- what a scan answers
abbrev pub Answered : Type 0
Answered = Result Scanned Refusal

-- what the scan from `start` on answers; what lists of so many words hold is no matter to it
unfoldable pub part_answer : List ℕ → List ℕ → ℕ → Answered
part_answer s hints start = scan_answer (scan_asked s hints 0 start (replicate row_space 0) (replicate col_space 0))

-- the rows that it wrote over what the lists held
unfoldable pub part_text : ScanAsked → List ℕ
part_text a = rows_text (scan_rows a) (scan_cols a) (length a.hints) (written_of (part_answer a.region a.hints a.start))

-- a part's answer, and how long its text is: there is none where the scan is refused
abbrev pub found_of : Result Part Refusal → Answered
found_of (Ok p) = Ok p.found
found_of (Err r) = Err r

abbrev pub len_of : Result Part Refusal → ℕ
len_of (Ok p) = p.len
len_of (Err r) = 0

-- what a part comes to: its answer, and what the three arrays lent hold at exit
pub record PartOutcome : Type 0 where
  pub part : Result Part Refusal
  pub rows : List ℕ
  pub cols : List ℕ
  pub out : List ℕ

abbrev pub part_outcome : Result Part Refusal → List ℕ → List ℕ → List ℕ → PartOutcome
part_outcome r rows cols out = record { part = r; rows = rows; cols = cols; out = out }

-- what it promises, asked for a scan and lent an array that holds `old`
pub record ListsPart (a : ScanAsked) (old : List ℕ) (x : PartOutcome) : Type 0 where
  pub answer : found_of x.part ≡ part_answer a.region a.hints a.start
  pub len : len_of x.part ≡ length (part_text a)
  pub text : x.out ≡ sets old 0 (part_text a)
  pub rows : x.rows ≡ scan_rows a
  pub entries : x.cols ≡ scan_cols a

-- a part that found no room is followed by one from its place on
abbrev pub then_at : Filled → ℕ → (ℕ → List Answered) → List Answered
then_at (Full rows) place rest = rest place
then_at (Done rows) place rest = []

abbrev pub then_from : Answered → (ℕ → List Answered) → List Answered
then_from (Ok x) rest = then_at x.rows x.place rest
then_from (Err r) rest = []

-- the answers of the parts from `at` on; the first argument bounds their number
unfoldable pub parts_from : ℕ → List ℕ → List ℕ → ℕ → List Answered
parts_from zero s hints at = []
parts_from (suc f) s hints at = part_answer s hints at ∷ then_from (part_answer s hints at) (λ place. parts_from f s hints place)

-- places rise, so there are at most as many as the region has bytes, and one
unfoldable pub parts_of : List ℕ → List ℕ → List Answered
parts_of s hints = parts_from (suc (length s)) s hints 0

abbrev pub rows_sum : List Answered → ℕ
rows_sum [] = 0
rows_sum (p ∷ ps) = written_of p + rows_sum ps

abbrev pub read_sum : List Answered → ℕ
read_sum [] = 0
read_sum (p ∷ ps) = read_of p + read_sum ps

-- rows found and header bytes read, over all parts
abbrev pub totals_of : List Answered → Totals
totals_of ps = record { rows = rows_sum ps; read = read_sum ps }
