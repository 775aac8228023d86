-- A page of a database, and the numbers that stand on it (format, sections 1.3.2 and 1.6; rules 9.1 to 9.4).
-- Assumes nothing.
use Rattle.std.specs.Prelude.{ℕ, ◌+◌, ◌-◌, ◌*◌, ◌/◌, Bool, false, cond, not, ◌&&◌, ◌||◌, List, [], ◌∷◌, ltb, leb, eqb, get_or, take, drop}
use Rattle.std.specs.Prelude.{Result, Ok, Err}
use Rattle.page.specs.declared.btree.Page.{Page}
use Rattle.record.specs.Value.{big_endian}
use Rattle.sheet.specs.Limits.{largest_region}
use Rattle.sheet.specs.Refusal.{Check, first_held, refusal_number, after}
use Rattle.sheet.specs.declared.refusal.Refusal.{Refusal}
use Rattle.sheet.specs.declared.refusal.Refusal.TheVariants.{TooLarge, PageSize, NoSuchPage}

-- ---- where a page lies

-- Rule 9.1: a page size is a power of two from 512 to 65,536
abbrev pub among : ℕ → List ℕ → Bool
among n [] = false
among n (m ∷ ms) = eqb n m || among n ms

abbrev pub page_sizes : List ℕ
page_sizes = 512 ∷ 1024 ∷ 2048 ∷ 4096 ∷ 8192 ∷ 16384 ∷ 32768 ∷ 65536 ∷ []

unfoldable pub size_fits : ℕ → Bool
size_fits size = among size page_sizes

-- Rule 9.2: pages count from 1; a database of `len` bytes has so many that are whole
abbrev pub whole_pages : ℕ → ℕ → ℕ
whole_pages len size = len / size

unfoldable pub has_page : ℕ → ℕ → ℕ → Bool
has_page len size p = leb 1 p && leb p (whole_pages len size)

abbrev pub start_of : ℕ → ℕ → ℕ
start_of size p = (p - 1) * size

abbrev pub page_of : List ℕ → ℕ → ℕ → List ℕ
page_of db size p = take size (drop (start_of size p) db)

-- Rule 9.2: the b-tree header stands at byte 100 of page 1 and at the start of any other
abbrev pub head_of : ℕ → ℕ
head_of p = cond (eqb p 1) 100 0

-- ---- Rule 9.3: the numbers on a page whose header stands at `head`; bytes past its end count as 0
abbrev pub page_type : List ℕ → ℕ → ℕ
page_type page head = get_or page head 0

abbrev pub first_freeblock : List ℕ → ℕ → ℕ
first_freeblock page head = big_endian page (head + 1) 2

abbrev pub cell_count : List ℕ → ℕ → ℕ
cell_count page head = big_endian page (head + 3) 2

-- as it is stored: 0 stays 0
abbrev pub content_start : List ℕ → ℕ → ℕ
content_start page head = big_endian page (head + 5) 2

-- a cell's place, out of the pointer array, and the page that a cell or a header names
abbrev pub pointer_at : List ℕ → ℕ → ℕ
pointer_at page at = big_endian page at 2

abbrev pub child_at : List ℕ → ℕ → ℕ
child_at page at = big_endian page at 4

-- a freeblock begins with the place of the next one and its own size
abbrev pub block_next : List ℕ → ℕ → ℕ
block_next page at = big_endian page at 2

abbrev pub block_size : List ℕ → ℕ → ℕ
block_size page at = big_endian page (at + 2) 2

-- Rule 10.2: a block's payload is what stands behind its first four bytes
pub record Block : Type 0 where
  pub at : ℕ
  pub size : ℕ

abbrev pub payload_of : List ℕ → Block → List ℕ
payload_of page b = take (b.size - 4) (drop (b.at + 4) page)

-- ---- Rule 9.4: the call, for a database of `len` bytes
abbrev pub page_checks : ℕ → ℕ → ℕ → List Check
page_checks len size p =
    record { refusal = TooLarge; holds = ltb largest_region len }
    ∷ record { refusal = PageSize; holds = not (size_fits size) }
    ∷ record { refusal = NoSuchPage; holds = not (has_page len size p) }
    ∷ []

unfoldable pub page_answer : ℕ → ℕ → ℕ → Result Page Refusal
page_answer len size p =
    after Err (first_held (page_checks len size p)) (Ok (record { start = start_of size p; len = size; head = head_of p }))

-- the paper's number of an answer, 0 where nothing is refused
abbrev pub paged_number : Result Page Refusal → ℕ
paged_number (Ok page) = 0
paged_number (Err r) = refusal_number r

unfoldable pub page_refusal : ℕ → ℕ → ℕ → ℕ
page_refusal len size p = after refusal_number (first_held (page_checks len size p)) 0
