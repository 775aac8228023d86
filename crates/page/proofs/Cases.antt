-- Worked cases of pages as one table that is computed at once.
-- Assumes nothing.
use Prim.Native.Nat.{ℕ}
use Rattle.std.specs.Prelude.{Result, Ok, Err}
use mathlib.Core.Path.{◌≡◌, refl}
use mathlib.Core.List.{List, [], ◌∷◌, map}
use Rattle.page.specs.Page.{size_fits, has_page, first_freeblock, content_start, page_answer, page_refusal}
use Rattle.page.specs.declared.btree.Page.{Page}
use Rattle.record.specs.Value.{big_endian}
use Rattle.sheet.specs.declared.refusal.Refusal.{Refusal}
use Rattle.sheet.specs.declared.refusal.Refusal.TheVariants.{TooLarge, PageSize, NoSuchPage}

abbrev Paged : Type 0
Paged = Result Page Refusal

-- where a page lies
lies : ℕ → ℕ → ℕ → Paged
lies start len head = Ok (record { start = start; len = len; head = head })

-- a page of a database of so many bytes, with its answer and the paper's number; and the numbers of a header at 0 that is cut off
data Case : Type 0 where
  at : ℕ → ℕ → ℕ → Paged → ℕ → Case
  cut : List ℕ → ℕ → ℕ → Case

data Outcome : Type 0 where
  is : Paged → ℕ → Outcome
  reads : ℕ → ℕ → Outcome

computed : Case → Outcome
computed (at len size p r n) = is (page_answer len size p) (page_refusal len size p)
computed (cut page f c) = reads (first_freeblock page 0) (content_start page 0)

expected : Case → Outcome
expected (at len size p r n) = is r n
expected (cut page f c) = reads f c

cases : List Case
cases =
    at 1024 512 1 (lies 0 512 100) 0
    ∷ at 1024 512 2 (lies 512 512 0) 0
    ∷ at 1535 512 3 (Err NoSuchPage) 6
    ∷ at 1024 512 0 (Err NoSuchPage) 6
    ∷ at 0 512 1 (Err NoSuchPage) 6
    ∷ at 1024 1000 1 (Err PageSize) 5
    ∷ at 1024 0 1 (Err PageSize) 5
    ∷ at 262144 131072 1 (Err PageSize) 5
    ∷ at 131072 65536 2 (lies 65536 65536 0) 0
    ∷ at 16777217 0 0 (Err TooLarge) 3
    ∷ at 16777216 512 32768 (lies 16776704 512 0) 0
    ∷ cut (0x0D ∷ 1 ∷ 2 ∷ []) 258 0
    ∷ cut (0x0D ∷ 1 ∷ []) 256 0
    ∷ cut (0x0D ∷ 0 ∷ 0 ∷ 0 ∷ 0 ∷ 0 ∷ 9 ∷ []) 0 9
    ∷ cut [] 0 0
    ∷ []

table : map computed cases ≡ map expected cases
unfolding cases computed expected lies page_answer page_refusal size_fits has_page big_endian
table = refl
