-- Worked cases of the walk as one table that is computed at once. The tree: page 1 is a root whose right child is 3, with a cell whose child
-- is 2, one past the page, and one whose child is 3 again; pages 2 and 3 are leaves. Behind them stand some bytes that make no page.
-- Assumes nothing.
use Prim.Native.Nat.{ℕ}
use mathlib.Core.Path.{◌≡◌, refl}
use mathlib.Core.List.{List, [], ◌∷◌, ◌++◌, map}
use lib.ListN.{replicate}
use Rattle.page.specs.Page.{size_fits, has_page}
use Rattle.record.specs.Value.{big_endian}
use Rattle.sheet.specs.Filled.{list_left}
use Rattle.walk.specs.Collect.{leaves_asked, leaves_of, collect_answer, collect_leaves, walked_number, walked_written}
use Rattle.walk.specs.Walk.{child_in, cells_from, kids, push_all, page_done, fresh, marked, popped, walk_from, walk}

db : List ℕ
db =
    replicate 100 0
    ++ (0x05 ∷ 0 ∷ 0 ∷ 0 ∷ 3 ∷ 0 ∷ 0 ∷ 0 ∷ 0 ∷ 0 ∷ 0 ∷ 3 ∷ 0 ∷ 118 ∷ 2 ∷ 0 ∷ 0 ∷ 108 ∷ 0 ∷ 0 ∷ 0 ∷ 2 ∷ [])
    ++ replicate 390 0
    ++ (0x0D ∷ replicate 511 0)
    ++ (0x0D ∷ replicate 511 0)
    ++ (7 ∷ 7 ∷ [])

-- page size, root, flags, stack and leaves; then the paper's number, how many leaves are written, and what the list holds
data Case : Type 0 where
  from : ℕ → ℕ → ℕ → ℕ → List ℕ → ℕ → ℕ → List ℕ → Case

record Outcome : Type 0 where
  number : ℕ
  written : ℕ
  leaves : List ℕ

computed : Case → Outcome
computed (from size root flags depth old n k l) =
    let a = leaves_asked db size root (replicate flags 9) (replicate depth 9) old in
    let answer = collect_answer a in
    record { number = walked_number answer; written = walked_written answer; leaves = collect_leaves a }

expected : Case → Outcome
expected (from size root flags depth old n k l) = record { number = n; written = k; leaves = l }

-- The last cell's child is popped first, then the first cell's, then the right child, which has been there. A stack of two cells takes the
-- right child and the first cell's.
cases : List Case
cases =
    from 512 1 3 3 (9 ∷ 9 ∷ 9 ∷ []) 0 2 (3 ∷ 2 ∷ 9 ∷ [])
    ∷ from 512 1 4 3 (9 ∷ 9 ∷ []) 0 2 (3 ∷ 2 ∷ [])
    ∷ from 512 1 3 3 (9 ∷ []) 9 1 (3 ∷ [])
    ∷ from 512 1 3 2 (9 ∷ 9 ∷ []) 8 0 (9 ∷ 9 ∷ [])
    ∷ from 512 1 2 3 (9 ∷ 9 ∷ []) 8 0 (9 ∷ 9 ∷ [])
    ∷ from 512 2 3 1 (9 ∷ []) 0 1 (2 ∷ [])
    ∷ from 512 2 3 1 [] 9 0 []
    ∷ from 512 0 3 1 (9 ∷ []) 0 0 (9 ∷ [])
    ∷ from 512 4 3 1 (9 ∷ []) 0 0 (9 ∷ [])
    ∷ from 512 2 3 0 (9 ∷ []) 8 0 (9 ∷ [])
    ∷ from 513 2 0 0 (9 ∷ []) 5 0 (9 ∷ [])
    ∷ []

table : map computed cases ≡ map expected cases
unfolding cases computed expected db collect_answer collect_leaves list_left leaves_of walk walk_from popped marked fresh page_done push_all kids cells_from child_in size_fits has_page big_endian
table = refl
