-- The leaf walk (rules 9.5 to 9.7). A stack is a list whose first element is its top; a mark of 1 is a page that was expanded.
-- Assumes nothing.
use Rattle.std.specs.Prelude.{◌+◌, ◌-◌, ◌*◌, ◌&&◌, [], ◌∷◌, ◌++◌}
use Rattle.std.specs.Prelude.{ℕ, zero, suc, Bool, true, false, cond, List, ltb, leb, eqb, length, get_or, set, replicate}
use Rattle.page.specs.Page.{whole_pages, has_page, page_of, head_of, page_type, cell_count, pointer_at, child_at}

-- ---- children

-- the child at a place of a page; past its end there is none
unfoldable pub child_in : List ℕ → ℕ → List ℕ
child_in page at = cond (leb (at + 4) (length page)) (child_at page at ∷ []) []

-- Rule 9.5: those of so many cells, whose pointers stand from `at` on: a pointer past the page ends them, a cell past it is skipped
unfoldable pub cells_from : ℕ → List ℕ → ℕ → List ℕ
cells_from zero page at = []
cells_from (suc n) page at = cond (leb (at + 2) (length page)) (child_in page (pointer_at page at) ++ cells_from n page (at + 2)) []

-- Rule 9.5: the right child first, then those of the cells
unfoldable pub kids : List ℕ → ℕ → List ℕ
kids page head = child_in page (head + 8) ++ cells_from (cell_count page head) page (head + 12)

-- ---- popping a page

-- what it comes to, with the stack behind it: the page is a leaf; the walk goes on; a push overflowed the stack
pub data Popped : Type 0 where
  leaf_then : List ℕ → Popped
  onward : List ℕ → Popped
  overflow : Popped

-- pages are pushed one after the other, whatever they are
unfoldable pub push_all : ℕ → List ℕ → List ℕ → Popped
push_all depth [] st = onward st
push_all depth (p ∷ ps) st = cond (ltb (length st) depth) (push_all depth ps (p ∷ st)) overflow

-- Rule 9.6: type 0x0D is a leaf, 0x05 an interior page, any other nothing
unfoldable pub page_done : ℕ → List ℕ → ℕ → List ℕ → Popped
page_done depth page head st =
    cond (eqb (page_type page head) 0x0D) (leaf_then st)
    (cond (eqb (page_type page head) 0x05) (push_all depth (kids page head) st)
    (onward st))

-- Rule 9.6: a page that is there is expanded once
unfoldable pub fresh : ℕ → ℕ → List ℕ → ℕ → Bool
fresh len size marks p = has_page len size p && eqb (get_or marks (p - 1) 0) 0

unfoldable pub marked : ℕ → ℕ → List ℕ → ℕ → List ℕ
marked len size marks p = cond (fresh len size marks p) (set marks (p - 1) 1) marks

unfoldable pub popped : List ℕ → ℕ → ℕ → List ℕ → ℕ → List ℕ → Popped
popped db size depth marks p st =
    cond (fresh (length db) size marks p) (page_done depth (page_of db size p) (head_of p) st) (onward st)

-- ---- the walk, leaf by leaf
pub data Walk : Type 0 where
  through : Walk
  overflowed : Walk
  leaf : ℕ → Walk → Walk

-- what popping the page p came to, with the walk from the stack behind it
abbrev pub from_popped : ℕ → (List ℕ → Walk) → Popped → Walk
from_popped p rest (leaf_then st) = leaf p (rest st)
from_popped p rest (onward st) = rest st
from_popped p rest overflow = overflowed

-- the first argument bounds the pops
unfoldable pub walk_from : ℕ → List ℕ → ℕ → ℕ → List ℕ → List ℕ → Walk
walk_from zero db size depth marks st = through
walk_from (suc f) db size depth marks [] = through
walk_from (suc f) db size depth marks (p ∷ st) =
    from_popped p (λ s. walk_from f db size depth (marked (length db) size marks p) s) (popped db size depth marks p st)

-- Rule 9.7: the root is pushed first. Each page is expanded once, and leaves at most a full stack: that is what bounds the pops, and no
-- larger bound gives another walk (`proofs/Fuel.antt`).
unfoldable pub walk : List ℕ → ℕ → ℕ → ℕ → Walk
walk db size depth root =
    let pages = whole_pages (length db) size in
    cond (ltb 0 depth) (walk_from (pages * (depth + 1) + 1) db size depth (replicate pages 0) (root ∷ [])) overflowed

-- ---- what a walk comes to

-- Rule 9.8: what is made of each leaf, in the order of the leaves
abbrev pub hits_of : {A : Type 0} → (ℕ → List A) → Walk → List A
hits_of carve through = []
hits_of carve overflowed = []
hits_of carve (leaf p t) = carve p ++ hits_of carve t

abbrev pub overflows : Walk → Bool
overflows through = false
overflows overflowed = true
overflows (leaf p t) = overflows t
