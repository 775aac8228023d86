-- Tables, and what is carved along their walks (rules 9.12 and 9.13): one definition for all that carve pages. A carver of pages knows of
-- no room: that is applied once, at the end.
-- Assumes nothing.
use Rattle.std.specs.Prelude.{ℕ, suc, ◌+◌, max, Bool, true, false, cond, not, ◌&&◌, ◌||◌, List, [], ◌∷◌, ◌++◌, ltb, eqb, length, take, drop}
use Rattle.page.specs.Page.{size_fits}
use Rattle.sheet.specs.Limits.{largest_region, most_tables, count_fits, hints_known}
use Rattle.sheet.specs.Refusal.{Check}
use Rattle.sheet.specs.declared.refusal.Refusal.TheVariants.{ColumnCount, Malformed, TooLarge, PageSize}
use Rattle.walk.specs.Walk.{Walk, walk, hits_of, overflows}

-- ---- tables

-- Rule 9.12: a table is lent as its root, its count of columns, and so many of the hints, which stand one after the other
pub record Table : Type 0 where
  pub root : ℕ
  pub hints : List ℕ

abbrev pub tables_of : List ℕ → List ℕ → List ℕ → List Table
tables_of [] counts hints = []
tables_of (r ∷ rs) [] hints = []
tables_of (r ∷ rs) (c ∷ cs) hints = record { root = r; hints = take c hints } ∷ tables_of rs cs (drop c hints)

abbrev pub sum_of : List ℕ → ℕ
sum_of [] = 0
sum_of (c ∷ cs) = c + sum_of cs

-- Rule 5.2: the widest table, with rows or not
abbrev pub widest : List ℕ → ℕ
widest [] = 0
widest (c ∷ cs) = max c (widest cs)

abbrev pub counts_fit : List ℕ → Bool
counts_fit [] = true
counts_fit (c ∷ cs) = count_fits c && counts_fit cs

-- Rule 9.12: the checks, for a database of `len` bytes
abbrev pub table_checks : ℕ → ℕ → List ℕ → List ℕ → List ℕ → List Check
table_checks len size roots counts hints =
    record { refusal = ColumnCount; holds = not (counts_fit counts) }
    ∷ record {
      refusal = Malformed;
      holds = not (eqb (length roots) (length counts)) ||
          (not (eqb (sum_of counts) (length hints)) || not (hints_known hints));
    }
    ∷ record { refusal = TooLarge; holds = ltb largest_region len || ltb most_tables (length roots) }
    ∷ record { refusal = PageSize; holds = not (size_fits size) }
    ∷ []

-- ---- the hits of tables

-- what is made of a table's index, its hints and the number of a leaf
abbrev pub Carver : Type 0 → Type 0
Carver A = ℕ → List ℕ → ℕ → List A

-- Rule 9.13: tables go in the order lent, from the index t on, and a leaf is carved as soon as it is popped; a stack that
-- overflows ends it all
abbrev pub hits_from : {A : Type 0} → (ℕ → Walk) → Carver A → ℕ → List Table → List A
hits_from walk_of carve t [] = []
hits_from walk_of carve t (b ∷ bs) =
    hits_of (carve t b.hints) (walk_of b.root) ++ cond (overflows (walk_of b.root)) [] (hits_from walk_of carve (suc t) bs)

abbrev pub overflow_from : (ℕ → Walk) → List Table → Bool
overflow_from walk_of [] = false
overflow_from walk_of (b ∷ bs) = cond (overflows (walk_of b.root)) true (overflow_from walk_of bs)

unfoldable pub tables_hits : {A : Type 0} → Carver A → List ℕ → ℕ → List ℕ → List ℕ → List ℕ → ℕ → List A
tables_hits carve db size roots counts hints depth = hits_from (λ root. walk db size depth root) carve 0 (tables_of roots counts hints)

unfoldable pub tables_overflow : List ℕ → ℕ → List ℕ → List ℕ → List ℕ → ℕ → Bool
tables_overflow db size roots counts hints depth = overflow_from (λ root. walk db size depth root) (tables_of roots counts hints)
