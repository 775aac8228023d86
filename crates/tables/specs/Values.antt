-- The values of the rows that the calls write (rule 4.13): what their column entries read as over the database.
-- Assumes nothing.
use Rattle.std.specs.Prelude.{ℕ, cond, List, [], ◌∷◌, ◌++◌, length}
use Rattle.carving.specs.Values.{leaf_values}
use Rattle.carving.specs.declared.inner.Carving.{Carving}
use Rattle.record.specs.declared.record.Value.{Value}
use Rattle.sheet.specs.Values.{written_values}
use Rattle.tables.specs.Calls.{Asked, tabled_walking, tabled_filling}
use Rattle.walk.specs.Carve.{Table, tables_of}
use Rattle.walk.specs.Collect.{walking_things}
use Rattle.walk.specs.Walk.{Walk, walk, hits_of, overflows}

-- Rule 9.13: tables in the order lent, and leaf by leaf along the walk of each; a stack that overflows ends it all
abbrev pub values_from : Carving → List ℕ → ℕ → (ℕ → Walk) → List Table → List (List Value)
values_from how db size walk_of [] = []
values_from how db size walk_of (b ∷ bs) =
    hits_of (leaf_values how db size b.hints) (walk_of b.root)
    ++ cond (overflows (walk_of b.root)) [] (values_from how db size walk_of bs)

unfoldable pub tables_values : Carving → List ℕ → ℕ → List ℕ → List ℕ → List ℕ → ℕ → List (List Value)
tables_values how db size roots counts hints depth =
    values_from how db size (λ root. walk db size depth root) (tables_of roots counts hints)

-- those of the rows that a call writes
unfoldable pub carved_values : Asked → List Value
carved_values a =
    written_values (tabled_filling a)
    (walking_things (tabled_walking a)
    (tables_values a.how a.db a.size a.roots a.counts a.hints (length a.stack)))
