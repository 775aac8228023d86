-- Columns of a slice, and of a part of it (rule 10.3): the part begins `by` bytes into the slice.
-- Assumes nothing.
use Rattle.std.specs.Prelude.{ℕ, ◌+◌, ◌-◌, List, [], ◌∷◌}
use Rattle.sheet.specs.declared.columns.Column.{Column}
use Rattle.sheet.specs.declared.columns.Column.TheVariants.{Body, Unfit, Lost, Unused}

-- columns of the part, said of the slice
abbrev pub moved_one : ℕ → Column → Column
moved_one by (Body kind start len) = Body kind (by + start) len
moved_one by (Unfit kind) = Unfit kind
moved_one by Lost = Lost
moved_one by Unused = Unused

abbrev pub moved : ℕ → List Column → List Column
moved by [] = []
moved by (c ∷ cs) = moved_one by c ∷ moved by cs

-- columns of the slice, said of the part
abbrev pub back_one : ℕ → Column → Column
back_one by (Body kind start len) = Body kind (start - by) len
back_one by (Unfit kind) = Unfit kind
back_one by Lost = Lost
back_one by Unused = Unused

abbrev pub back : ℕ → List Column → List Column
back by [] = []
back by (c ∷ cs) = back_one by c ∷ back by cs
