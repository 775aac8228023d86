-- The four words of a column entry, and the room that two lent lists have.
-- Assumes nothing.
use Rattle.std.specs.Prelude.{ℕ, zero, suc, ◌*◌, ◌/◌, min, cond, List, [], ◌∷◌, ◌++◌, eqb}
use Rattle.record.specs.Entry.{body_state, unfit_state, lost_state, unused_state}
use Rattle.sheet.specs.Limits.{words_per_row, words_per_entry}
use Rattle.sheet.specs.declared.columns.Column.{Column}
use Rattle.sheet.specs.declared.columns.Column.TheVariants.{Body, Unfit, Lost, Unused}

-- Rule 3.1: state, serial type, start, length. What a state has no use for is 0
unfoldable pub column_words : Column → List ℕ
column_words (Body kind start len) = body_state ∷ kind ∷ start ∷ len ∷ []
column_words (Unfit kind) = unfit_state ∷ kind ∷ 0 ∷ 0 ∷ []
column_words Lost = lost_state ∷ 0 ∷ 0 ∷ 0 ∷ []
column_words Unused = unused_state ∷ 0 ∷ 0 ∷ 0 ∷ []

-- Rule 5.2: n entries that pad a group
unfoldable pub unused_words : ℕ → List ℕ
unused_words zero = []
unused_words (suc n) = column_words Unused ++ unused_words n

-- Rule 5.3: the smaller of whole rows and whole groups of `width` entries; groups without entries set no limit
unfoldable pub room_of : ℕ → ℕ → ℕ → ℕ
room_of rows cols width =
    cond (eqb width 0) (rows / words_per_row)
    (min (rows / words_per_row) (cols / (words_per_entry * width)))
