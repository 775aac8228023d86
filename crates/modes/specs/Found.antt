-- Rows that are read with no more to go by than a count of columns: types, their bodies, and the words that they make (rules 12.1 to
-- 12.3).
-- Assumes nothing.
use Rattle.std.specs.Prelude.{ℕ, zero, suc, ◌+◌, ◌-◌, Bool, cond, List, [], ◌∷◌, ◌++◌, ltb, leb, None, Some}
use Rattle.modes.specs.declared.inner.Style.{Style}
use Rattle.record.specs.Value.{body_length}
use Rattle.record.specs.Varint.{varint_at}
use Rattle.record.specs.Value.{Length}
use Rattle.record.specs.Varint.{Varint}
use Rattle.sheet.specs.declared.columns.Column.{Column}
use Rattle.sheet.specs.declared.columns.Column.TheVariants.{Body, Unfit, Lost, Unused}
use Rattle.sheet.specs.Hits.{Hit}

-- ---- types, and where reading them ended; or one of them runs off the slice
pub data Types : Type 0 where
  cut : Types
  read : List ℕ → ℕ → Types

abbrev pub type_before : ℕ → Types → Types
type_before t cut = cut
type_before t (read ts end) = read (t ∷ ts) end

abbrev pub type_on : Varint → (ℕ → Types) → Types
type_on (Some (t, c)) rest = type_before t (rest c.at)
type_on None rest = cut

-- Rule 12.1: so many types at the most, from `at` on, while the position is below stop; the last may run past it
unfoldable pub types_from : ℕ → List ℕ → ℕ → ℕ → Types
types_from zero s at stop = read [] at
types_from (suc most) s at stop = cond (ltb at stop) (type_on (varint_at s at) (λ next. types_from most s next stop)) (read [] at)

-- ---- bodies, in a slice of `len` bytes

-- Rule 12.2: a body of type t at `at`; one that does not fit, as none of type 10 or 11 does, has no place
abbrev pub column_of : ℕ → ℕ → ℕ → Length → Column
column_of len at t (Some n) = cond (leb (at + n) len) (Body t at n) (Unfit t)
column_of len at t None = Unfit t

unfoldable pub column_at : ℕ → ℕ → ℕ → Column
column_at len at t = column_of len at t (body_length t)

-- Rule 12.2: the next one starts behind a body, and where there is none at the same place
abbrev pub behind : ℕ → Column → ℕ
behind at (Body t start n) = at + n
behind at (Unfit t) = at
behind at Lost = at
behind at Unused = at

-- Rule 12.2: the columns of types whose first body is to start at `at`, and where the last body ends
unfoldable pub columns_from : ℕ → ℕ → List ℕ → List Column
columns_from len at [] = []
columns_from len at (t ∷ ts) = column_at len at t ∷ columns_from len (behind at (column_at len at t)) ts

unfoldable pub end_from : ℕ → ℕ → List ℕ → ℕ
end_from len at [] = at
end_from len at (t ∷ ts) = end_from len (behind at (column_at len at t)) ts

-- ---- rows

-- what the way of carving says of it, its place, where its bodies start, its types, and whether a number of its header is padded
pub record Found : Type 0 where
  pub style : Style
  pub at : ℕ
  pub start : ℕ
  pub types : List ℕ
  pub padded : Bool

pub data Tried : Type 0 where
  miss : Tried
  hit : Found → Tried

-- the columns that stand before those that were read
abbrev pub lost_columns : ℕ → List Column
lost_columns zero = []
lost_columns (suc n) = Lost ∷ lost_columns n

abbrev pub end_of : ℕ → Found → ℕ
end_of len x = end_from len x.start x.types

-- Rule 12.3: the row that is found in a slice of `len` bytes, the first of which has the absolute offset `base`
abbrev pub found_hit : ℕ → ℕ → Found → Hit
found_hit len base x =
    record {
      row =
          record {
            offset = base + x.at;
            consumed = end_of len x - x.at;
            id = None;
            source = x.style.source;
            confidence = x.style.confidence;
            mode = x.style.mode;
            table = 0;
            padded = x.padded;
          };
      columns = lost_columns x.style.lost ++ columns_from len x.start x.types;
    }

abbrev pub found_hits : ℕ → ℕ → List Found → List Hit
found_hits len base [] = []
found_hits len base (x ∷ xs) = found_hit len base x ∷ found_hits len base xs
