-- Header places (rule 4.7): the bytes of a region that an attempt looks at to decide, as positions.
-- Assumes nothing.
use Rattle.std.specs.Prelude.{ℕ, ◌+◌, cond, List, [], ◌++◌, length, None, Some}
use Rattle.record.specs.Places.{varint_places, type_places}
use Rattle.record.specs.Varint.{varint_at}
use Rattle.record.specs.Varint.{Varint}
use Rattle.attempt.specs.Attempt.{header_fits}

-- the most bytes that an attempt reads: a header of 512, and eight behind it where its last type runs past the end
abbrev pub most_places : ℕ
most_places = 520

-- those of the types, if the header's length passed
abbrev pub places_behind : List ℕ → ℕ → Varint → List ℕ
places_behind s o (Some (h, c)) = cond (header_fits (length s) o h) (type_places h s c.at (o + h)) []
places_behind s o None = []

-- Rule 4.7: the bytes read for the header's length and, if that passed, for the types
unfoldable pub attempt_places : List ℕ → ℕ → List ℕ
attempt_places s o = varint_places s o ++ places_behind s o (varint_at s o)
