-- A header whose length is lost (rules 11.6, 11.9 and 11.13): the length is made up, and stands before the types that begin at a start of a
-- payload.
-- Assumes nothing.
use Rattle.std.specs.Prelude.{ℕ, suc, ◌+◌, ◌-◌, ◌/◌, ◌%◌, cond, List, [], ◌∷◌, ◌++◌, leb, length, drop}
use Rattle.attempt.specs.Attempt.{Types, ended, cut, kind, types_from, Tried, miss, hit, attempt_at}
use Rattle.attempt.specs.Moved.{back}
use Rattle.record.specs.Places.{type_places}
use Rattle.rebuild.specs.declared.rebuilding.Rebuilding.{Rebuilding}
use Rattle.rebuild.specs.declared.rebuilding.Rebuilding.TheVariants.{NoGuesses, OneByte, Exact}
use Rattle.sheet.specs.Limits.{most_columns}

-- ---- the bytes of a header

-- the most bytes of types behind a length of one byte, which is then 127, and behind one of two, which is then 512
abbrev pub one_byte_types : ℕ
one_byte_types = 126

abbrev pub most_type_bytes : ℕ
most_type_bytes = 510

-- Rule 11.9: how many bytes a header's length has itself, by the bytes of its types,
abbrev pub own_bytes : ℕ → ℕ
own_bytes t = cond (leb t one_byte_types) 1 2

-- and these bytes, as SQLite writes that number: seven bits each, the higher first
abbrev pub length_bytes : ℕ → List ℕ
length_bytes t = cond (leb t one_byte_types) ((t + 1) ∷ []) ((128 + (t + 2) / 128) ∷ (t + 2) % 128 ∷ [])

-- Rule 11.10: the most columns of a table whose headers are rebuilt so
abbrev pub most_by : Rebuilding → ℕ
most_by NoGuesses = most_columns
most_by OneByte = one_byte_types
most_by Exact = most_columns

-- ---- the bytes of its types

-- how many they are, if there may be a header
pub data Guess : Type 0 where
  no_header : Guess
  takes : ℕ → Guess

-- Rule 11.9: so many types from v on; reading stops at the one that passes 510 bytes
abbrev pub exact_types : List ℕ → ℕ → ℕ → Types
exact_types d columns v = types_from columns d v (v + suc most_type_bytes)

-- Rule 11.11: and the bytes of the payload that are read for them
abbrev pub exact_places : List ℕ → ℕ → ℕ → List ℕ
exact_places d columns v = type_places columns d v (v + suc most_type_bytes)

-- Rule 11.9: the bytes of types that begin at v: there is no header if one runs off the payload, or if they are more than 510
abbrev pub taken_from : ℕ → Types → Guess
taken_from v (ended at) = cond (leb (at - v) most_type_bytes) (takes (at - v)) no_header
taken_from v cut = no_header
taken_from v (kind t rest) = taken_from v rest

-- Rule 11.13: without guesses no bytes make a header; rule 11.6: the one-byte mode has a byte for each column; rule 11.9: the exact mode
-- reads so many types. More columns than `most_by` are refused before a header is rebuilt (rule 11.10, `too_wide` of crate carving), so no
-- answer comes of this definition there.
unfoldable pub guessed : Rebuilding → List ℕ → ℕ → ℕ → Guess
guessed NoGuesses d columns v = no_header
guessed OneByte d columns v = takes columns
guessed Exact d columns v = taken_from v (exact_types d columns v)

-- ---- the row

-- what was found behind k made-up bytes, said of the bytes without them
abbrev pub without : ℕ → Tried → Tried
without k miss = miss
without k (hit x) = hit (record { consumed = x.consumed - k; matched = x.matched; columns = back k x.columns; padded = x.padded })

-- Rules 11.6 and 11.9: an attempt on the header's length, which is made up, before the bytes from v on
abbrev pub rebuilt_with : List ℕ → List ℕ → ℕ → Guess → Tried
rebuilt_with d hints v no_header = miss
rebuilt_with d hints v (takes t) = without (own_bytes t) (attempt_at (length_bytes t ++ drop v d) hints 0)

unfoldable pub rebuilt : Rebuilding → List ℕ → List ℕ → ℕ → Tried
rebuilt how d hints v = rebuilt_with d hints v (guessed how d (length hints) v)
