-- Worked cases as a table that is computed at once: what both modes make of the first byte of a payload.
-- Assumes nothing.
use Prim.Native.Nat.{ℕ}
use mathlib.Core.Path.{◌≡◌, refl}
use mathlib.Core.Bool.{cond}
use mathlib.Core.List.{List, [], ◌∷◌, ◌++◌, map}
use lib.Count.{count_leading_zeros}
use lib.ListN.{replicate}
use Rattle.attempt.specs.Attempt.{Tried, miss, hit, header_fits, types_from, bodies_from, judged, attempt_at}
use Rattle.attempt.specs.Hints.{is_integer, is_real, is_text, is_blob, suits}
use Rattle.rebuild.specs.Header.{guessed, rebuilt}
use Rattle.rebuild.specs.declared.rebuilding.Rebuilding.TheVariants.{OneByte, Exact}
use Rattle.record.specs.Value.{body_length, big_endian}
use Rattle.record.specs.Places.{types_padded}
use Rattle.record.specs.Varint.{width_of, varint_from, varint_at}
use Rattle.sheet.specs.Columns.{column_words}
use Rattle.sheet.specs.Sheet.{columns_words}

-- a reading of the customer's: plot 42, depth 3.125 and moisture 0.5 as reals, and a note of 60 bytes, whose type takes two bytes
depth : List ℕ
depth = 0x40 ∷ 0x09 ∷ replicate 6 0

moisture : List ℕ
moisture = 0x3f ∷ 0xe0 ∷ replicate 6 0

note : List ℕ
note = replicate 60 0x61

-- its types and bodies as a freed block keeps them, without the header's length: the note last, and the note before the depth
note_last : List ℕ
note_last = 0x01 ∷ 0x07 ∷ 0x07 ∷ 0x81 ∷ 0x05 ∷ 0x2a ∷ depth ++ moisture ++ note

note_first : List ℕ
note_first = 0x01 ∷ 0x81 ∷ 0x05 ∷ 0x07 ∷ 0x07 ∷ 0x2a ∷ note ++ depth ++ moisture

-- bytes consumed, types that suit, whether one is padded, and the columns' entries
words : Tried → List ℕ
words miss = []
words (hit x) = x.consumed ∷ x.matched ∷ cond x.padded 1 0 ∷ columns_words x.columns

-- hints, a payload, and what each mode makes of it
record Case : Type 0 where
  hints : List ℕ
  payload : List ℕ
  one : List ℕ
  exact : List ℕ

-- an entry whose body is there
body : ℕ → ℕ → ℕ → List ℕ
body t start n = 0 ∷ t ∷ start ∷ n ∷ []

-- The fault that the customer's reader had: with the note last, the one-byte mode has each body one byte early, and takes the type's second byte for the
-- plot; the exact mode has the depth at 6 and the note at 22. With the note in between the one-byte mode misses the row. A padded type that both modes take,
-- and one whose body only the one-byte mode finds: its list is no part of the exact one's. Types of one byte each, where both are the same.
cases : List Case
cases =
    record {
      hints = 0 ∷ 1 ∷ 1 ∷ 2 ∷ [];
      payload = note_last;
      one = 81 ∷ 4 ∷ 0 ∷ body 1 4 1 ++ body 7 5 8 ++ body 7 13 8 ++ body 133 21 60;
      exact = 82 ∷ 4 ∷ 0 ∷ body 1 5 1 ++ body 7 6 8 ++ body 7 14 8 ++ body 133 22 60;
    }
    ∷ record {
      hints = 0 ∷ 2 ∷ 1 ∷ 1 ∷ [];
      payload = note_first;
      one = [];
      exact = 82 ∷ 4 ∷ 0 ∷ body 1 5 1 ++ body 133 6 60 ++ body 7 66 8 ++ body 7 74 8;
    }
    ∷ record { hints = 0 ∷ []; payload = 0x80 ∷ 0x08 ∷ []; one = 1 ∷ 1 ∷ 1 ∷ body 8 1 0; exact = 2 ∷ 1 ∷ 1 ∷ body 8 2 0 }
    ∷ record { hints = 0 ∷ []; payload = 0x80 ∷ 0x01 ∷ []; one = 2 ∷ 1 ∷ 1 ∷ body 1 1 1; exact = [] }
    ∷ record { hints = 0 ∷ 2 ∷ []; payload = 0x01 ∷ 0x0f ∷ 0x2a ∷ 0x61 ∷ []; one = 4 ∷ 2 ∷ 0 ∷ body 1 2 1 ++ body 15 3 1; exact = 4 ∷ 2 ∷ 0 ∷ body 1 2 1 ++ body 15 3 1 }
    ∷ []

computed : Case → List (List ℕ)
computed c = words (rebuilt OneByte c.payload c.hints 0) ∷ words (rebuilt Exact c.payload c.hints 0) ∷ []

expected : Case → List (List ℕ)
expected c = c.one ∷ c.exact ∷ []

table : map computed cases ≡ map expected cases
unfolding cases computed expected body words note_last note_first depth moisture note rebuilt guessed attempt_at judged bodies_from types_from header_fits suits is_integer is_real is_text is_blob varint_at varint_from width_of count_leading_zeros types_padded body_length column_words
table = refl

-- the depth's bits: where the one-byte mode has them, and where they are
depths : ◌≡◌ {A = List ℕ} (big_endian note_last 5 8 ∷ big_endian note_last 6 8 ∷ []) (0x2a40090000000000 ∷ 0x4009000000000000 ∷ [])
unfolding note_last depth moisture note big_endian
depths = refl
