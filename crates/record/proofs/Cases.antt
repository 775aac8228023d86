-- Document 01's cases marked P on varints and values, and worked values of the file format, as one table that is computed at once.
-- Assumes nothing.
use Rattle.std.specs.Prelude.{Option, None, Some}
use Prim.Native.Nat.{ℕ, ◌-◌, ◌^◌}
use mathlib.Core.Path.{◌≡◌, refl}
use mathlib.Core.Bool.{true, false}
use mathlib.Core.List.{List, [], ◌∷◌, ◌++◌, map}
use lib.Count.{count_leading_zeros}
use lib.IntN.{ℤ, pos, neg_ℤ}
use lib.Ieee.{nan, inf, fin, of_bits}
use lib.ListN.{length, replicate}
use Rattle.record.specs.Entry.{bad_within, read_entry}
use Rattle.record.specs.Value.{body_length, big_endian, twos_complement, value_of, body_fits, decode_at}
use Rattle.record.specs.Varint.{width_of, varint_from, varint_at, read_varint}
use Rattle.record.specs.declared.entry.Entry.{Entry}
use Rattle.record.specs.Entry.{EntryRead}
use Rattle.record.specs.Value.{Decoded}
use Rattle.record.specs.declared.varint.Number.{Number}
use Rattle.record.specs.declared.record.Value.TheVariants.{Null, Int, Real, Text, Blob}

-- a question with the answer that it is to have
pub data Case : Type 0 where
  varint : List ℕ → Option Number → Case
  value : ℕ → List ℕ → Decoded → Case
  entry : Entry → List ℕ → EntryRead → Case

pub data Answer : Type 0 where
  read : Option Number → Answer
  decoded : Decoded → Answer
  seen : EntryRead → Answer

unfoldable pub expected : Case → Answer
expected (varint s a) = read a
expected (value t s a) = decoded a
expected (entry e s a) = seen a

unfoldable pub computed : Case → Answer
computed (varint s a) = read (read_varint s 0)
computed (value t s a) = decoded (decode_at t s 0)
computed (entry e s a) = seen (read_entry e s)

unfoldable pub words : ℕ → ℕ → ℕ → ℕ → Entry
words a b c d = record { state = a; kind = b; start = c; len = d }

-- marked P, but for those on integers
unfoldable pub marked : List Case
marked =
    varint (0x81 ∷ 0x00 ∷ []) (Some (record { value = 128; len = 2; padded = false }))
    ∷ varint (0x80 ∷ 0x02 ∷ []) (Some (record { value = 2; len = 2; padded = true }))
    ∷ varint (replicate 9 0xff) (Some (record { value = (2 ^ 64 - 1); len = 9; padded = false }))
    ∷ varint (0x81 ∷ []) None
    ∷ value 10 (0 ∷ 0 ∷ 0 ∷ []) None
    ∷ []

-- from the format's section 1.6 on varints and its table of serial types in section 2.1
unfoldable pub worked : List Case
worked =
    varint (0x7f ∷ []) (Some (record { value = 127; len = 1; padded = false }))
    ∷ varint (replicate 8 0x80 ++ (0xff ∷ [])) (Some (record { value = 255; len = 9; padded = true }))
    ∷ varint (replicate 8 0xff) None
    ∷ value 0 [] (Some (Null, 0))
    ∷ value 7 (0x3f ∷ 0xf0 ∷ replicate 6 0) (Some ((Real (fin false 1 (pos 0))), 8))
    ∷ value 7 (0xff ∷ 0xf0 ∷ replicate 6 0) (Some ((Real (inf true)), 8))
    ∷ value 7 (0x7f ∷ 0xf0 ∷ 0 ∷ 0 ∷ 0 ∷ 0 ∷ 0 ∷ 1 ∷ []) (Some ((Real nan), 8))
    ∷ value 8 [] (Some ((Int (pos 0)), 0))
    ∷ value 9 [] (Some ((Int (pos 1)), 0))
    ∷ value 11 (replicate 8 0) None
    ∷ value 12 [] (Some ((Blob 0 0), 0))
    ∷ value 17 (0x68 ∷ 0x69 ∷ []) (Some ((Text 0 2), 2))
    ∷ value 18 (1 ∷ 2 ∷ []) None
    ∷ value 2 (0x80 ∷ []) None
    ∷ []

-- an integer that takes all of the bytes
unfoldable pub int : ℕ → List ℕ → ℤ → Case
int t s z = value t s (Some ((Int z), (length s)))

unfoldable pub minus : ℕ → ℤ
minus n = neg_ℤ (pos n)

-- of every width the lowest value, -1, 0 and the highest, and -2 of six bytes; this and the lowest of one and of three bytes are marked P
unfoldable pub integers : List Case
integers =
    int 1 (0x80 ∷ []) (minus 128)
    ∷ int 1 (0xff ∷ []) (minus 1)
    ∷ int 1 (0x00 ∷ []) (pos 0)
    ∷ int 1 (0x7f ∷ []) (pos 127)
    ∷ int 2 (0x80 ∷ 0x00 ∷ []) (minus 32768)
    ∷ int 2 (replicate 2 0xff) (minus 1)
    ∷ int 2 (replicate 2 0x00) (pos 0)
    ∷ int 2 (0x7f ∷ 0xff ∷ []) (pos 32767)
    ∷ int 3 (0x80 ∷ replicate 2 0x00) (minus 8388608)
    ∷ int 3 (replicate 3 0xff) (minus 1)
    ∷ int 3 (replicate 3 0x00) (pos 0)
    ∷ int 3 (0x7f ∷ replicate 2 0xff) (pos 8388607)
    ∷ int 4 (0x80 ∷ replicate 3 0x00) (minus 2147483648)
    ∷ int 4 (replicate 4 0xff) (minus 1)
    ∷ int 4 (replicate 4 0x00) (pos 0)
    ∷ int 4 (0x7f ∷ replicate 3 0xff) (pos 2147483647)
    ∷ int 5 (0x80 ∷ replicate 5 0x00) (minus 140737488355328)
    ∷ int 5 (replicate 5 0xff ++ (0xfe ∷ [])) (minus 2)
    ∷ int 5 (replicate 6 0xff) (minus 1)
    ∷ int 5 (replicate 6 0x00) (pos 0)
    ∷ int 5 (0x7f ∷ replicate 5 0xff) (pos 140737488355327)
    ∷ int 6 (0x80 ∷ replicate 7 0x00) (minus 9223372036854775808)
    ∷ int 6 (replicate 8 0xff) (minus 1)
    ∷ int 6 (replicate 8 0x00) (pos 0)
    ∷ int 6 (0x7f ∷ replicate 7 0xff) (pos 9223372036854775807)
    ∷ []

-- numbers that are padded and that are not: of each width the first and the last in the bytes that they need, written out
unfoldable pub shortest : List Case
shortest =
    varint (0x00 ∷ []) (Some (record { value = 0; len = 1; padded = false }))
    ∷ varint (0x7f ∷ []) (Some (record { value = 127; len = 1; padded = false }))
    ∷ varint (0x81 ∷ 0x00 ∷ []) (Some (record { value = (2 ^ 7); len = 2; padded = false }))
    ∷ varint (0xff ∷ 0x7f ∷ []) (Some (record { value = (2 ^ 14 - 1); len = 2; padded = false }))
    ∷ varint (0x81 ∷ 0x80 ∷ 0x00 ∷ []) (Some (record { value = (2 ^ 14); len = 3; padded = false }))
    ∷ varint (replicate 2 0xff ++ (0x7f ∷ [])) (Some (record { value = (2 ^ 21 - 1); len = 3; padded = false }))
    ∷ varint (0x81 ∷ replicate 2 0x80 ++ (0x00 ∷ [])) (Some (record { value = (2 ^ 21); len = 4; padded = false }))
    ∷ varint (replicate 3 0xff ++ (0x7f ∷ [])) (Some (record { value = (2 ^ 28 - 1); len = 4; padded = false }))
    ∷ varint (0x81 ∷ replicate 3 0x80 ++ (0x00 ∷ [])) (Some (record { value = (2 ^ 28); len = 5; padded = false }))
    ∷ varint (replicate 4 0xff ++ (0x7f ∷ [])) (Some (record { value = (2 ^ 35 - 1); len = 5; padded = false }))
    ∷ varint (0x81 ∷ replicate 4 0x80 ++ (0x00 ∷ [])) (Some (record { value = (2 ^ 35); len = 6; padded = false }))
    ∷ varint (replicate 5 0xff ++ (0x7f ∷ [])) (Some (record { value = (2 ^ 42 - 1); len = 6; padded = false }))
    ∷ varint (0x81 ∷ replicate 5 0x80 ++ (0x00 ∷ [])) (Some (record { value = (2 ^ 42); len = 7; padded = false }))
    ∷ varint (replicate 6 0xff ++ (0x7f ∷ [])) (Some (record { value = (2 ^ 49 - 1); len = 7; padded = false }))
    ∷ varint (0x81 ∷ replicate 6 0x80 ++ (0x00 ∷ [])) (Some (record { value = (2 ^ 49); len = 8; padded = false }))
    ∷ varint (replicate 7 0xff ++ (0x7f ∷ [])) (Some (record { value = (2 ^ 56 - 1); len = 8; padded = false }))
    ∷ varint (0x80 ∷ 0xc0 ∷ replicate 6 0x80 ++ (0x00 ∷ [])) (Some (record { value = (2 ^ 56); len = 9; padded = false }))
    ∷ varint (replicate 9 0xff) (Some (record { value = (2 ^ 64 - 1); len = 9; padded = false }))
    ∷ []

-- and in one byte more, and in nine
unfoldable pub longer : List Case
longer =
    varint (0x80 ∷ 0x00 ∷ []) (Some (record { value = 0; len = 2; padded = true }))
    ∷ varint (0x80 ∷ 0x01 ∷ []) (Some (record { value = 1; len = 2; padded = true }))
    ∷ varint (0x80 ∷ 0x7f ∷ []) (Some (record { value = 127; len = 2; padded = true }))
    ∷ varint (0x80 ∷ 0x81 ∷ 0x00 ∷ []) (Some (record { value = (2 ^ 7); len = 3; padded = true }))
    ∷ varint (0x80 ∷ replicate 2 0xff ++ (0x7f ∷ [])) (Some (record { value = (2 ^ 21 - 1); len = 4; padded = true }))
    ∷ varint (replicate 8 0x80 ++ (0x00 ∷ [])) (Some (record { value = 0; len = 9; padded = true }))
    ∷ varint (0x80 ∷ 0xbf ∷ replicate 7 0xff) (Some (record { value = (2 ^ 56 - 1); len = 9; padded = true }))
    ∷ []

-- entries: read where they stand, refused where they reach one byte further
unfoldable pub entries : List Case
entries =
    entry (words 0 17 1 2) (0 ∷ 0x68 ∷ 0x69 ∷ []) (Some (Text 1 2))
    ∷ entry (words 0 17 2 2) (0 ∷ 0x68 ∷ 0x69 ∷ []) None
    ∷ entry (words 0 17 1 1) (0 ∷ 0x68 ∷ 0x69 ∷ []) None
    ∷ entry (words 0 10 0 0) (0 ∷ []) None
    ∷ entry (words 0 0 0 0) [] (Some Null)
    ∷ entry (words 0 0 1 0) [] None
    ∷ entry (words 1 23 0 0) [] (Some Null)
    ∷ entry (words 3 0 0 0) [] (Some Null)
    ∷ entry (words 4 0 0 0) [] None
    ∷ []

unfoldable pub cases : List Case
cases = marked ++ worked ++ integers ++ shortest ++ longer ++ entries

pub table : map computed cases ≡ map expected cases
unfolding cases marked worked integers int minus shortest longer entries words computed expected read_varint varint_at varint_from width_of count_leading_zeros decode_at body_fits body_length value_of twos_complement big_endian of_bits read_entry bad_within
table = refl
