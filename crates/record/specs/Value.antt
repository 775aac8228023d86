-- Serial types of the SQLite file format, section 2.1 (rules 2.5 to 2.9).
-- Assumes nothing.
use Rattle.std.specs.Prelude.{◌+◌, ◌-◌, ◌*◌, ◌/◌, ◌%◌, ◌^◌, ◌||◌, [], ◌∷◌}
use Rattle.std.specs.Prelude.{ℕ, zero, suc, Bool, cond, List, ℤ, pos, length, get_or, ltb, leb, eqb, Option, Some, None}
use Rattle.std.proofs.Math.IntN.{sub_ℕ}
use Rattle.std.specs.Float.{binary64}
use Rattle.std.specs.Float.Ieee.{of_bits}
use Rattle.record.specs.declared.record.Value.{Value}
use Rattle.record.specs.declared.record.Value.TheVariants.{Null, Int, Real, Text, Blob}

-- how long a body is; none of a type that stands for nothing
abbrev pub Length : Type 0
Length = Option ℕ

-- a value, and how many bytes its body takes
abbrev pub Decoded : Type 0
Decoded = Option (Value × ℕ)

-- Rule 2.5: the body lengths of types 0 to 9
abbrev pub small_lengths : List ℕ
small_lengths = 0 ∷ 1 ∷ 2 ∷ 3 ∷ 4 ∷ 6 ∷ 8 ∷ 8 ∷ 0 ∷ 0 ∷ []

unfoldable pub body_length : ℕ → Length
body_length t =
    cond (ltb t 10) (Some (get_or small_lengths t 0))
    (cond (ltb t 12) None
    (cond (eqb (t % 2) 0) (Some ((t - 12) / 2)) (Some ((t - 13) / 2))))

-- Rule 2.6: the number that n bytes are, the highest first
unfoldable pub big_endian : List ℕ → ℕ → ℕ → ℕ
big_endian s at zero = 0
big_endian s at (suc n) = big_endian s at n * 256 + get_or s (at + n) 0

-- the unsigned value, less two to the width where the top bit is set: where twice the value reaches that
unfoldable pub twos_complement : ℕ → ℕ → ℤ
twos_complement bits v = cond (ltb (v + v) (2 ^ bits)) (pos v) (sub_ℕ v (2 ^ bits))

-- Rule 2.7: the value of type t whose body is the n bytes at `at`
unfoldable pub value_of : ℕ → List ℕ → ℕ → ℕ → Value
value_of t s at n =
    cond (eqb t 0) Null
    (cond (ltb t 7) (Int (twos_complement (8 * n) (big_endian s at n)))
    (cond (eqb t 7) (Real (of_bits binary64 (big_endian s at n)))
    (cond (ltb t 10) (Int (pos (t - 8)))
    (cond (eqb (t % 2) 0) (Blob at n) (Text at n)))))

-- Rule 2.8: types 0, 8 and 9 have no body; of any other type the body, an empty one too, lies in the slice
unfoldable pub body_fits : ℕ → ℕ → List ℕ → ℕ → Bool
body_fits t n s at = eqb t 0 || (eqb t 8 || (eqb t 9 || leb (at + n) (length s)))

-- Rule 2.9: the value with the bytes that its body takes, or none
abbrev pub decode_as : ℕ → List ℕ → ℕ → Length → Decoded
decode_as t s at (Some n) = cond (body_fits t n s at) (Some (value_of t s at n, n)) None
decode_as t s at None = None

unfoldable pub decode_at : ℕ → List ℕ → ℕ → Decoded
decode_at t s at = decode_as t s at (body_length t)

-- where a text or a blob lies, and how long it is; any other value takes no bytes
abbrev pub start_of : Value → ℕ
start_of Null = 0
start_of (Int z) = 0
start_of (Real x) = 0
start_of (Text at n) = at
start_of (Blob at n) = at

abbrev pub length_of : Value → ℕ
length_of Null = 0
length_of (Int z) = 0
length_of (Real x) = 0
length_of (Text at n) = n
length_of (Blob at n) = n

-- a value of a part of a slice, said of the slice: the part begins `by` bytes into it
abbrev pub moved_value : ℕ → Value → Value
moved_value by Null = Null
moved_value by (Int z) = Int z
moved_value by (Real x) = Real x
moved_value by (Text at n) = Text (by + at) n
moved_value by (Blob at n) = Blob (by + at) n
