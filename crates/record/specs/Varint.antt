-- Varints of the SQLite file format, section 1.6 (rules 2.1 to 2.4 and 2.10).
-- Assumes nothing.
use Rattle.std.specs.Prelude.{ℕ, zero, suc, ◌+◌, ◌-◌, ◌*◌, ◌/◌, ◌%◌, ◌^◌, ◌≤◌, ◌≡◌, cond, List, length, get_or, ltb, false}
use Rattle.std.specs.Prelude.{Option, Some, None}
use Rattle.std.specs.Int.Count.{count_leading_zeros}
use Rattle.record.specs.declared.varint.Cursor.{Cursor}
use Rattle.record.specs.declared.varint.Number.{Number}

-- a cursor at a place, which has read nothing
abbrev pub fresh : ℕ → Cursor
fresh at = record { at = at; padded = false }

-- what reading a varint gives: the value, and the cursor behind its bytes; none where the slice ends before it does
abbrev pub Varint : Type 0
Varint = Option (ℕ × Cursor)

-- Rule 2.10: the place of a number's highest set bit, of 64; 0 has none, and has 0 here
abbrev pub highest_bit : ℕ → ℕ
highest_bit v = 63 - count_leading_zeros 64 v

-- Rule 2.10: the bytes of its shortest form: one for each seven bits, up to eight, and nine from 2^56 on
unfoldable pub width_of : ℕ → ℕ
width_of v = cond (ltb v (2 ^ 56)) (1 + highest_bit v / 7) 9

-- v was read from n bytes, the last of which stands before `at`: it is padded if it takes fewer in its shortest form
abbrev pub ended : ℕ → ℕ → ℕ → Varint
ended v n at = Some (v, record { at = at; padded = ltb (width_of v) n })

-- Rule 2.1: the bytes before `at` gave v, and k more may give seven bits each, before one that gives eight. A byte below 128 is the last.
unfoldable pub varint_from : List ℕ → ℕ → ℕ → ℕ → Varint
varint_from s at v zero = cond (ltb at (length s)) (ended (v * 256 + get_or s at 0) 9 (at + 1)) None
varint_from s at v (suc k) =
    cond (ltb at (length s))
    (cond (ltb (get_or s at 0) 128)
    (ended (v * 128 + get_or s at 0) (8 - k) (at + 1))
    (varint_from s (at + 1) (v * 128 + get_or s at 0 % 128) k))
    None

unfoldable pub varint_at : List ℕ → ℕ → Varint
varint_at s at = varint_from s at 0 8

-- Rule 2.2: the value, how many bytes it takes, and whether it is padded
abbrev pub taken : ℕ → Varint → Option Number
taken at (Some (v, c)) = Some (record { value = v; len = c.at - at; padded = c.padded })
taken at None = None

unfoldable pub read_varint : List ℕ → ℕ → Option Number
read_varint s at = taken at (varint_at s at)

-- ---- Rule 2.10, from the format: n bytes are the shortest form of v if no varint of fewer bytes, in any slice, has that value. A number
-- is marked just where this fails: `shortest_is` and `longer_is` (`proofs/Shortest.antt`).
abbrev pub Shortest : ℕ → ℕ → Type 0
Shortest v n = (s : List ℕ) (at : ℕ) (c : Cursor) → varint_at s at ≡ Some (v, c) → n ≤ c.at - at
