-- A case by its head, as oracle/README.md has it: words of eight bytes, the highest first.
-- Assumes nothing.
use Rattle.std.specs.Prelude.{ℕ, zero, suc, ◌+◌, ◌-◌, ◌*◌, Bool, true, cond, ◌&&◌, List, [], length, take, drop, ◌==◌, nat_le}
use Rattle.record.specs.Value.{big_endian}

-- the word at a place; 0 where the bytes end before it does
unfoldable pub word_at : List ℕ → ℕ → ℕ
word_at s at = cond (nat_le (at + 8) (length s)) (big_endian s at 8) 0

-- the i-th word of those from a first place on; 0 behind the last
abbrev pub word_of : ℕ → ℕ → List ℕ → ℕ → ℕ
word_of first last s i = cond (nat_le i last) (word_at s (first + 8 * i)) 0

-- the call's number, and whether the Rust was asked and agreed
abbrev pub call_of : List ℕ → ℕ
call_of s = word_at s 0

abbrev pub agreed_of : List ℕ → Bool
agreed_of s = word_at s 152 == 1

-- a number of the call, how many cells a list has, and where the name or a slice ends; 0 where a head has no such word
unfoldable pub number_of : List ℕ → ℕ → ℕ
number_of s i = cond (nat_le i 7) (word_at s (8 + 8 * i)) 0

unfoldable pub cells_of : List ℕ → ℕ → ℕ
cells_of s i = cond (nat_le i 3) (word_at s (120 + 8 * i)) 0

unfoldable pub end_of : List ℕ → ℕ → ℕ
end_of s i = cond (nat_le i 5) (word_at s (72 + 8 * i)) 0

-- the bytes from one place up to another; none where the case ends before
unfoldable pub part_of : List ℕ → ℕ → ℕ → List ℕ
part_of s from to = cond (nat_le to (length s)) (take (to - from) (drop from s)) []

abbrev pub name_of : List ℕ → List ℕ
name_of s = part_of s 160 (end_of s 0)

unfoldable pub slice_of : List ℕ → ℕ → List ℕ
slice_of s i = cond (nat_le i 4) (part_of s (end_of s i) (end_of s (i + 1))) []

-- the first n parts behind the name end where they begin, or behind that
unfoldable pub rises : List ℕ → ℕ → Bool
rises s zero = true
rises s (suc n) = rises s n && nat_le (end_of s n) (end_of s (n + 1))

unfoldable pub is_whole : List ℕ → Bool
is_whole s = rises s 5 && nat_le 160 (end_of s 0)
