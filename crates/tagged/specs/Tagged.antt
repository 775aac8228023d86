-- A value as words: which kind it is, and the bits of a number.
-- Assumes nothing.
use Rattle.std.specs.Prelude.{ℕ, ◌-◌, ◌^◌, List, ℤ, pos, negsuc}
use Rattle.record.specs.Value.{big_endian}
use Rattle.record.specs.declared.record.Value.{Value}
use Rattle.record.specs.declared.record.Value.TheVariants.{Null, Int, Real, Text, Blob}

-- which of the five it is; 0 stands for none
abbrev pub tag_of : Value → ℕ
tag_of Null = 1
tag_of (Int z) = 2
tag_of (Real x) = 3
tag_of (Text start n) = 4
tag_of (Blob start n) = 5

-- two's complement in 64 bits, where negsuc n is -1 - n
unfoldable pub word_of : ℤ → ℕ
word_of (pos n) = n
word_of (negsuc n) = 2 ^ 64 - 1 - n

-- the bits of a number; those of a real are the eight bytes of its body, which is at `at`
abbrev pub bits_of : List ℕ → ℕ → Value → ℕ
bits_of s at Null = 0
bits_of s at (Int z) = word_of z
bits_of s at (Real x) = big_endian s at 8
bits_of s at (Text start n) = 0
bits_of s at (Blob start n) = 0
