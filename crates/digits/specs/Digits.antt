-- Numbers as text, in ASCII bytes.
-- Assumes nothing.
use Rattle.std.specs.Prelude.{ℕ, zero, suc, ◌+◌, ◌/◌, ◌%◌, cond, List, [], ◌∷◌, ◌++◌, ltb}

-- 20 digits hold every word
abbrev pub most_digits : ℕ
most_digits = 20

-- of a confidence, 32 bits, there are 8
abbrev pub hex_digits : ℕ
hex_digits = 8

-- the decimal digits of n: those of n / 10, where n is 10 or more, and then the last one. The first argument bounds their number
unfoldable pub decimal_from : ℕ → ℕ → List ℕ
decimal_from zero n = []
decimal_from (suc f) n = cond (ltb n 10) [] (decimal_from f (n / 10)) ++ (48 + n % 10) ∷ []

unfoldable pub decimal : ℕ → List ℕ
decimal n = decimal_from most_digits n

-- a number, and the blank that ends its field
abbrev pub field : ℕ → List ℕ
field n = decimal n ++ 32 ∷ []

-- the last hexadecimal digit of n: `0` to `9`, then `A` to `F`
unfoldable pub hex_digit : ℕ → ℕ
hex_digit n = cond (ltb (n % 16) 10) (48 + n % 16) (55 + n % 16)

-- the last eight of them
unfoldable pub hex8 : ℕ → List ℕ
hex8 n =
    hex_digit (n / 0x10000000)
    ∷ hex_digit (n / 0x1000000)
    ∷ hex_digit (n / 0x100000)
    ∷ hex_digit (n / 0x10000)
    ∷ hex_digit (n / 0x1000)
    ∷ hex_digit (n / 0x100)
    ∷ hex_digit (n / 0x10)
    ∷ hex_digit n
    ∷ []
