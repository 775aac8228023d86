-- Confidence, an f32: which share of a row's columns its values suit, what is left of it where the row was not read whole, and its percent.
-- Assumes nothing.
use Rattle.std.specs.Prelude.{ℕ, pos, Float}
use Rattle.std.specs.Float.{binary32}
use Rattle.std.specs.Float.Ieee.{of_bits, of_int, mul, div, to_unsigned}

-- the f32 nearest to 0.6
abbrev pub six_tenths : Float
six_tenths = of_bits binary32 0x3f19999a

-- the f32 nearest to 0.9
abbrev pub nine_tenths : Float
nine_tenths = of_bits binary32 0x3f666666

-- 1
abbrev pub one : Float
one = of_bits binary32 0x3f800000

-- 100
abbrev pub hundred : Float
hundred = of_bits binary32 0x42c80000

-- Rule 5.4: s suited of c columns, one f32 division
unfoldable pub share : ℕ → ℕ → Float
share s c = div binary32 (of_int binary32 (pos s)) (of_int binary32 (pos c))

-- Rule 5.4: the confidence x times 0.6, rounded to f32
unfoldable pub freed_share : Float → Float
freed_share x = mul binary32 x six_tenths

-- Rule 5.4: the confidence x times 0.9, rounded to f32
unfoldable pub rebuilt_share : Float → Float
rebuilt_share x = mul binary32 x nine_tenths

-- Rule 5.5: the confidence x times 100, rounded to f32, then cut down as Rust's `as u8` does, so a NaN is 0, and the answer is from 0 to
-- 255
unfoldable pub percent_of : Float → ℕ
percent_of x = to_unsigned 8 (mul binary32 x hundred)
