-- Worked digits as one table that is computed at once.
-- Assumes nothing.
use Prim.Native.Nat.{ℕ}
use mathlib.Core.Path.{◌≡◌, refl}
use mathlib.Core.List.{List, [], ◌∷◌, ◌++◌, map}
use Rattle.digits.specs.Digits.{decimal_from, decimal, hex_digit, hex8}

-- a number, with its decimal digits and the last eight hexadecimal ones
data Case : Type 0 where
  writes : ℕ → List ℕ → List ℕ → Case

computed : Case → List ℕ
computed (writes n ten sixteen) = decimal n ++ hex8 n

expected : Case → List ℕ
expected (writes n ten sixteen) = ten ++ sixteen

cases : List Case
cases =
    -- `0`, `9` and `10`
    writes 0 (48 ∷ []) (48 ∷ 48 ∷ 48 ∷ 48 ∷ 48 ∷ 48 ∷ 48 ∷ 48 ∷ [])
    ∷ writes 9 (57 ∷ []) (48 ∷ 48 ∷ 48 ∷ 48 ∷ 48 ∷ 48 ∷ 48 ∷ 57 ∷ [])
    ∷ writes 10 (49 ∷ 48 ∷ []) (48 ∷ 48 ∷ 48 ∷ 48 ∷ 48 ∷ 48 ∷ 48 ∷ 65 ∷ [])
    -- the bits of 0.9 in binary32: `1063675494`, `3F666666`
    ∷ writes 1063675494
    (49 ∷ 48 ∷ 54 ∷ 51 ∷ 54 ∷ 55 ∷ 53 ∷ 52 ∷ 57 ∷ 52 ∷ [])
    (51 ∷ 70 ∷ 54 ∷ 54 ∷ 54 ∷ 54 ∷ 54 ∷ 54 ∷ [])
    -- the largest word has twenty digits: `18446744073709551615`
    ∷ writes 18446744073709551615
    (49 ∷ 56 ∷ 52 ∷ 52 ∷ 54 ∷ 55 ∷ 52 ∷ 52 ∷ 48 ∷ 55 ∷ 51 ∷ 55 ∷ 48 ∷ 57 ∷ 53 ∷ 53 ∷ 49 ∷ 54 ∷ 49 ∷ 53 ∷ [])
    (70 ∷ 70 ∷ 70 ∷ 70 ∷ 70 ∷ 70 ∷ 70 ∷ 70 ∷ [])
    ∷ []

table : map computed cases ≡ map expected cases
unfolding computed expected cases decimal_from decimal hex_digit hex8
table = refl
