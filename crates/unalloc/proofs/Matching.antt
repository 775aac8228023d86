-- How many types match: they are counted one after the other.
-- Assumes nothing.
use Prim.Native.Nat.{ℕ, ◌+◌, ◌≤◌, ◌<◌}
use mathlib.Core.Path.{◌≡◌}
use mathlib.Core.Bool.{Bool, true, false, cond}
use mathlib.Core.List.{List, [], ◌∷◌, ◌++◌}
use native.Mathlib.Nat.{div-le_of_le-mul}
use native.Mathlib.Omega.{arith}
use lib.ListN.{length}
use Rattle.unalloc.specs.Inner.{matches_at}
use Rattle.unalloc.specs.Learned.{matches, matched, matched_percent}

-- one type more
pub matched_one : (ls ts : List ℕ) (t : ℕ) → length ts < length ls → matched ls (ts ++ (t ∷ [])) ≡ matched ls ts + matches_at ls (length ts) t
matched_one [] ts t h = absurd (omega arith)
matched_one (l ∷ ls) [] t h = omega arith
matched_one (l ∷ ls) (u ∷ ts) t h = omega (arith, matched_one ls ts t (omega arith))

-- THE LAW: no more match than were learned, so the percent is never cut
pub matched_most : (ls ts : List ℕ) → matched ls ts ≤ length ls
matched_most [] [] = omega arith
matched_most [] (t ∷ ts) = omega arith
matched_most (l ∷ ls) [] = omega arith
matched_most (l ∷ ls) (t ∷ ts) = go (matches t l) (matched_most ls ts)
  where
    go : (b : Bool) → matched ls ts ≤ length ls → cond b 1 0 + matched ls ts ≤ length (l ∷ ls)
    go true h = omega arith
    go false h = omega arith

pub percent_most : (ls ts : List ℕ) → matched_percent (matched ls ts) (length ls) ≤ 100
percent_most ls ts = div-le_of_le-mul (length ls) (omega (arith, matched_most ls ts))
