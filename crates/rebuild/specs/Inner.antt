-- What the code carries between its own functions; nothing that a caller has to believe.
-- Assumes nothing.
use Rattle.std.specs.Prelude.{ℕ, suc, ◌+◌, ◌<◌, ◌≤◌, ◌≡◌, Bool, cond, List, leb, length, Option, Some, None, Result, Ok, Err}
use Rattle.attempt.specs.Attempt.{Found, Tried, miss, hit, kinds, most_bytes}
use Rattle.attempt.specs.Inner.{columns_at, find_types, HitIs, WholeIs}
use Rattle.attempt.specs.declared.inner.Find.{Find}
use Rattle.attempt.specs.declared.inner.Miss.{Miss}
use Rattle.attempt.specs.declared.inner.Walk.{Walk}
use Rattle.rebuild.specs.Header.{most_type_bytes, exact_types, rebuilt}
use Rattle.record.specs.Places.{types_padded}
use Rattle.rebuild.specs.declared.rebuilding.Rebuilding.{Rebuilding}
use Rattle.rebuild.specs.declared.rebuilding.Rebuilding.TheVariants.{Exact}

-- whether one of them is padded
abbrev pub exact_padded : List ℕ → ℕ → ℕ → Bool
exact_padded d columns v = types_padded columns d v (v + suc most_type_bytes)

-- as many types as hints from v on, of no more than 510 bytes: how many suit, the length of their bodies, where they end, and whether one
-- is padded
pub record Taken (d hints : List ℕ) (v matched total end : ℕ) (padded : Bool) : Type 0 where
  pub whole : WholeIs d hints (exact_types d (length hints) v) (exact_padded d (length hints) v) (length hints) matched total end padded
  pub past : v < end
  pub near : end ≤ v + most_type_bytes

abbrev pub ColumnsIs : List ℕ → List ℕ → ℕ → Option Walk → Type 0
ColumnsIs d hints v (Some w) = (w.count ≡ length hints) × Taken d hints v w.matched w.total w.end w.padded
ColumnsIs d hints v None = rebuilt Exact d hints v ≡ miss

-- a row that was found at v, said of the bytes from v on
abbrev pub found_from : List ℕ → ℕ → Find → Found
found_from d v x =
    record { consumed = x.consumed; matched = x.matched; columns = columns_at x.head (kinds (find_types d v x)); padded = x.padded }

-- with its made-up bytes it takes no more than a row may
abbrev pub short_by : ℕ → Result Find Miss → Option Find
short_by own (Ok x) = cond (leb (own + x.consumed) most_bytes) (Some x) None
short_by own (Err x) = None

-- the types that begin at v make a row
pub record RebuiltFound (how : Rebuilding) (d hints : List ℕ) (v : ℕ) (x : Find) : Type 0 where
  pub is : rebuilt how d hints v ≡ hit (found_from d v x)
  pub tried : Tried
  pub places : List ℕ
  pub found : HitIs d hints v tried places x

abbrev pub RebuiltIs : Rebuilding → List ℕ → List ℕ → ℕ → Option Find → Type 0
RebuiltIs how d hints v (Some x) = RebuiltFound how d hints v x
RebuiltIs how d hints v None = rebuilt how d hints v ≡ miss
