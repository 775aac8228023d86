-- What the code carries between its own functions; nothing that a caller has to believe.
-- Assumes nothing.
use Rattle.std.specs.Prelude.{ℕ, ◌+◌, ◌-◌, ◌*◌, ◌≤◌, ◌<◌, ◌≡◌, Bool, false, cond, ◌&&◌, List, ltb, eqb, get_or, Option, Some, None}
use Rattle.attempt.specs.Attempt.{miss}
use Rattle.rebuild.specs.Header.{rebuilt}
use Rattle.rebuild.specs.declared.rebuilding.Rebuilding.{Rebuilding}
use Rattle.rebuild.specs.declared.rebuilding.Rebuilding.TheVariants.{OneByte}
use Rattle.sheet.specs.Limits.{words_per_row}

-- the row k of a list is one of the first `cells`, and has that offset
unfoldable pub is_cell : List ℕ → ℕ → ℕ → ℕ → Bool
is_cell rows k cells offset = ltb k cells && eqb (get_or rows (k * words_per_row) 0) offset

-- where the record of the next cell starts: the offset of the row k, if it is one of the first `cells`
unfoldable pub next_cell : List ℕ → ℕ → ℕ → Option ℕ
next_cell rows k cells = cond (ltb k cells) (Some (get_or rows (k * words_per_row) 0)) None

-- it starts there
abbrev pub starts_at : Option ℕ → ℕ → Bool
starts_at (Some next) offset = eqb next offset
starts_at None offset = false

-- ---- starts that are passed over

-- of the bytes from v on and before `last`, the last from 128 up is that before r; or none is, and r is v
pub record BehindHigh (s : List ℕ) (v last r : ℕ) : Type 0 where
  pub on : v ≤ r
  pub near : r ≤ last
  pub high : v < r → 128 ≤ get_or s (r - 1) 0

-- from v on and before r, no types make a row
abbrev pub NoneFrom : Rebuilding → List ℕ → List ℕ → ℕ → ℕ → Type 0
NoneFrom how d hints v r = (u : ℕ) → v ≤ u → u < r → rebuilt how d hints u ≡ miss

pub record Passes (d hints : List ℕ) (v end r : ℕ) : Type 0 where
  pub on : v ≤ r
  pub near : r ≤ end
  pub none : NoneFrom OneByte d hints v r

-- before r, no start is that of the next cell's record
pub record Apart (next : Option ℕ) (offset starts r : ℕ) : Type 0 where
  pub near : r ≤ starts
  pub apart : (u : ℕ) → u < r → starts_at next (offset + u) ≡ false

-- both, from v on and before r
pub record StartIs (how : Rebuilding) (d hints : List ℕ) (next : Option ℕ) (offset v starts r : ℕ) : Type 0 where
  pub on : v ≤ r
  pub near : r ≤ starts
  pub apart : (u : ℕ) → v ≤ u → u < r → starts_at next (offset + u) ≡ false
  pub none : NoneFrom how d hints v r
