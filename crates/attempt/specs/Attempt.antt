-- One attempt at an offset (rules 4.2 to 4.6).
-- Assumes nothing.
use Rattle.std.specs.Prelude.{ℕ, zero, suc, ◌+◌, ◌-◌, Bool, true, false, cond, ◌&&◌, List, [], ◌∷◌, length, ltb, leb, eqb, None, Some}
use Rattle.record.specs.Places.{header_padded}
use Rattle.record.specs.Value.{body_length}
use Rattle.record.specs.Varint.{varint_at}
use Rattle.record.specs.Value.{Length}
use Rattle.record.specs.Varint.{Varint}
use Rattle.attempt.specs.Hints.{suited}
use Rattle.sheet.specs.declared.columns.Column.{Column}
use Rattle.sheet.specs.declared.columns.Column.TheVariants.{Body}
use Rattle.sheet.specs.Limits.{most_header}

-- the longest row
abbrev pub most_bytes : ℕ
most_bytes = 65536

-- Of a region, `len` is its length: what has no more than that looks at none of its bytes.

-- Rule 4.2: a header's length h, read at o, is from 2 to 512 and no more than the bytes from o
unfoldable pub header_fits : ℕ → ℕ → ℕ → Bool
header_fits len o h = leb 2 h && (leb h most_header && leb h (len - o))

-- the types of a header, one after the other: up to a position that is at its end or behind, or up to one that runs off the slice
pub data Types : Type 0 where
  ended : ℕ → Types
  cut : Types
  kind : ℕ → Types → Types

-- Rule 4.3: the types from `at` on, until the position reaches stop; the last may run past it. The first argument bounds their number.
abbrev pub type_on : Varint → (ℕ → Types) → Types
type_on (Some (t, c)) rest = kind t (rest c.at)
type_on None rest = cut

unfoldable pub types_from : ℕ → List ℕ → ℕ → ℕ → Types
types_from zero s at stop = ended at
types_from (suc f) s at stop = cond (ltb at stop) (type_on (varint_at s at) (λ next. types_from f s next stop)) (ended at)

abbrev pub kinds : Types → List ℕ
kinds (ended at) = []
kinds cut = []
kinds (kind t rest) = t ∷ kinds rest

abbrev pub is_whole : Types → Bool
is_whole (ended at) = true
is_whole cut = false
is_whole (kind t rest) = is_whole rest

-- Rule 4.5: bodies one behind the other, each in the slice: their columns, and where the last one ends. Types 10 and 11 never fit.
pub data Bodies : Type 0 where
  unfit : Bodies
  laid : List Column → ℕ → Bodies

abbrev pub before : Column → Bodies → Bodies
before c unfit = unfit
before c (laid cs end) = laid (c ∷ cs) end

abbrev pub body_on : ℕ → ℕ → ℕ → (ℕ → Bodies) → Length → Bodies
body_on len at t rest (Some n) = cond (leb (at + n) len) (before (Body t at n) (rest (at + n))) unfit
body_on len at t rest None = unfit

unfoldable pub bodies_from : ℕ → ℕ → List ℕ → Bodies
bodies_from len at [] = laid [] at
bodies_from len at (t ∷ ts) = body_on len at t (λ next. bodies_from len next ts) (body_length t)

-- what an attempt finds: the bytes that the row takes, how many of its types suit their hints, its columns, and whether a number of its
-- header is padded
pub record Found : Type 0 where
  pub consumed : ℕ
  pub matched : ℕ
  pub columns : List Column
  pub padded : Bool

pub data Tried : Type 0 where
  miss : Tried
  hit : Found → Tried

-- Rule 4.6: a row takes at most 65,536 bytes, from its offset to the end of its last body; p is its header's mark, which decides nothing
abbrev pub sized : ℕ → ℕ → Bool → Bodies → Tried
sized o n p unfit = miss
sized o n p (laid cs end) =
    cond (leb (end - o) most_bytes) (hit (record { consumed = end - o; matched = n; columns = cs; padded = p })) miss

-- Rule 4.4: as many types as hints, and at least one that suits; then the bodies, which start at the header's end
unfoldable pub judged : ℕ → List ℕ → ℕ → ℕ → Bool → List ℕ → Tried
judged len hints o h p ts =
    cond (eqb (length ts) (length hints) && ltb 0 (suited hints ts)) (sized o (suited hints ts) p (bodies_from len (o + h) ts)) miss

-- a header whose types run off the slice is no row
abbrev pub judged_whole : ℕ → List ℕ → ℕ → ℕ → Bool → Types → Tried
judged_whole len hints o h p ts = cond (is_whole ts) (judged len hints o h p (kinds ts)) miss

abbrev pub attempt_with : List ℕ → List ℕ → ℕ → Varint → Tried
attempt_with s hints o (Some (h, c)) =
    cond (header_fits (length s) o h) (judged_whole (length s) hints o h (header_padded h s c (o + h)) (types_from h s c.at (o + h))) miss
attempt_with s hints o None = miss

unfoldable pub attempt_at : List ℕ → List ℕ → ℕ → Tried
attempt_at s hints o = attempt_with s hints o (varint_at s o)
