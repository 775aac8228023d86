-- None of the four properties that carry rule 4.17 can be left out: for each there is a region with a list that has the other seven and not
-- that one, and so is another than the scan's. No region is smaller: in a shorter one the property follows from the others.
-- Assumes nothing.
use Prim.Native.Nat.{ℕ, ◌<◌}
use mathlib.Core.Path.{◌≡◌, refl, sym, ap, ◌∙◌}
use mathlib.Core.Bool.{false}
use mathlib.Core.List.{List, [], ◌∷◌}
use native.Mathlib.Omega.{arith}
use borrow.Author.Rules.{rules}
use lib.Count.{count_leading_zeros}
use lib.Dec.{T}
use lib.Ieee.{le}
use lib.Ieee.Positive.{positive}
use lib.ListN.{length}
use Rattle.attempt.proofs.Laws.{never, hit_takes}
use Rattle.attempt.specs.Attempt.{Found, hit, attempt_at, header_fits, types_from, bodies_from, judged}
use Rattle.attempt.specs.Hints.{is_integer, suits}
use Rattle.record.specs.Places.{types_padded}
use Rattle.record.specs.Value.{body_length}
use Rattle.record.specs.Varint.{varint_at, varint_from, width_of}
use Rattle.scanlaws.specs.Only.{Placed, Rising, StartBelow, Apart, AreAttempts, OthersFail, AllButBelow, AllButApart, AllButAttempts, AllButOthers}
use Rattle.sheet.proofs.Shares.{share_above, share_most}
use Rattle.sheet.specs.Confidence.{one, share}
use Rattle.sheet.specs.Limits.{integer_hint}
use Rattle.sheet.specs.declared.columns.Column.{Column}
use Rattle.sheet.specs.declared.columns.Column.TheVariants.{Body}

-- a table of one integer; what is found of a row that suits its hint and is not padded: the bytes that it takes, and its column
abbrev hints : List ℕ
hints = integer_hint ∷ []

abbrev find : ℕ → Column → Found
find consumed c = record { consumed = consumed; matched = 1; columns = c ∷ []; padded = false }

abbrev row : ℕ → Found → Placed
row o x = record { at = o; row = x }

-- a NULL in two bytes
abbrev two : List ℕ
two = 2 ∷ 0 ∷ []

abbrev last : List Placed
last = row 0 (find 2 (Body 0 2 0)) ∷ []

-- an integer of a byte, the 5; and the same row with its body a byte early, where its type stands
abbrev three : List ℕ
three = 2 ∷ 1 ∷ 5 ∷ []

abbrev plain : List Placed
plain = row 0 (find 3 (Body 1 2 1)) ∷ []

abbrev early : List Placed
early = row 0 (find 3 (Body 1 1 1)) ∷ []

-- an integer of two bytes, and a NULL that begins at its type
abbrev four : List ℕ
four = 2 ∷ 2 ∷ 0 ∷ 0 ∷ []

abbrev overlapping : List Placed
overlapping = row 0 (find 4 (Body 2 2 2)) ∷ row 1 (find 2 (Body 0 3 0)) ∷ []

-- what attempts find
computed : AreAttempts two hints last × AreAttempts three hints plain × AreAttempts four hints overlapping
unfolding attempt_at varint_at varint_from width_of count_leading_zeros header_fits types_from types_padded judged suits is_integer bodies_from body_length
computed = ((refl, tt), (refl, tt), (refl, (refl, tt)))

-- each has a confidence of 1 by 1
likely : T (positive (share 1 1)) × T (le (share 1 1) one)
likely = (share_above 1 1 (omega arith) (omega arith) (omega arith), share_most 1 1 (omega arith) (omega arith) (omega arith))

-- ---- a row in the last two bytes allowed
pub below_dropped : AllButBelow two hints last × (StartBelow two hints last → ⊥)
below_dropped = (
  (search rules, search rules, search rules, search rules, (likely, tt), computed.0, λ o l free. absurd (omega arith)),
  λ b. omega (arith, b.0),
)

pub below_least : (s hints : List ℕ) (ps : List Placed) → length s < 2 → AreAttempts s hints ps → StartBelow s hints ps
below_least s hints [] h a = tt
below_least s hints (p ∷ ps) h a = absurd (omega (arith, hit_takes s hints p.at p.row a.0))

-- ---- overlap allowed
pub apart_dropped : AllButApart four hints overlapping × (Apart four hints overlapping → ⊥)
apart_dropped = (
  (search rules, search rules, search rules, search rules, (likely, (likely, tt)), computed.2, λ o l free. absurd (free.0 (omega arith, omega arith))),
  λ a. omega (arith, a.0.0),
)

pub apart_least : (s hints : List ℕ) (ps : List Placed) → length s < 4 → Rising s hints ps → StartBelow s hints ps → Apart s hints ps
apart_least s hints [] h r b = tt
apart_least s hints (p ∷ []) h r b = (tt, tt)
apart_least s hints (p ∷ (q ∷ ps)) h r b = absurd (omega (arith, r.0.0, b.1.0))

-- ---- a row that is not the attempt at its offset
differ : hit (find 3 (Body 1 2 1)) ≡ hit (find 3 (Body 1 1 1)) → ⊥
differ e =
    let same : find 3 (Body 1 2 1) ≡ find 3 (Body 1 1 1) = cc in
    let columns = ap (λ (x : Found). x.columns) same in
    let starts : ◌≡◌ {A = ℕ} 2 1 = cc in
    omega arith

pub attempts_dropped : AllButAttempts three hints early × (AreAttempts three hints early → ⊥)
attempts_dropped = (
  (search rules, search rules, search rules, search rules, search rules, (likely, tt), λ o l free. absurd (free.0 (omega arith, omega arith))),
  λ a. differ (sym computed.1.0 ∙ a.0),
)

pub attempts_least : (s hints : List ℕ) (ps : List Placed) → length s < 3 → StartBelow s hints ps → AreAttempts s hints ps
attempts_least s hints [] h b = tt
attempts_least s hints (p ∷ ps) h b = absurd (omega (arith, b.0))

-- ---- offsets that no row covers not asked: the empty list
pub others_dropped : AllButOthers three hints [] × (OthersFail three hints [] → ⊥)
others_dropped = (search rules, λ f. never (sym (f 0 (omega arith) tt) ∙ computed.1.0))

pub others_least : (s hints : List ℕ) (ps : List Placed) → length s < 3 → OthersFail s hints ps
others_least s hints ps h o l free = absurd (omega arith)
