-- What is said of a list of a region's rows (rule 4.17): the properties that the list of its scan has, and no other. None of them speaks
-- of a scan.
-- Assumes nothing.
use Rattle.std.specs.Prelude.{ℕ, ◌+◌, ◌-◌, ◌≤◌, ◌<◌, ◌≡◌, List, [], ◌∷◌, T, Float, length}
use Rattle.std.specs.Float.Ieee.{le}
use Rattle.std.specs.Float.Ieee.Positive.{positive}
use Rattle.attempt.specs.Attempt.{Found, miss, hit, attempt_at, most_bytes}
use Rattle.sheet.specs.Confidence.{one, share}

-- a row: its offset in the region, and what is found there
pub record Placed : Type 0 where
  pub at : ℕ
  pub row : Found

-- the first byte behind it
abbrev pub end : Placed → ℕ
end p = p.at + p.row.consumed

abbrev pub Covers : Placed → ℕ → Type 0
Covers p o = (p.at ≤ o) × (o < end p)

-- Rule 4.9: suited by columns
abbrev pub confidence : List ℕ → Placed → Float
confidence hints p = share p.row.matched (length hints)

-- of each row of a list; of each two, the one that stands before the other first
abbrev pub Each : (Placed → Type 0) → List Placed → Type 0
Each P [] = Unit
Each P (p ∷ ps) = P p × Each P ps

abbrev pub EachTwo : (Placed → Placed → Type 0) → List Placed → Type 0
EachTwo P [] = Unit
EachTwo P (p ∷ ps) = Each (P p) ps × EachTwo P ps

-- ---- the properties of a list, over a region and hints
module _ (s hints : List ℕ) (ps : List Placed) where
  -- rows rise by their offsets
  abbrev pub Rising : Type 0
  Rising = EachTwo (λ p q. p.at < q.at) ps

  -- no row starts in the last two bytes
  abbrev pub StartBelow : Type 0
  StartBelow = Each (λ p. p.at < length s - 2) ps

  -- each lies in the region
  abbrev pub LieInside : Type 0
  LieInside = Each (λ p. end p ≤ length s) ps

  -- no row starts before one in front of it ends
  abbrev pub Apart : Type 0
  Apart = EachTwo (λ p q. end p ≤ q.at) ps

  -- each takes 2 to 65,536 bytes
  abbrev pub Sized : Type 0
  Sized = Each (λ p. (2 ≤ p.row.consumed) × (p.row.consumed ≤ most_bytes)) ps

  -- its confidence is above 0, and 1 at the most
  abbrev pub Likely : Type 0
  Likely = Each (λ p. T (positive (confidence hints p)) × T (le (confidence hints p) one)) ps

  -- it is what the attempt at its offset finds
  abbrev pub AreAttempts : Type 0
  AreAttempts = Each (λ p. attempt_at s hints p.at ≡ hit p.row) ps

  -- at an offset that no row covers the attempt fails
  abbrev pub OthersFail : Type 0
  OthersFail = (o : ℕ) → o < length s - 2 → Each (λ p. Covers p o → ⊥) ps → attempt_at s hints o ≡ miss

  -- Rule 4.17: all of them, in the order of the request
  pub record Only : Type 0 where
    pub rising : Rising
    pub below : StartBelow
    pub inside : LieInside
    pub apart : Apart
    pub sized : Sized
    pub likely : Likely
    pub attempts : AreAttempts
    pub others : OthersFail

  -- the four from which the others follow
  pub record Carrying : Type 0 where
    pub below : StartBelow
    pub apart : Apart
    pub attempts : AreAttempts
    pub others : OthersFail

  -- all but one of these four
  abbrev pub AllButBelow : Type 0
  AllButBelow = Rising × LieInside × Apart × Sized × Likely × AreAttempts × OthersFail

  abbrev pub AllButApart : Type 0
  AllButApart = Rising × StartBelow × LieInside × Sized × Likely × AreAttempts × OthersFail

  abbrev pub AllButAttempts : Type 0
  AllButAttempts = Rising × StartBelow × LieInside × Apart × Sized × Likely × OthersFail

  abbrev pub AllButOthers : Type 0
  AllButOthers = Rising × StartBelow × LieInside × Apart × Sized × Likely × AreAttempts

-- a list that has all of them, and is the only one
pub record OnlyList (s hints : List ℕ) : Type 0 where
  pub list : List Placed
  pub has : Only s hints list
  pub alone : (ps : List Placed) → Only s hints ps → ps ≡ list
