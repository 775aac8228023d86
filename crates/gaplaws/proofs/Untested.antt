-- Until K9 a gap of zeros was left out by a test of its own. A region of zeros has no rows, so without the test every page has the rows that it had.
-- Assumes nothing.
use Prim.Native.Nat.{ℕ, ◌+◌}
use mathlib.Core.Path.{◌≡◌, refl, sym, ap, ◌∙◌}
use mathlib.Core.Bool.{Bool, true, false, cond, not, ◌&&◌}
use mathlib.Core.List.{List, [], ◌∷◌, ◌++◌}
use native.Mathlib.Omega.{arith}
use borrow.Author.Tests.{eqb-true}
use lib.Dec.{eqb, ltb}
use lib.ListN.{length}
use Rattle.cells.specs.Values.{in_slice}
use Rattle.gap.specs.Gap.{gap_from, has_gap, gap_of, run_hits, region_hits, gap_hits, chain, blocks_hits, page_hits}
use Rattle.gap.specs.Values.{rows_values, region_values, gap_values, blocks_values, page_values}
use Rattle.hit.specs.declared.inner.Spot.{Spot}
use Rattle.rebuild.specs.declared.rebuilding.Rebuilding.{Rebuilding}
use Rattle.record.specs.declared.record.Value.{Value}
use Rattle.scan.specs.Scan.{Run, through, no_room, missed, found}
use Rattle.scanlaws.proofs.Resuming.{run}
use Rattle.scanlaws.proofs.Zeros.{zeros_none}
use Rattle.scanlaws.specs.Listed.{placed, zeros}
use Rattle.sheet.specs.Hits.{Hit}

-- ---- a region of zeros

no_hits : (spot : Spot) (columns from : ℕ) (t : Run) → placed t ≡ [] → run_hits spot columns from t ≡ []
no_hits spot columns from through e = refl
no_hits spot columns from (no_room o) e = refl
no_hits spot columns from (missed o t) e = no_hits spot columns from t e
no_hits spot columns from (found o x t) e = absurd (let z = ap length e in omega arith)

no_values : (s : List ℕ) (t : Run) → placed t ≡ [] → rows_values s t ≡ []
no_values s through e = refl
no_values s (no_room o) e = refl
no_values s (missed o t) e = no_values s t e
no_values s (found o x t) e = absurd (let z = ap length e in omega arith)

module _ (n : ℕ) (hints : List ℕ) where
  abbrev scanned : Run
  scanned = run (zeros n) hints (length (zeros n)) 0

  none : placed scanned ≡ []
  none = (zeros_none n hints (length (zeros n))).0

  -- THE LAW: it has no rows,
  pub zeros_no_hits : (spot : Spot) (from : ℕ) → region_hits spot from (zeros n) hints ≡ []
  unfolding region_hits
  zeros_no_hits spot from = no_hits spot (length hints) from scanned none

  -- THE LAW: and no values
  pub zeros_no_values : region_values (zeros n) hints ≡ []
  unfolding region_values
  zeros_no_values = no_values (zeros n) scanned none

-- ---- the definitions as they were

abbrev pub all_zero : List ℕ → Bool
all_zero [] = true
all_zero (b ∷ bs) = eqb b 0 && all_zero bs

abbrev pub tested_hits : List ℕ → ℕ → List ℕ → Spot → List Hit
tested_hits page head hints spot =
    cond (has_gap page head && not (all_zero (gap_of page head))) (region_hits spot (gap_from page head) (gap_of page head) hints) []

abbrev pub tested_values : List ℕ → ℕ → List ℕ → List (List Value)
tested_values page head hints = cond (has_gap page head && not (all_zero (gap_of page head))) (region_values (gap_of page head) hints) []

abbrev pub tested_page_hits : Rebuilding → List ℕ → ℕ → List ℕ → Spot → List Hit
tested_page_hits how page head hints spot =
    cond (ltb (length page) (head + 8)) [] (tested_hits page head hints spot ++ blocks_hits how page hints spot (chain page head))

abbrev pub tested_page_values : Rebuilding → ℕ → List ℕ → ℕ → List ℕ → List (List Value)
tested_page_values how start page head hints =
    cond (ltb (length page) (head + 8)) []
    (in_slice (start + gap_from page head) (tested_values page head hints) ++ blocks_values how start page hints (chain page head))

-- ---- they are those that stand
all_zeros : (s : List ℕ) → all_zero s ≡ true → s ≡ zeros (length s)
all_zeros [] e = refl
all_zeros (b ∷ bs) e = go (eqb b 0) refl e (all_zeros bs)
  where
    go : (t : Bool) → eqb b 0 ≡ t → (t && all_zero bs) ≡ true → (all_zero bs ≡ true → bs ≡ zeros (length bs)) → b ∷ bs ≡ 0 ∷ zeros (length bs)
    go true f d rest = let first = eqb-true b 0 f in let others = rest d in cc
    go false f d rest = absurd (let z : ◌≡◌ {A = ℕ} 0 1 = cc in omega arith)

-- the test changes nothing in what zeros have none of
untested : {A : Type 0} (of : List ℕ → List A) → ((n : ℕ) → of (zeros n) ≡ []) → (is : Bool) (s : List ℕ) → cond (is && not (all_zero s)) (of s) [] ≡ cond is (of s) []
untested of none is s = go is (all_zero s) refl
  where
    go : (a b : Bool) → all_zero s ≡ b → cond (a && not b) (of s) [] ≡ cond a (of s) []
    go true true e = sym (ap of (all_zeros s e) ∙ none (length s))
    go true false e = refl
    go false b e = refl

module _ (page : List ℕ) (head : ℕ) (hints : List ℕ) where
  -- THE LAW: on every page the gap has the same hits,
  pub same_hits : (spot : Spot) → tested_hits page head hints spot ≡ gap_hits page head hints spot
  unfolding gap_hits
  same_hits spot =
      untested (λ s. region_hits spot (gap_from page head) s hints) (λ n. zeros_no_hits n hints spot (gap_from page head)) (has_gap page head) (gap_of page head)

  -- THE LAW: and the same values,
  pub same_values : tested_values page head hints ≡ gap_values page head hints
  unfolding gap_values
  same_values = untested (λ s. region_values s hints) (λ n. zeros_no_values n hints) (has_gap page head) (gap_of page head)

  -- and so has the page
  pub same_page_hits : (how : Rebuilding) (spot : Spot) → tested_page_hits how page head hints spot ≡ page_hits how page head hints spot
  unfolding page_hits
  same_page_hits how spot = rw (same_hits spot)

  pub same_page_values : (how : Rebuilding) (start : ℕ) → tested_page_values how start page head hints ≡ page_values how start page head hints
  unfolding page_values
  same_page_values how start = rw same_values
