-- The gap of a page, and the page whole.
-- Assumes nothing.
use Prim.Native.Nat.{ℕ, ◌+◌, ◌-◌, ◌≤◌, ◌<◌}
use mathlib.Core.Path.{◌≡◌}
use mathlib.Core.Bool.{false}
use mathlib.Core.List.{List, [], ◌++◌}
use borrow.Author.Tests.{le-leb, lt-leb, le-ltb, lt-ltb}
use lib.ListN.{length, take, drop}
use Rattle.gap.specs.Gap.{gap_from, gap_to, has_gap, region_hits, gap_hits, chain, blocks_hits, page_hits}
use Rattle.hit.specs.declared.inner.Spot.{Spot}
use Rattle.rebuild.specs.declared.rebuilding.Rebuilding.{Rebuilding}
use Rattle.sheet.proofs.Sheets.{adds_more, adds_stop}
use Rattle.sheet.specs.Inner.{Told, on, over, Adds}
use Rattle.sheet.specs.declared.inner.Sheet.{Sheet}

-- ---- a gap from `from` to `to`
module _ (page : List ℕ) (head : ℕ) (hints : List ℕ) (spot : Spot) (from to : ℕ) (begins : from ≡ gap_from page head) (ends : to ≡ gap_to page head) where
  pub gap_none : to ≤ from → gap_hits page head hints spot ≡ []
  unfolding gap_hits has_gap
  gap_none h = rw (← begins, ← ends) (simp (le-ltb from to h))

  pub gap_past : from < to → length page < to → gap_hits page head hints spot ≡ []
  unfolding gap_hits has_gap
  gap_past h p = rw (← begins, ← ends) (simp (lt-ltb from to h, lt-leb to (length page) p))

  pub gap_some : from < to → to ≤ length page → gap_hits page head hints spot ≡ region_hits spot from (take (to - from) (drop from page)) hints
  unfolding gap_hits has_gap
  gap_some h p = rw (← begins, ← ends) (simp (lt-ltb from to h, le-leb to (length page) p))

-- ---- a page
module _ (how : Rebuilding) (page : List ℕ) (head : ℕ) (hints : List ℕ) (spot : Spot) where
  pub page_short : length page < head + 8 → page_hits how page head hints spot ≡ []
  unfolding page_hits
  page_short h = simp (lt-ltb (length page) (head + 8) h)

  page_whole : head + 8 ≤ length page
      → page_hits how page head hints spot ≡ gap_hits page head hints spot ++ blocks_hits how page hints spot (chain page head)
  unfolding page_hits
  page_whole h = simp (le-ltb (length page) (head + 8) h)

  module _ (s s' : Sheet) (h : head + 8 ≤ length page) where
    pub page_full : Adds (gap_hits page head hints spot) false s over s' → Adds (page_hits how page head hints spot) false s over s'
    page_full x = rw (page_whole h) (adds_stop (gap_hits page head hints spot) (blocks_hits how page hints spot (chain page head)) s s' false false x)

    pub page_more : (r : Told) (s'' : Sheet) → Adds (gap_hits page head hints spot) false s (on s'.n) s'
        → Adds (blocks_hits how page hints spot (chain page head)) false s' r s'' → Adds (page_hits how page head hints spot) false s r s''
    page_more r s'' x y = rw (page_whole h) (adds_more (gap_hits page head hints spot) (blocks_hits how page hints spot (chain page head)) s s' s'' false r x y)
