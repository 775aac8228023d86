-- Demand 3 of a page's gap (rule 11.12), of the definitions: its rows rest on the header places of its scan alone.
-- Assumes nothing.
use Prim.Native.Nat.{ℕ, ◌+◌, ◌-◌, ◌≤◌}
use mathlib.Core.Path.{◌≡◌, refl, sym, ap, ◌∙◌}
use mathlib.Core.Bool.{Bool, true, false, cond}
use mathlib.Core.List.{List, [], ◌∷◌, map}
use native.Mathlib.Omega.{arith}
use lib.ListN.{length, take, drop, get_or, length-take, length-drop, get_or-eq_default}
use lib.Seq.{get_or-take, get_or-drop}
use Rattle.gap.specs.Gap.{gap_from, gap_to, has_gap, gap_of, run_hits, region_run, region_hits, gap_hits}
use Rattle.gaplaws.specs.GapSheet.{gap_places, AlikeGaps}
use Rattle.hit.specs.declared.inner.Spot.{Spot}
use Rattle.record.proofs.Numbers.{by_order}
use Rattle.record.specs.Places.{AgreeAt}
use Rattle.scan.proofs.SameRun.{run_same}
use Rattle.scan.specs.Scan.{all_places}

-- ---- agreeing in a part
module _ (x y : List ℕ) (by n : ℕ) where
  past : (s : List ℕ) (p : ℕ) → n ≤ p → get_or (take n s) p 0 ≡ 0
  past s p ge = get_or-eq_default (take n s) 0 {n = p} (omega (arith, length-take n s))

  -- THE LAW: at places of a part, where the lists agree at these places moved by where it begins
  pub agree_part : (ps : List ℕ) → AgreeAt x y (map (λ o. by + o) ps) → AgreeAt (take n (drop by x)) (take n (drop by y)) ps
  agree_part [] h = tt
  agree_part (p ∷ ps) h = (
    by_order p n
        (λ lt. rw (get_or-take n (drop by x) p 0 lt, get_or-take n (drop by y) p 0 lt, get_or-drop by x p 0, get_or-drop by y p 0) h.0)
        (λ ge. past (drop by x) p ge ∙ sym (past (drop by y) p ge)),
    agree_part ps h.1,
  )

-- ---- two regions
region_same : (hints x y : List ℕ) → length x ≡ length y → AgreeAt x y (all_places x (region_run x hints)) → (spot : Spot) (from : ℕ)
    → region_hits spot from x hints ≡ region_hits spot from y hints
unfolding region_hits
region_same hints x y same h spot from = rw (← same) (ap (run_hits spot (length hints) from) (sym (run_same x y same (length x) hints (length x) 0 0 h)))

-- ---- two pages
module _ (head : ℕ) (hints x y : List ℕ) (e : AlikeGaps head hints x y) where
  from_same : gap_from y head ≡ gap_from x head
  from_same = rw e.cells_same

  to_same : gap_to y head ≡ gap_to x head
  to_same = rw e.content_same

  has_same : has_gap y head ≡ has_gap x head
  unfolding has_gap
  has_same = rw (from_same, to_same, e.length_same)

  -- THE LAW: their gaps have the same rows with the same entries
  pub gap_same : (spot : Spot) → gap_hits x head hints spot ≡ gap_hits y head hints spot
  unfolding gap_hits gap_places
  gap_same spot = rw (has_same, from_same, to_same) (go (has_gap x head) e.places_agree)
    where
      from : ℕ
      from = gap_from x head

      n : ℕ
      n = gap_to x head - from

      same : length (gap_of x head) ≡ length (take n (drop from y))
      same = simp (length-take, length-drop) (rw e.length_same)

      go : (b : Bool) → AgreeAt x y (cond b (map (λ o. from + o) (all_places (gap_of x head) (region_run (gap_of x head) hints))) []) →
          cond b (region_hits spot from (gap_of x head) hints) [] ≡ cond b (region_hits spot from (take n (drop from y)) hints) []
      go true h = region_same hints (gap_of x head) (take n (drop from y)) same (agree_part x y from n (all_places (gap_of x head) (region_run (gap_of x head) hints)) h) spot from
      go false h = refl
