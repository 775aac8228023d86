-- Four of the properties of rule 4.17 have the others for consequences: a row that is the attempt at its offset lies inside and has a row's size
-- and confidence, and rows that do not overlap rise. So no two lists have all eight.
-- Assumes nothing.
use Prim.Native.Nat.{ℕ, ◌≤◌}
use mathlib.Core.Path.{◌≡◌}
use mathlib.Core.List.{List, [], ◌∷◌}
use native.Mathlib.Omega.{arith}
use lib.ListN.{length}
use Rattle.attempt.proofs.Laws.{hit_from, hit_takes, hit_matches}
use Rattle.scanlaws.proofs.Alone.{each, same_list}
use Rattle.scanlaws.specs.Only.{Placed, Rising, LieInside, Apart, Sized, Likely, AreAttempts, Only, Carrying}
use Rattle.sheet.proofs.Shares.{share_above, share_most}
use Rattle.sheet.specs.Limits.{most_columns}

module _ (s hints : List ℕ) where
  -- ---- what follows
  attempts_inside : (ps : List Placed) → AreAttempts s hints ps → LieInside s hints ps
  attempts_inside ps = each (λ p a. (hit_takes s hints p.at p.row a).1) ps

  attempts_sized : (ps : List Placed) → AreAttempts s hints ps → Sized s hints ps
  attempts_sized ps = each (λ p a. ((hit_takes s hints p.at p.row a).0, (hit_from s hints p.at p.row a).made.short)) ps

  attempts_likely : length hints ≤ most_columns → (ps : List Placed) → AreAttempts s hints ps → Likely s hints ps
  attempts_likely few ps =
      each
      (λ p a.
      let m = hit_matches s hints p.at p.row a in
      (share_above p.row.matched (length hints) m.0 m.1 few, share_most p.row.matched (length hints) m.0 m.1 few))
      ps

  apart_rising : (ps : List Placed) → AreAttempts s hints ps → Apart s hints ps → Rising s hints ps
  apart_rising [] a h = tt
  apart_rising (p ∷ ps) (a, rest) (h, hs) =
      let takes = (hit_takes s hints p.at p.row a).0 in
      (each (λ q l. omega arith) ps h, apart_rising ps rest hs)

  -- THE LAW: a list that has the four has all
  pub follows : length hints ≤ most_columns → (ps : List Placed) → Carrying s hints ps → Only s hints ps
  follows few ps c =
      record {
        rising = apart_rising ps c.attempts c.apart;
        below = c.below;
        inside = attempts_inside ps c.attempts;
        apart = c.apart;
        sized = attempts_sized ps c.attempts;
        likely = attempts_likely few ps c.attempts;
        attempts = c.attempts;
        others = c.others;
      }

  pub carried : (ps : List Placed) → Only s hints ps → Carrying s hints ps
  carried ps o = record { below = o.below; apart = o.apart; attempts = o.attempts; others = o.others }

  -- THE LAW: no other list has them
  pub no_other : (ps qs : List Placed) → Only s hints ps → Only s hints qs → ps ≡ qs
  no_other ps qs o u = same_list s hints ps qs (carried ps o) (carried qs u)
