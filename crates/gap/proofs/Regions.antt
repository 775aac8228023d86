-- A region scanned as by the scan, attempt by attempt: there is always room in the definition, since no more rows were found than bytes passed.
-- Assumes nothing.
use Prim.Native.Nat.{ℕ, zero, suc, ◌+◌, ◌-◌, ◌≤◌, ◌<◌}
use mathlib.Core.Path.{◌≡◌}
use mathlib.Core.Bool.{false}
use mathlib.Core.List.{List, [], ◌∷◌}
use native.Mathlib.Omega.{arith}
use lib.ListN.{length}
use Rattle.attempt.proofs.Laws.{hit_takes}
use Rattle.attempt.specs.Attempt.{Found, miss, hit, attempt_at}
use Rattle.filter.proofs.Laws.{misses_keep}
use Rattle.filter.specs.Inner.{MissBetween, ThroughIs}
use Rattle.gap.specs.Gap.{region_hit, run_hits, region_hits}
use Rattle.cells.proofs.Along.{Along, along_start, along_end, along_on, along_full}
use Rattle.hit.specs.declared.inner.Spot.{Spot}
use Rattle.record.proofs.Numbers.{by_order}
use Rattle.scan.proofs.Laws.{scan_missed, scan_found, scan_end}
use Rattle.scan.specs.Scan.{scan_from}
use Rattle.sheet.specs.Hits.{Hit}
use Rattle.sheet.specs.Inner.{on, over, Adds}
use Rattle.sheet.specs.declared.inner.Sheet.{Sheet}

module _ (s : List ℕ) (from : ℕ) (hints : List ℕ) (spot : Spot) where
  -- the hits of what is left of a run, from o on and with k rows before it
  abbrev left_hits : ℕ → ℕ → ℕ → List Hit
  left_hits f o k = run_hits spot (length hints) from (scan_from f s hints (length s) o k)

  -- fuel for what is left, and as many rows as were found
  pub record Scanning (s₀ sheet : Sheet) (o : ℕ) : Type 0 where
    pub fuel : ℕ
    pub rows_found_lem : ℕ
    pub enough : length s ≤ o + fuel
    pub few : rows_found_lem ≤ o
    pub along : Along s₀ (region_hits spot from s hints) (left_hits fuel o rows_found_lem) sheet

  module _ (s₀ : Sheet) where
    pub scanning_start : s₀.n ≤ s₀.room → Scanning s₀ s₀ 0
    unfolding region_hits
    scanning_start h = record { fuel = length s; rows_found_lem = 0; enough = omega arith; few = omega arith; along = along_start s₀ _ h }

    module _ (sheet : Sheet) (o : ℕ) (w : Scanning s₀ sheet o) where
      scanning_end : length s ≤ o + 2 → Adds (region_hits spot from s hints) false s₀ (on sheet.n) sheet
      scanning_end h = along_end _ _ _ (rw (scan_end w.fuel s hints (length s) o w.rows_found_lem (omega arith)) at w.along)

      module _ (in' : o + 2 < length s) where
        below : o < length s - 2
        below = omega arith

        -- there is fuel for one attempt more
        more : {C : Type 0} → ((f : ℕ) → length s ≤ o + suc f → Along s₀ (region_hits spot from s hints) (left_hits (suc f) o w.rows_found_lem) sheet → C) → C
        more {C} then = go w.fuel w.enough w.along
          where
            go : (f : ℕ) → length s ≤ o + f → Along s₀ (region_hits spot from s hints) (left_hits f o w.rows_found_lem) sheet → C
            go zero q g = absurd (omega arith)
            go (suc f) q g = then f q g

        scanning_missed : attempt_at s hints o ≡ miss → Scanning s₀ sheet (o + 1)
        scanning_missed e =
            more
            (λ f q g.
            record {
              fuel = f;
              rows_found_lem = w.rows_found_lem;
              enough = omega arith;
              few = omega (arith, w.few);
              along = rw (scan_missed f s hints (length s) o w.rows_found_lem below e) at g;
            })

        module _ (x : Found) (e : attempt_at s hints o ≡ hit x) (sheet' : Sheet) where
          abbrev one : List Hit
          one = region_hit spot (length hints) from o x ∷ []

          pub scanning_found : Adds one false sheet (on sheet'.n) sheet' → Scanning s₀ sheet' (o + x.consumed)
          scanning_found c =
              let takes = (hit_takes s hints o x e).0 in
              more
              (λ f q g.
              record {
                fuel = f;
                rows_found_lem = w.rows_found_lem + 1;
                enough = omega arith;
                few = omega (arith, w.few);
                along =
                    along_on _ _ _ one (left_hits f (o + x.consumed) (w.rows_found_lem + 1))
                    (rw (scan_found f s hints (length s) o w.rows_found_lem below x e (omega (arith, w.few))) at g) sheet' c;
              })

          pub scanning_full : Adds one false sheet over sheet' → Adds (region_hits spot from s hints) false s₀ over sheet'
          scanning_full c =
              more
              (λ f q g.
              along_full _ _ _ one (left_hits f (o + x.consumed) (w.rows_found_lem + 1))
              (rw (scan_found f s hints (length s) o w.rows_found_lem below x e (omega (arith, w.few))) at g) sheet' c)

    -- offsets that are passed over are attempts that failed
    module _ (sheet : Sheet) (o last read : ℕ) (e : last ≡ length s - 2) (w : Scanning s₀ sheet o) where
      pub scanning_passed : (to : ℕ) → to ≤ last → MissBetween s hints o to read → Scanning s₀ sheet to
      scanning_passed to le p =
          misses_keep s hints o last (λ a _. Scanning s₀ sheet a)
          (λ a _ r lt miss x. scanning_missed sheet a x (omega arith) miss.misses) to 0 read le p w

      pub scanning_through : ThroughIs s hints o last read → Adds (region_hits spot from s hints) false s₀ (on sheet.n) sheet
      scanning_through t =
          by_order o last
          (λ lt. scanning_end sheet t.to (scanning_passed t.to (t.passed.near lt) t.passed.misses) (omega (arith, t.there)))
          (λ ge. scanning_end sheet o w (omega arith))
