-- What walks over tables leave with and without guesses (rule 11.13): as `Plain` has it of the calls on a page.
-- Assumes nothing.
use Rattle.std.specs.Prelude.{Ok}
use Rattle.std.specs.Prelude.{Err, Ok}
use Prim.Native.Nat.{ℕ, ◌≤◌}
use mathlib.Core.Path.{◌≡◌, refl, sym}
use mathlib.Core.Bool.{Bool, true, false, cond}
use mathlib.Core.List.{List, map}
use native.Mathlib.Nat.{min-eq_right}
use native.Mathlib.Omega.{arith}
use borrow.Author.Tests.{le-ltb, lt-ltb}
use lib.Dec.{ltb}
use lib.ListN.{length}
use Rattle.carving.specs.declared.inner.Carving.TheVariants.{Gaps}
use Rattle.gaplaws.proofs.Guesses.{fewer}
use Rattle.gaplaws.proofs.Plain.{left, passes}
use Rattle.gaplaws.proofs.Walks.{tabled_parts_lem, tabled_unguessed}
use Rattle.gaplaws.specs.Parts.{hit_in, without_guesses, tabled_parts, tabled_by, all_tabled}
use Rattle.rebuild.specs.declared.rebuilding.Rebuilding.{Rebuilding}
use Rattle.rebuild.specs.declared.rebuilding.Rebuilding.TheVariants.{NoGuesses}
use Rattle.record.proofs.Numbers.{by_order}
use Rattle.scanlaws.specs.Listed.{zeros}
use Rattle.sheet.proofs.Laws.{number_range}
use Rattle.sheet.specs.Hits.{Hit}
use Rattle.sheet.specs.Refusal.{refusal_number, after}
use Rattle.sheet.specs.Refusal.{Checked}
use Rattle.sheet.specs.declared.refusal.Refusal.TheVariants.{WalkSpace, NoRoom}
use Rattle.tables.specs.Calls.{Asked, tabled_hits, tabled_walking, tabled_filling, tabled_answer, tabled_number, tabled_written, tabled_rows, tabled_cols, tabled_cleared, TablesPromises}
use Rattle.walk.specs.Carve.{widest, table_checks}
use Rattle.walk.specs.Collect.{Walking, walking_answer, walking_number, walking_written, walking_cleared}
use Rattle.walk.specs.declared.walk.Walked.TheVariants.{Done as Walked}

-- one that returns 0 has passed its checks, and has flags, room and stack enough
record Ended (w : Walking) : Type 0 where
  checked : w.checked ≡ (Ok tt)
  flagged : ltb w.flags w.pages ≡ false
  fits : w.things ≤ w.room
  whole : w.overflow ≡ false

ended : (w : Walking) → walking_number w ≡ 0 → Ended w
ended w e = go w.checked refl (ltb w.flags w.pages) refl w.overflow refl e
  where
    go : (c : Checked) → w.checked ≡ c → (few : Bool) → ltb w.flags w.pages ≡ few → (over : Bool) → w.overflow ≡ over
        → after refusal_number c (cond few (refusal_number WalkSpace) (cond (ltb w.room w.things) (refusal_number NoRoom) (cond over (refusal_number WalkSpace) 0))) ≡ 0 → Ended w
    go (Err r) c few f over o e = absurd (omega (arith, (number_range r).0))
    go (Ok tt) c true f over o e = absurd (omega arith)
    go (Ok tt) c false f over o e = by_order w.room w.things (λ more. let z = rw (lt-ltb w.room w.things more) at e in absurd (omega arith)) (λ fit. fitting fit over o (rw (le-ltb w.room w.things fit) at e))
      where
        fitting : w.things ≤ w.room → (over : Bool) → w.overflow ≡ over → cond over (refusal_number WalkSpace) 0 ≡ 0 → Ended w
        fitting fit true o e = absurd (omega arith)
        fitting fit false o e = record { checked = c; flagged = f; fits = fit; whole = o }

module _ (w : Walking) (e : Ended w) where
  answer : walking_answer w ≡ Ok (Walked w.things)
  answer = rw (e.checked, e.flagged, le-ltb w.room w.things e.fits, e.whole) refl

  number : walking_number w ≡ 0
  number = rw (e.checked, e.flagged, le-ltb w.room w.things e.fits, e.whole) refl

  written : walking_written w ≡ w.things
  written = rw (e.checked, e.flagged) (min-eq_right e.fits)

  cleared : (old : List ℕ) → walking_cleared w old ≡ zeros (length old)
  cleared old = rw e.checked refl

-- and leaves all its rows
tabled_left : (a : Asked) (hits : List Hit) → tabled_hits a ≡ hits → Ended (tabled_walking a) → TablesPromises a (all_tabled a hits)
unfolding tabled_answer tabled_number tabled_written tabled_rows tabled_cols tabled_cleared
tabled_left a hits is e =
    let w = tabled_walking a in
    let f = left (tabled_filling a) hits (rw e.flagged is) e.checked (rw e.flagged e.fits) in
    record {
      answer = rw (← is) (sym (answer w e));
      number = sym (number w e);
      written = rw (← is) (sym (written w e));
      rows = f.rows;
      entries = f.entries;
      flags = sym (cleared w e a.flags);
      stack = sym (cleared w e a.stack);
    }

-- THE LAW: with room for the list with the guesses, walks without them leave it less the guesses
module _ (how : Rebuilding) (a : Asked) where
  pub tabled_both : tabled_number (tabled_by (Gaps how) a) ≡ 0
      → TablesPromises (tabled_by (Gaps how) a) (all_tabled a (map hit_in (tabled_parts how a)))
      × TablesPromises (tabled_by (Gaps NoGuesses) a) (all_tabled a (map hit_in (without_guesses (tabled_parts how a))))
  unfolding tabled_number
  tabled_both e =
      let through = ended (tabled_walking (tabled_by (Gaps how) a)) e in
      let few : length (tabled_hits (tabled_by (Gaps NoGuesses) a)) ≤ (tabled_walking a).room =
      rw (← tabled_unguessed how a) (omega (arith, fewer (tabled_parts how a), rw (← tabled_parts_lem how a) at through.fits)) in
      let checks = table_checks (length a.db) a.size a.roots a.counts a.hints in (
        tabled_left (tabled_by (Gaps how) a) (map hit_in (tabled_parts how a)) (sym (tabled_parts_lem how a)) through,
        tabled_left (tabled_by (Gaps NoGuesses) a) (map hit_in (without_guesses (tabled_parts how a))) (sym (tabled_unguessed how a))
            (record { checked = passes how (widest a.counts) checks through.checked; flagged = through.flagged; fits = few; whole = through.whole }),
      )
