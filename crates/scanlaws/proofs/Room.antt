-- How much room is enough: with room for half as many rows as a region has bytes its scan is through, since each row takes two bytes at least;
-- and a scan that is through is the same with more room.
-- Assumes nothing.
use Prim.Native.Nat.{ℕ, ◌+◌, ◌-◌, ◌/◌, ◌≤◌}
use mathlib.Core.Path.{◌≡◌, refl, ap, ◌∙◌}
use mathlib.Core.List.{List}
use native.Mathlib.Omega.{arith}
use lib.ListN.{length, drop_of_length-le}
use Rattle.scan.specs.Scan.{Run, run_place, run_number}
use Rattle.scanlaws.proofs.Alone.{from_0, few_rows}
use Rattle.scanlaws.proofs.Folds.{joined_through, through_place}
use Rattle.scanlaws.proofs.Following.{carried}
use Rattle.scanlaws.proofs.Resuming.{run, run_end, resumes}
use Rattle.scanlaws.proofs.ScanList.{run_list}
use Rattle.scanlaws.specs.Joined.{joined}
use Rattle.scanlaws.specs.Only.{Placed, Only}

module _ (s hints : List ℕ) where
  -- THE LAW: of a list that has the properties
  pub rows_fit : (ps : List Placed) → Only s hints ps → length ps ≤ length s / 2
  rows_fit ps o = omega (arith, few_rows s hints ps 0 (from_0 s hints ps (carried s hints ps o)))

  -- THE LAW: with so much room a run is through
  pub roomy : (room start : ℕ) → length s / 2 ≤ room → run_number (run s hints room start) ≡ 0
  roomy room start h =
      let l = run_list s hints room start in
      let fits : length l.list ≤ room = omega (arith, few_rows s hints l.list start l.from) in
      l.number ∙ rw (drop_of_length-le l.list fits) refl

  -- THE LAW: and one that is through is the same with more
  pub more_room : (a b start : ℕ) → run_number (run s hints a start) ≡ 0 → run s hints (a + b) start ≡ run s hints a start
  more_room a b start e =
      let t = run s hints a start in
      resumes s hints a b start
      ∙ ap (λ (u : Run). joined t u) (run_end s hints b (run_place (length s) t) (omega (arith, through_place (length s) t e)))
      ∙ joined_through t e

  pub any_room : (room start : ℕ) → length s ≤ room → run s hints room start ≡ run s hints (length s) start
  any_room room start h =
      let is : room ≡ length s + (room - length s) = omega arith in
      rw is (more_room (length s) (room - length s) start (roomy (length s) start (omega arith)))
