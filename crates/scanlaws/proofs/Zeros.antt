-- A region of zeros has no rows (rule 4.18): a byte 0 is a header length of 0, so every attempt fails, and the empty list is the only one.
-- Assumes nothing.
use Rattle.std.specs.Prelude.{Some}
use Prim.Native.Nat.{ℕ, ◌+◌, ◌-◌, ◌<◌}
use mathlib.Core.Path.{◌≡◌}
use mathlib.Core.Bool.{false}
use mathlib.Core.List.{List, []}
use native.Mathlib.Omega.{arith}
use lib.ListN.{length, get_or, get_or-replicate, length-replicate}
use lib.Seq.{take-nil, drop-nil}
use Rattle.attempt.proofs.Judging.{fits_not, attempt_bad}
use Rattle.attempt.specs.Attempt.{miss, attempt_at}
use Rattle.record.proofs.Laws.{varint_low}
use Rattle.record.specs.Varint.{varint_at}
use Rattle.record.specs.declared.varint.Cursor.{Cursor}
use Rattle.scan.specs.Scan.{run_number, run_place}
use Rattle.scanlaws.proofs.Resuming.{run}
use Rattle.scanlaws.proofs.ScanList.{only_list}
use Rattle.scanlaws.specs.Listed.{placed, zeros}
use Rattle.scanlaws.specs.Only.{Placed, Only}

module _ (n : ℕ) (hints : List ℕ) where
  abbrev s : List ℕ
  s = zeros n

  fails : (o : ℕ) → o < length s - 2 → attempt_at s hints o ≡ miss
  fails o lt =
      let z : get_or s o 0 ≡ 0 = get_or-replicate n o 0 0 (omega (arith, length-replicate {A = ℕ} n 0)) in
      let behind : Cursor = record { at = o + 1; padded = false } in
      let read : varint_at s o ≡ Some (0, behind) = rw z at (varint_low s o (omega arith) (omega arith)) in
      (attempt_bad s hints o 0 behind read (fits_not (length s) o 0 (λ p q r. omega arith))).misses

  none_only : Only s hints []
  none_only =
      record { rising = tt; below = tt; inside = tt; apart = tt; sized = tt; likely = tt; attempts = tt; others = λ o lt free. fails o lt }

  -- THE LAW: with any room the scan from 0 is through, and has no row
  pub zeros_none : (room : ℕ) → let t = run s hints room 0 in (placed t ≡ []) × (run_number t ≡ 0) × (run_place (length s) t ≡ length s)
  zeros_none room = rw (take-nil {A = Placed} room, drop-nil {A = Placed} room) at (only_list s hints [] none_only room)
