-- Values read back, of the public calls: the entries that a scan or one attempt writes lie in the region, and read over it, one after the other,
-- as the values of the rows' types, each at its place: the row's offset and header length, and the lengths before it.
-- Assumes nothing.
use Rattle.std.specs.Prelude.{Err, Ok}
use Prim.Native.Nat.{ℕ, ◌*◌}
use mathlib.Core.Path.{◌≡◌, refl}
use mathlib.Core.List.{List, []}
use native.Mathlib.Omega.{arith}
use contract.Lifetimes.{Lfts}
use denote.Triple.Clauses.{AtExit}
use borrow.Fn.Kinds.{Dens, res_t, ended_of}
use lib.ListN.{length, drop}
use Rattle.attempt.proofs.ReadBack.{hit_reads}
use Rattle.attempt.specs.Attempt.{Tried, miss, hit, attempt_at}
use Rattle.scan.specs.Once.{tried_hits, once_hits, tried_values, once_values}
use Rattle.scan.specs.Scan.{Run, row_count, entries_of, scan_checked, written_of, scan_written, scan_cols}
use Rattle.scan.specs.Sheet.{asked, run_values, asked_values}
use Rattle.scan.proofs.RunValues.{RunReads, run_reads}
use Rattle.sheet.proofs.ReadBack.{ReadBack, AllFit, nothing_read, rows_read}
use Rattle.sheet.specs.Columns.{room_of}
use Rattle.sheet.specs.Filled.{filled_written}
use Rattle.sheet.specs.Refusal.{after_or0, after_or_kept}
use Rattle.sheet.specs.Sheet.{overlay}
use Rattle.sheet.specs.Refusal.{Checked}
use Rattle.scan.proofs.schema_sig.scan_region.Kinds as scan-kinds
use Rattle.scan.proofs.schema_sig.scan_region.Reads as scan-region
use Rattle.scan.proofs.schema_sig.try_parse_record.Kinds as once-kinds
use Rattle.scan.proofs.schema_sig.try_parse_record.Reads as try-parse-record

left : (s : List ℕ) (columns : ℕ) (t : Run) (cols : List ℕ) → RunReads s columns t → (c : Checked)
    → ReadBack s (after_or0 c (row_count t) * columns) (after_or_kept c (overlay (entries_of t) cols) cols) (after_or_kept c (run_values s t) [])
left s columns t cols r (Ok tt) = r.back (drop (length (entries_of t)) cols)
left s columns t cols r (Err k) = nothing_read s columns cols

pub scan_reads_back : (k : Lfts 4) (a : Dens k scan-kinds.ps) (x : (res_t scan-kinds.r k).Denot) (s : AtExit (ended_of 4 scan-kinds.ps scan-kinds.r) k) → scan-region.Post k a x s
    → ReadBack a.0.now (written_of x * length a.1.0.now) s.1.1.1.1.1.0.now
    (asked_values (asked a.0.now a.1.0.now a.1.1.0 a.1.1.1.0 a.1.1.1.1.0.now a.1.1.1.1.1.0.now))
unfolding scan_written scan_cols asked_values
scan_reads_back k a x s p =
    let room = room_of (length a.1.1.1.1.0.now) (length a.1.1.1.1.1.0.now) (length a.1.0.now) in
    rw (p.written, p.entries)
    (left a.0.now (length a.1.0.now) _ a.1.1.1.1.1.0.now (run_reads a.0.now a.1.0.now (length a.0.now) room a.1.1.1.0 0) (scan_checked a.0.now a.1.0.now a.1.1.0))

-- ---- one attempt
attempt_fit : (s hints : List ℕ) (base o : ℕ) (v : Tried) → attempt_at s hints o ≡ v → AllFit s (length hints) (tried_hits base (length hints) o v) (tried_values s o v)
attempt_fit s hints base o miss e = tt
attempt_fit s hints base o (hit x) e = let h = hit_reads s hints o x e in (record { narrow = omega (arith, h.0); as_values = h.1 }, tt)

pub attempt_reads_back : (k : Lfts 4) (a : Dens k once-kinds.ps) (x : (res_t once-kinds.r k).Denot) (s : AtExit (ended_of 4 once-kinds.ps once-kinds.r) k) → try-parse-record.Post k a x s
    → ReadBack a.0.now (filled_written x * length a.1.0.now) s.1.1.1.1.1.0.now
    (once_values a.0.now a.1.0.now a.1.1.0 a.1.1.1.0 a.1.1.1.1.0.now a.1.1.1.1.1.0.now)
unfolding once_hits once_values
attempt_reads_back k a x s p =
    let tried = attempt_at a.0.now a.1.0.now a.1.1.1.0 in
    rows_read a.0.now _ (tried_values a.0.now a.1.1.1.0 tried) _ p (λ e. attempt_fit a.0.now a.1.0.now a.1.1.0 a.1.1.1.0 tried refl)
