-- A contract fixes what a call leaves: any two outcomes that it allows for the same arguments are equal. `Post` is the function's own postcondition.
-- Assumes nothing.
use mathlib.Core.Path.{sym, ◌∙◌}
use Rattle.record.proofs.Unique.{Fixes, FixesSeen}
use Rattle.scan.proofs.Answers.{scan_fixed}
use Rattle.scan.specs.Scan.{scan_outcome}
use Rattle.sheet.proofs.Filling.{rows_fixed}
use Rattle.sheet.specs.Hits.{row_outcome}
use Rattle.scan.proofs.schema_sig.ScannedAnswer.number.Reads as scanned-number
use Rattle.scan.proofs.schema_sig.ScannedAnswer.written.Reads as scanned-written
use Rattle.scan.proofs.schema_sig.scan_region.Reads as scan-region
use Rattle.scan.proofs.schema_sig.try_parse_record.Reads as try-parse-record

-- the answer, the rows and the column entries at exit
pub scan_region_fixed : FixesSeen scan-region.Post (λ k r s. scan_outcome r s.1.1.1.1.0.now s.1.1.1.1.1.0.now)
scan_region_fixed k a x y s t p q = scan_fixed _ _ _ p q

pub try_parse_record_fixed : FixesSeen try-parse-record.Post (λ k r s. row_outcome r s.1.1.1.1.0.now s.1.1.1.1.1.0.now)
try_parse_record_fixed k a x y s t p q = rows_fixed _ _ _ p q

-- ---- the numbers of an answer
pub scanned_number_fixed : Fixes scanned-number.Post
scanned_number_fixed k a x y s t p q = p ∙ sym q

pub scanned_written_fixed : Fixes scanned-written.Post
scanned_written_fixed k a x y s t p q = p ∙ sym q
