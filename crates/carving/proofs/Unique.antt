-- A contract fixes what a call leaves: any two outcomes that it allows for the same arguments are equal. `Post` is the function's own postcondition.
-- Assumes nothing.
use Rattle.carving.proofs.freeblocks.recover_page_freeblocks.Reads as recover-page-freeblocks
use Rattle.carving.proofs.freeblocks.recover_slice_freeblocks.Reads as recover-slice-freeblocks
use Rattle.carving.proofs.gaps.parse_cells_from_freeblock.Reads as parse-cells-from-freeblock
use Rattle.carving.proofs.gaps.scan_page_gap.Reads as scan-page-gap
use Rattle.carving.proofs.gaps.scan_single_page_gap.Reads as scan-single-page-gap
use Rattle.carving.proofs.single.carve_numbered.Reads as carve-numbered
use Rattle.carving.proofs.single.carve_slice.Reads as carve-slice
use Rattle.record.proofs.Unique.{FixesSeen}
use Rattle.sheet.proofs.Filling.{rows_fixed}
use Rattle.sheet.specs.Hits.{row_outcome}

pub carve_slice_fixed : FixesSeen carve-slice.Post (λ k r s. row_outcome r s.1.1.1.1.1.0.now s.1.1.1.1.1.1.0.now)
carve_slice_fixed k a x y s t p q = rows_fixed _ _ _ p q

pub carve_numbered_fixed : FixesSeen carve-numbered.Post (λ k r s. row_outcome r s.1.1.1.1.1.0.now s.1.1.1.1.1.1.0.now)
carve_numbered_fixed k a x y s t p q = rows_fixed _ _ _ p q

-- ---- the public calls
pub recover_slice_freeblocks_fixed : FixesSeen recover-slice-freeblocks.Post (λ k r s. row_outcome r s.1.1.1.1.0.now s.1.1.1.1.1.0.now)
recover_slice_freeblocks_fixed k a x y s t p q = rows_fixed _ _ _ p q

pub recover_page_freeblocks_fixed : FixesSeen recover-page-freeblocks.Post (λ k r s. row_outcome r s.1.1.1.1.0.now s.1.1.1.1.1.0.now)
recover_page_freeblocks_fixed k a x y s t p q = rows_fixed _ _ _ p q

pub scan_single_page_gap_fixed : FixesSeen scan-single-page-gap.Post (λ k r s. row_outcome r s.1.1.1.1.1.0.now s.1.1.1.1.1.1.0.now)
scan_single_page_gap_fixed k a x y s t p q = rows_fixed _ _ _ p q

pub scan_page_gap_fixed : FixesSeen scan-page-gap.Post (λ k r s. row_outcome r s.1.1.1.1.1.0.now s.1.1.1.1.1.1.0.now)
scan_page_gap_fixed k a x y s t p q = rows_fixed _ _ _ p q

pub parse_cells_from_freeblock_fixed : FixesSeen parse-cells-from-freeblock.Post (λ k r s. row_outcome r s.1.1.1.1.0.now s.1.1.1.1.1.0.now)
parse_cells_from_freeblock_fixed k a x y s t p q = rows_fixed _ _ _ p q
