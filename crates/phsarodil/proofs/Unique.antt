-- A contract fixes what a call leaves: any two outcomes that it allows for the same arguments are equal. `Post` is the function's own postcondition.
-- Assumes nothing.
use mathlib.Core.Path.{sym, ◌∙◌}
use Rattle.record.proofs.Unique.{Fixes, FixesSeen}
use Rattle.phsarodil.specs.Returns.{list_return, row_return, leaves_return, tables_return}
use Rattle.phsarodil.proofs.freeblocks.phs_recover_freeblocks.Reads as recover-freeblocks
use Rattle.phsarodil.proofs.freeblocks.phs_recover_page_freeblocks.Reads as recover-page-freeblocks
use Rattle.phsarodil.proofs.freeblocks.phs_recover_slice_freeblocks.Reads as recover-slice-freeblocks
use Rattle.phsarodil.proofs.learned.phs_carve_unallocated.Reads as carve-unallocated
use Rattle.phsarodil.proofs.learned.phs_learn_signatures.Reads as learn-signatures
use Rattle.phsarodil.proofs.lists.phs_boyer_moore_search.Reads as boyer-moore-search
use Rattle.phsarodil.proofs.lists.phs_column_hints.Reads as column-hints
use Rattle.phsarodil.proofs.lists.phs_from_create_sql.Reads as from-create-sql
use Rattle.phsarodil.proofs.gaps.phs_parse_cells_from_freeblock.Reads as parse-cells-from-freeblock
use Rattle.phsarodil.proofs.gaps.phs_scan_page_gap.Reads as scan-page-gap
use Rattle.phsarodil.proofs.gaps.phs_scan_page_gaps.Reads as scan-page-gaps
use Rattle.phsarodil.proofs.gaps.phs_scan_single_page_gap.Reads as scan-single-page-gap
use Rattle.phsarodil.proofs.block.phs_carve_freeblock.Reads as carve-freeblock
use Rattle.phsarodil.proofs.pages.phs_collect_leaf_pages.Reads as collect-leaf-pages
use Rattle.phsarodil.proofs.pages.phs_get_page_data.Reads as get-page-data
use Rattle.phsarodil.proofs.rows.phs_is_compatible.Reads as is-compatible
use Rattle.phsarodil.proofs.rows.phs_scan_region.Reads as scan-region
use Rattle.phsarodil.proofs.rows.phs_try_parse_record.Reads as try-parse-record
use Rattle.phsarodil.proofs.values.phs_body_length.Reads as body-length
use Rattle.phsarodil.proofs.values.phs_decode_serial_type.Reads as decode-serial-type
use Rattle.phsarodil.proofs.values.phs_read_entry.Reads as read-entry
use Rattle.phsarodil.proofs.values.phs_read_varint.Reads as read-varint
use Rattle.phsarodil.proofs.values.phs_view_entry.Reads as view-entry
use Rattle.phsarodil.proofs.version.phs_version.Reads as version

pub version_number : Fixes version.Post
version_number k a x y s t p q = p ∙ sym q

-- ---- the number that is returned, and the words at exit
pub read_varint_number : Fixes read-varint.Post
read_varint_number k a x y s t p q = p.0 ∙ sym q.0

pub read_varint_words : FixesSeen read-varint.Post (λ k r s. s.1.1.0.now)
read_varint_words k a x y s t p q = p.1 ∙ sym q.1

pub body_length_number : Fixes body-length.Post
body_length_number k a x y s t p q = p.0 ∙ sym q.0

pub body_length_words : FixesSeen body-length.Post (λ k r s. s.1.0.now)
body_length_words k a x y s t p q = p.1 ∙ sym q.1

pub decode_serial_type_number : Fixes decode-serial-type.Post
decode_serial_type_number k a x y s t p q = p.0 ∙ sym q.0

pub decode_serial_type_words : FixesSeen decode-serial-type.Post (λ k r s. s.1.1.1.0.now)
decode_serial_type_words k a x y s t p q = p.1 ∙ sym q.1

pub read_entry_number : Fixes read-entry.Post
read_entry_number k a x y s t p q = p.0 ∙ sym q.0

pub read_entry_words : FixesSeen read-entry.Post (λ k r s. s.1.1.1.1.1.0.now)
read_entry_words k a x y s t p q = p.1 ∙ sym q.1

pub view_entry_number : Fixes view-entry.Post
view_entry_number k a x y s t p q = p.0 ∙ sym q.0

pub view_entry_words : FixesSeen view-entry.Post (λ k r s. s.1.1.1.1.1.0.now)
view_entry_words k a x y s t p q = p.1 ∙ sym q.1

pub is_compatible_number : Fixes is-compatible.Post
is_compatible_number k a x y s t p q = p.0 ∙ sym q.0

pub is_compatible_words : FixesSeen is-compatible.Post (λ k r s. s.1.1.0.now)
is_compatible_words k a x y s t p q = p.1 ∙ sym q.1

-- ---- the number, the words, and the lent lists at exit
pub try_parse_record_fixed : FixesSeen try-parse-record.Post (λ k r s. row_return r s.1.1.1.1.1.1.0.now s.1.1.1.1.0.now s.1.1.1.1.1.0.now)
try_parse_record_fixed k a x y s t p q = p ∙ sym q

pub scan_region_fixed : FixesSeen scan-region.Post (λ k r s. row_return r s.1.1.1.1.1.1.0.now s.1.1.1.1.0.now s.1.1.1.1.1.0.now)
scan_region_fixed k a x y s t p q = p ∙ sym q

pub column_hints_fixed : FixesSeen column-hints.Post (λ k r s. list_return r s.1.1.0.now s.1.0.now)
column_hints_fixed k a x y s t p q = p ∙ sym q

pub from_create_sql_fixed : FixesSeen from-create-sql.Post (λ k r s. list_return r s.1.1.0.now s.1.0.now)
from_create_sql_fixed k a x y s t p q = p ∙ sym q

pub boyer_moore_search_fixed : FixesSeen boyer-moore-search.Post (λ k r s. list_return r s.1.1.1.0.now s.1.1.0.now)
boyer_moore_search_fixed k a x y s t p q = p ∙ sym q

-- ---- pages and freed blocks: what the walk leaves in flags and stack, too
pub get_page_data_number : Fixes get-page-data.Post
get_page_data_number k a x y s t p q = p.0 ∙ sym q.0

pub get_page_data_words : FixesSeen get-page-data.Post (λ k r s. s.1.1.1.0.now)
get_page_data_words k a x y s t p q = p.1 ∙ sym q.1

pub collect_leaf_pages_fixed : FixesSeen collect-leaf-pages.Post (λ k r s. leaves_return r s.1.1.1.1.1.1.0.now s.1.1.1.0.now s.1.1.1.1.0.now s.1.1.1.1.1.0.now)
collect_leaf_pages_fixed k a x y s t p q = p ∙ sym q

pub recover_freeblocks_fixed : FixesSeen recover-freeblocks.Post (λ k r s. tables_return r s.1.1.1.1.1.1.1.1.1.0.now s.1.1.1.1.1.0.now s.1.1.1.1.1.1.0.now s.1.1.1.1.1.1.1.0.now s.1.1.1.1.1.1.1.1.0.now)
recover_freeblocks_fixed k a x y s t p q = p ∙ sym q

pub recover_page_freeblocks_fixed : FixesSeen recover-page-freeblocks.Post (λ k r s. row_return r s.1.1.1.1.1.1.0.now s.1.1.1.1.0.now s.1.1.1.1.1.0.now)
recover_page_freeblocks_fixed k a x y s t p q = p ∙ sym q

pub recover_slice_freeblocks_fixed : FixesSeen recover-slice-freeblocks.Post (λ k r s. row_return r s.1.1.1.1.1.1.0.now s.1.1.1.1.0.now s.1.1.1.1.1.0.now)
recover_slice_freeblocks_fixed k a x y s t p q = p ∙ sym q

-- ---- the free space of pages
pub scan_page_gaps_fixed : FixesSeen scan-page-gaps.Post (λ k r s. tables_return r s.1.1.1.1.1.1.1.1.1.1.0.now s.1.1.1.1.1.1.0.now s.1.1.1.1.1.1.1.0.now s.1.1.1.1.1.1.1.1.0.now s.1.1.1.1.1.1.1.1.1.0.now)
scan_page_gaps_fixed k a x y s t p q = p ∙ sym q

pub scan_page_gap_fixed : FixesSeen scan-page-gap.Post (λ k r s. row_return r s.1.1.1.1.1.1.1.0.now s.1.1.1.1.1.0.now s.1.1.1.1.1.1.0.now)
scan_page_gap_fixed k a x y s t p q = p ∙ sym q

pub scan_single_page_gap_fixed : FixesSeen scan-single-page-gap.Post (λ k r s. row_return r s.1.1.1.1.1.1.1.0.now s.1.1.1.1.1.0.now s.1.1.1.1.1.1.0.now)
scan_single_page_gap_fixed k a x y s t p q = p ∙ sym q

pub parse_cells_from_freeblock_fixed : FixesSeen parse-cells-from-freeblock.Post (λ k r s. row_return r s.1.1.1.1.1.1.0.now s.1.1.1.1.0.now s.1.1.1.1.1.0.now)
parse_cells_from_freeblock_fixed k a x y s t p q = p ∙ sym q

-- ---- the three modes, and learned hints
pub carve_freeblock_fixed : FixesSeen carve-freeblock.Post (λ k r s. row_return r s.1.1.1.1.1.0.now s.1.1.1.0.now s.1.1.1.1.0.now)
carve_freeblock_fixed k a x y s t p q = p ∙ sym q

pub learn_signatures_fixed : FixesSeen learn-signatures.Post (λ k r s. list_return r s.1.1.1.1.0.now s.1.1.1.0.now)
learn_signatures_fixed k a x y s t p q = p ∙ sym q

pub carve_unallocated_fixed : FixesSeen carve-unallocated.Post (λ k r s. row_return r s.1.1.1.1.1.0.now s.1.1.1.0.now s.1.1.1.1.0.now)
carve_unallocated_fixed k a x y s t p q = p ∙ sym q
