-- Values read back, of the public calls: the entries that a call writes lie in the lent slice, and read over it, one after the other, as the values of
-- the rows' types, each at its place. Said once for each kind of call, whatever the way of carving, and by that of each public call.
-- Assumes nothing.
use Rattle.std.specs.Prelude.{Ok}
use Prim.Native.Nat.{ℕ, ◌*◌, ◌/◌, ◌≤◌, ◌<◌}
use mathlib.Core.Path.{◌≡◌}
use mathlib.Core.List.{List}
use native.Mathlib.Nat.{add-zero}
use native.Mathlib.Omega.{arith}
use contract.Lifetimes.{Lfts}
use denote.Triple.Clauses.{AtExit}
use borrow.Author.Tests.{not-false, ltb-false}
use borrow.Fn.Kinds.{Dens, res_t, ended_of}
use lib.ListN.{length}
use Rattle.carving.specs.Calls.{width_by, hits_by, slice_spot, page_spot, leaf_hits, SliceAsked, slice_asked, slice_checks_by, slice_checked, slice_hits, slice_filling, NumberedAsked, numbered_asked, numbered_checks_by, numbered_checked, numbered_hits, numbered_filling}
use Rattle.carving.specs.Values.{values_by, leaf_values, slice_values, numbered_values}
use Rattle.carving.specs.declared.inner.Carving.{Carving}
use Rattle.carving.specs.declared.inner.Carving.TheVariants.{Freeblocks, Gaps, Payload}
use Rattle.carving.proofs.freeblocks.recover_page_freeblocks.Kinds as page-freeblocks-kinds
use Rattle.carving.proofs.freeblocks.recover_page_freeblocks.Reads as recover-page-freeblocks
use Rattle.carving.proofs.freeblocks.recover_slice_freeblocks.Kinds as slice-freeblocks-kinds
use Rattle.carving.proofs.freeblocks.recover_slice_freeblocks.Reads as recover-slice-freeblocks
use Rattle.carving.proofs.gaps.parse_cells_from_freeblock.Kinds as payload-kinds
use Rattle.carving.proofs.gaps.parse_cells_from_freeblock.Reads as parse-cells-from-freeblock
use Rattle.carving.proofs.gaps.scan_page_gap.Kinds as page-gap-kinds
use Rattle.carving.proofs.gaps.scan_page_gap.Reads as scan-page-gap
use Rattle.carving.proofs.gaps.scan_single_page_gap.Kinds as slice-gap-kinds
use Rattle.carving.proofs.gaps.scan_single_page_gap.Reads as scan-single-page-gap
use Rattle.cells.proofs.ReadBack.{payload_reads}
use Rattle.freeblock.proofs.ReadBack.{freed_reads}
use Rattle.gap.proofs.ReadBack.{page_reads}
use Rattle.hit.specs.declared.inner.Spot.{Spot}
use Rattle.page.proofs.Laws.{size_range, there_page, page_inside}
use Rattle.page.specs.Page.{start_of, page_of, head_of}
use Rattle.record.proofs.Shifts.{PartOf, part_rest, part_taken}
use Rattle.sheet.proofs.Laws.{none_holds, count_fits_lem}
use Rattle.sheet.proofs.ReadBack.{ReadBack, AllFit, rows_read}
use Rattle.sheet.specs.Filled.{filled_written}
use Rattle.sheet.specs.Hits.{RowOutcome, FillsRows}

-- THE LAW: the rows of a page, whatever the way of carving it, over a slice in which it lies
pub hits_read : (how : Carving) (slice page : List ℕ) (head : ℕ) (hints : List ℕ) (spot : Spot) → PartOf spot.start page slice → 1 ≤ length hints → length hints ≤ width_by how
    → AllFit slice (length hints) (hits_by how page head hints spot) (values_by how spot.start page head hints)
unfolding hits_by values_by
hits_read Freeblocks slice page head hints spot part some few = freed_reads slice spot page head hints part
hits_read (Gaps how) slice page head hints spot part some few = page_reads slice spot page hints part how some few head
hits_read (Payload how) slice page head hints spot part some few = payload_reads slice spot 0 page hints (rw (add-zero spot.start) part) how some few

-- ---- a slice
slice_fit : (a : SliceAsked) → slice_checked a ≡ (Ok tt) → AllFit a.page (length a.hints) (slice_hits a) (values_by a.how 0 a.page a.head a.hints)
slice_fit a e =
    let n = none_holds (slice_checks_by a.how (length a.page) a.hints a.base) e in
    let k = count_fits_lem (length a.hints) (not-false _ n.1.0) in
    hits_read a.how a.page a.page a.head a.hints (slice_spot a.base) (part_rest a.page 0 (omega arith)) k.0
    (ltb-false _ _ n.0)

-- THE LAW: what the promises leave reads back
pub slice_reads_back : (a : SliceAsked) (x : RowOutcome) → FillsRows (slice_filling a) x
    → ReadBack a.page (filled_written x.answer * length a.hints) x.cols (slice_values a)
unfolding slice_values
slice_reads_back a x p = rows_read a.page (slice_filling a) (values_by a.how 0 a.page a.head a.hints) x p (slice_fit a)

-- ---- a page by its number

-- THE LAW: the rows of any page that is there, over the database
pub leaf_reads : (how : Carving) (db : List ℕ) (size table p : ℕ) (hints : List ℕ) → 0 < size → 1 ≤ p → p ≤ length db / size → 1 ≤ length hints → length hints ≤ width_by how
    → AllFit db (length hints) (leaf_hits how db size table hints p) (leaf_values how db size hints p)
unfolding leaf_hits leaf_values
leaf_reads how db size table p hints sized from to some few =
    hits_read how db (page_of db size p) (head_of p) hints (page_spot (start_of size p) table)
    (part_taken db (start_of size p) size (page_inside (length db) size p sized from to)) some few

numbered_fit : (a : NumberedAsked) → numbered_checked a ≡ (Ok tt)
    → AllFit a.db (length a.hints) (numbered_hits a) (leaf_values a.how a.db a.size a.hints a.page)
numbered_fit a e =
    let n = none_holds (numbered_checks_by a.how (length a.db) a.size a.page a.hints) e in
    let k = count_fits_lem (length a.hints) (not-false _ n.1.0) in
    let range = size_range a.size (not-false _ n.1.1.1.1.0) in
    let t = there_page (length a.db) a.size a.page (not-false _ n.1.1.1.1.1.0) in
    leaf_reads a.how a.db a.size 0 a.page a.hints (omega (arith, range.0)) t.0 t.1 k.0 (ltb-false _ _ n.0)

-- THE LAW: what the promises leave reads back
pub numbered_reads_back : (a : NumberedAsked) (x : RowOutcome) → FillsRows (numbered_filling a) x
    → ReadBack a.db (filled_written x.answer * length a.hints) x.cols (numbered_values a)
unfolding numbered_values
numbered_reads_back a x p = rows_read a.db (numbered_filling a) (leaf_values a.how a.db a.size a.hints a.page) x p (numbered_fit a)

-- ---- the public calls
pub recover_slice_freeblocks_reads_back : (k : Lfts 4) (a : Dens k slice-freeblocks-kinds.ps) (x : (res_t slice-freeblocks-kinds.r k).Denot)
    (s : AtExit (ended_of 4 slice-freeblocks-kinds.ps slice-freeblocks-kinds.r) k) → recover-slice-freeblocks.Post k a x s
    → ReadBack a.0.now (filled_written x * length a.1.1.1.0.now) s.1.1.1.1.1.0.now
    (slice_values (slice_asked Freeblocks a.0.now a.1.0 a.1.1.0 a.1.1.1.0.now a.1.1.1.1.0.now a.1.1.1.1.1.0.now))
recover_slice_freeblocks_reads_back k a x s p = slice_reads_back _ _ p

pub recover_page_freeblocks_reads_back : (k : Lfts 4) (a : Dens k page-freeblocks-kinds.ps) (x : (res_t page-freeblocks-kinds.r k).Denot)
    (s : AtExit (ended_of 4 page-freeblocks-kinds.ps page-freeblocks-kinds.r) k) → recover-page-freeblocks.Post k a x s
    → ReadBack a.0.now (filled_written x * length a.1.1.1.0.now) s.1.1.1.1.1.0.now
    (numbered_values (numbered_asked Freeblocks a.0.now a.1.0 a.1.1.0 a.1.1.1.0.now a.1.1.1.1.0.now a.1.1.1.1.1.0.now))
recover_page_freeblocks_reads_back k a x s p = numbered_reads_back _ _ p

pub scan_single_page_gap_reads_back : (k : Lfts 4) (a : Dens k slice-gap-kinds.ps) (x : (res_t slice-gap-kinds.r k).Denot)
    (s : AtExit (ended_of 4 slice-gap-kinds.ps slice-gap-kinds.r) k) → scan-single-page-gap.Post k a x s
    → ReadBack a.1.0.now (filled_written x * length a.1.1.1.1.0.now) s.1.1.1.1.1.1.0.now
    (slice_values (slice_asked (Gaps a.0) a.1.0.now a.1.1.0 a.1.1.1.0 a.1.1.1.1.0.now a.1.1.1.1.1.0.now a.1.1.1.1.1.1.0.now))
scan_single_page_gap_reads_back k a x s p = slice_reads_back _ _ p

pub scan_page_gap_reads_back : (k : Lfts 4) (a : Dens k page-gap-kinds.ps) (x : (res_t page-gap-kinds.r k).Denot) (s : AtExit (ended_of 4 page-gap-kinds.ps page-gap-kinds.r) k)
    → scan-page-gap.Post k a x s
    → ReadBack a.1.0.now (filled_written x * length a.1.1.1.1.0.now) s.1.1.1.1.1.1.0.now
    (numbered_values (numbered_asked (Gaps a.0) a.1.0.now a.1.1.0 a.1.1.1.0 a.1.1.1.1.0.now a.1.1.1.1.1.0.now a.1.1.1.1.1.1.0.now))
scan_page_gap_reads_back k a x s p = numbered_reads_back _ _ p

pub parse_cells_from_freeblock_reads_back : (k : Lfts 4) (a : Dens k payload-kinds.ps) (x : (res_t payload-kinds.r k).Denot) (s : AtExit (ended_of 4 payload-kinds.ps payload-kinds.r) k)
    → parse-cells-from-freeblock.Post k a x s
    → ReadBack a.1.0.now (filled_written x * length a.1.1.1.0.now) s.1.1.1.1.1.0.now
    (slice_values (slice_asked (Payload a.0) a.1.0.now 0 a.1.1.0 a.1.1.1.0.now a.1.1.1.1.0.now a.1.1.1.1.1.0.now))
parse_cells_from_freeblock_reads_back k a x s p = slice_reads_back _ _ p
