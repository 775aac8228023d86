-- No guesses unless asked (rule 11.13), of the public calls: where one that brings guesses returns 0, the same call without them leaves its rows less
-- the guesses, in the same order.
-- Assumes nothing.
use mathlib.Core.Path.{◌≡◌, sym, ◌∙◌, subst}
use mathlib.Core.List.{List}
use contract.Lifetimes.{Lfts}
use denote.Triple.Clauses.{AtExit}
use borrow.Fn.Kinds.{Dens, res_t, ended_of}
use lib.ListN.{length}
use Rattle.carving.proofs.gaps.parse_cells_from_freeblock.Kinds as payload-kinds
use Rattle.carving.proofs.gaps.parse_cells_from_freeblock.Reads as parse-cells-from-freeblock
use Rattle.carving.proofs.gaps.scan_page_gap.Kinds as page-kinds
use Rattle.carving.proofs.gaps.scan_page_gap.Reads as scan-page-gap
use Rattle.carving.proofs.gaps.scan_single_page_gap.Kinds as slice-kinds
use Rattle.carving.proofs.gaps.scan_single_page_gap.Reads as scan-single-page-gap
use Rattle.carving.specs.Calls.{slice_spot, SliceAsked, slice_asked, slice_filling, NumberedAsked, numbered_filling}
use Rattle.carving.specs.declared.inner.Carving.TheVariants.{Gaps, Payload}
use Rattle.gaplaws.proofs.Calls.{slice_question, page_question}
use Rattle.gaplaws.proofs.Plain.{Both, page_both, payload_both, numbered_both}
use Rattle.gaplaws.proofs.PlainWalks.{tabled_both}
use Rattle.gaplaws.specs.Parts.{Part, payload_parts, page_parts, leaf_parts, tabled_parts, sliced_by, numbered_by, tabled_by, all_rows, all_tabled, Unguessed}
use Rattle.rebuild.specs.declared.rebuilding.Rebuilding.TheVariants.{NoGuesses}
use Rattle.sheet.proofs.Filling.{rows_fixed}
use Rattle.sheet.specs.Filled.{filled_number}
use Rattle.sheet.specs.Hits.{RowFilling, RowOutcome, row_outcome, FillsRows}
use Rattle.tables.proofs.Unique.{tables_fixed}
use Rattle.tables.proofs.gaps.scan_page_gaps.Kinds as tables-kinds
use Rattle.tables.proofs.gaps.scan_page_gaps.Reads as scan-page-gaps
use Rattle.tables.specs.Calls.{Asked, asked, OnTables, on_tables, TablesPromises}
use Rattle.walk.specs.Collect.{walked_number}

rows_unguessed : {a b : RowFilling} {parts : List Part} → Both a b parts → {x y : RowOutcome} → FillsRows a x → FillsRows b y
    → Unguessed (all_rows a.width a.rows a.cols) parts x y
rows_unguessed w p r = record { guessing_is = rows_fixed _ _ _ p w.0; plain_is = rows_fixed _ _ _ r w.1 }

module _ (k : Lfts 4) where
  -- ---- `scan_single_page_gap`
  abbrev pub slice_outcome : (res_t slice-kinds.r k).Denot → AtExit (ended_of 4 slice-kinds.ps slice-kinds.r) k → RowOutcome
  slice_outcome x s = row_outcome x s.1.1.1.1.1.0.now s.1.1.1.1.1.1.0.now

  -- THE LAW
  pub slice_plain : (a b : Dens k slice-kinds.ps) → slice_question k b ≡ sliced_by (Gaps NoGuesses) (slice_question k a)
      → (x y : (res_t slice-kinds.r k).Denot) (s t : AtExit (ended_of 4 slice-kinds.ps slice-kinds.r) k)
      → scan-single-page-gap.Post k a x s → scan-single-page-gap.Post k b y t → filled_number x ≡ 0 →
      let q = slice_question k a in
      Unguessed (all_rows (length q.hints) q.rows q.cols) (page_parts a.0 q.page q.head q.hints (slice_spot q.base)) (slice_outcome x s) (slice_outcome y t)
  slice_plain a b e x y s t p r through =
      let q = slice_question k a in
      rows_unguessed (page_both a.0 q.page q.head q.base q.hints q.rows q.cols (sym p.number ∙ through)) p (subst (λ (c : SliceAsked). FillsRows (slice_filling c) (slice_outcome y t)) e r)

  -- ---- `parse_cells_from_freeblock`
  abbrev pub payload_question : Dens k payload-kinds.ps → SliceAsked
  payload_question a = slice_asked (Payload a.0) a.1.0.now 0 a.1.1.0 a.1.1.1.0.now a.1.1.1.1.0.now a.1.1.1.1.1.0.now

  abbrev pub payload_outcome : (res_t payload-kinds.r k).Denot → AtExit (ended_of 4 payload-kinds.ps payload-kinds.r) k → RowOutcome
  payload_outcome x s = row_outcome x s.1.1.1.1.0.now s.1.1.1.1.1.0.now

  -- THE LAW
  pub payload_plain : (a b : Dens k payload-kinds.ps) → payload_question b ≡ sliced_by (Payload NoGuesses) (payload_question a)
      → (x y : (res_t payload-kinds.r k).Denot) (s t : AtExit (ended_of 4 payload-kinds.ps payload-kinds.r) k)
      → parse-cells-from-freeblock.Post k a x s → parse-cells-from-freeblock.Post k b y t → filled_number x ≡ 0 →
      let q = payload_question a in
      Unguessed (all_rows (length q.hints) q.rows q.cols) (payload_parts a.0 (slice_spot q.base) 0 q.page q.hints) (payload_outcome x s) (payload_outcome y t)
  payload_plain a b e x y s t p r through =
      let q = payload_question a in
      rows_unguessed (payload_both a.0 q.page 0 q.base q.hints q.rows q.cols (sym p.number ∙ through)) p (subst (λ (c : SliceAsked). FillsRows (slice_filling c) (payload_outcome y t)) e r)

  -- ---- `scan_page_gap`
  abbrev pub page_outcome : (res_t page-kinds.r k).Denot → AtExit (ended_of 4 page-kinds.ps page-kinds.r) k → RowOutcome
  page_outcome x s = row_outcome x s.1.1.1.1.1.0.now s.1.1.1.1.1.1.0.now

  -- THE LAW
  pub page_plain : (a b : Dens k page-kinds.ps) → page_question k b ≡ numbered_by (Gaps NoGuesses) (page_question k a)
      → (x y : (res_t page-kinds.r k).Denot) (s t : AtExit (ended_of 4 page-kinds.ps page-kinds.r) k)
      → scan-page-gap.Post k a x s → scan-page-gap.Post k b y t → filled_number x ≡ 0 →
      let q = page_question k a in
      Unguessed (all_rows (length q.hints) q.rows q.cols) (leaf_parts a.0 q.db q.size 0 q.hints q.page) (page_outcome x s) (page_outcome y t)
  page_plain a b e x y s t p r through =
      let q = page_question k a in
      rows_unguessed (numbered_both a.0 q.db q.size q.page q.hints q.rows q.cols (sym p.number ∙ through)) p (subst (λ (c : NumberedAsked). FillsRows (numbered_filling c) (page_outcome y t)) e r)

-- ---- `scan_page_gaps`
module _ (k : Lfts 8) where
  abbrev pub tables_question : Dens k tables-kinds.ps → Asked
  tables_question a =
      asked (Gaps a.0) a.1.0.now a.1.1.0 a.1.1.1.0.now a.1.1.1.1.0.now a.1.1.1.1.1.0.now a.1.1.1.1.1.1.0.now
      a.1.1.1.1.1.1.1.0.now a.1.1.1.1.1.1.1.1.0.now a.1.1.1.1.1.1.1.1.1.0.now

  abbrev pub tables_outcome : (res_t tables-kinds.r k).Denot → AtExit (ended_of 8 tables-kinds.ps tables-kinds.r) k → OnTables
  tables_outcome x s =
      on_tables x s.1.1.1.1.1.1.0.now s.1.1.1.1.1.1.1.0.now s.1.1.1.1.1.1.1.1.0.now s.1.1.1.1.1.1.1.1.1.0.now

  -- THE LAW
  pub tables_plain : (a b : Dens k tables-kinds.ps) → tables_question b ≡ tabled_by (Gaps NoGuesses) (tables_question a)
      → (x y : (res_t tables-kinds.r k).Denot) (s t : AtExit (ended_of 8 tables-kinds.ps tables-kinds.r) k)
      → scan-page-gaps.Post k a x s → scan-page-gaps.Post k b y t → walked_number x ≡ 0 →
      let q = tables_question a in Unguessed (all_tabled q) (tabled_parts a.0 q) (tables_outcome x s) (tables_outcome y t)
  tables_plain a b e x y s t p r through =
      let w = tabled_both a.0 (tables_question a) (sym p.number ∙ through) in
      record { guessing_is = tables_fixed _ _ _ p w.0; plain_is = tables_fixed _ _ _ (subst (λ (c : Asked). TablesPromises c (tables_outcome y t)) e r) w.1 }
