-- No guesses unless asked (rule 11.13), of the C calls: where one whose code brings guesses returns 0, the same call with the code 0 returns 0, too,
-- and leaves its rows less the guesses, in the same order.
-- Assumes nothing.
use Rattle.std.specs.Prelude.{Some}
use Prim.Native.Nat.{ℕ}
use mathlib.Core.Path.{◌≡◌, refl, sym, ap, subst, ◌∙◌}
use mathlib.Core.List.{List}
use contract.Lifetimes.{Lfts}
use denote.Triple.Clauses.{AtExit}
use borrow.Fn.Kinds.{Dens, res_t, ended_of}
use lib.ListN.{length}
use Rattle.carving.specs.Calls.{slice_spot, SliceAsked, slice_asked, slice_filling, NumberedAsked, numbered_filling}
use Rattle.carving.specs.declared.inner.Carving.TheVariants.{Gaps, Payload}
use Rattle.gaplaws.proofs.Plain.{Both, page_both, payload_both, numbered_both}
use Rattle.gaplaws.proofs.PlainWalks.{tabled_both}
use Rattle.gaplaws.specs.Parts.{Part, payload_parts, page_parts, leaf_parts, tabled_parts, sliced_by, numbered_by, tabled_by, all_rows, all_tabled, Unguessed}
use Rattle.phsarodil.specs.Returns.{RowReturn, row_return, row_return_of, filled_rows, TablesReturn, tables_return, tables_return_of, carved_tables}
use Rattle.phsarodil.proofs.GapRows.{slice_question, page_question}
use Rattle.phsarodil.proofs.gaps.phs_parse_cells_from_freeblock.Kinds as payload-kinds
use Rattle.phsarodil.proofs.gaps.phs_parse_cells_from_freeblock.Reads as phs-parse-cells-from-freeblock
use Rattle.phsarodil.proofs.gaps.phs_scan_page_gap.Kinds as page-kinds
use Rattle.phsarodil.proofs.gaps.phs_scan_page_gap.Reads as phs-scan-page-gap
use Rattle.phsarodil.proofs.gaps.phs_scan_page_gaps.Kinds as tables-kinds
use Rattle.phsarodil.proofs.gaps.phs_scan_page_gaps.Reads as phs-scan-page-gaps
use Rattle.phsarodil.proofs.gaps.phs_scan_single_page_gap.Kinds as slice-kinds
use Rattle.phsarodil.proofs.gaps.phs_scan_single_page_gap.Reads as phs-scan-single-page-gap
use Rattle.rebuild.specs.Ways.{named}
use Rattle.rebuild.specs.declared.rebuilding.Rebuilding.{Rebuilding}
use Rattle.rebuild.specs.declared.rebuilding.Rebuilding.TheVariants.{NoGuesses}
use Rattle.sheet.specs.Hits.{RowFilling, RowOutcome, rows_number, FillsRows}
use Rattle.tables.specs.Calls.{Asked, asked, OnTables, tabled_number, TablesPromises}

zero_named : (code : ℕ) → code ≡ 0 → named code ≡ Some NoGuesses
zero_named code e = rw e refl

-- ---- as C has it
rows_returned : (a : RowFilling) (x : RowOutcome) → FillsRows a x → filled_rows a ≡ row_return_of x
unfolding filled_rows
rows_returned a x f = rw (f.number, f.written, f.rows, f.entries) refl

rows_unguessed : (a b : RowFilling) (parts : List Part) → (rows_number a ≡ 0 → Both a b parts) → (x y : RowReturn) → x ≡ filled_rows a → y ≡ filled_rows b → x.number ≡ 0
    → Unguessed (λ hits. row_return_of (all_rows a.width a.rows a.cols hits)) parts x y
unfolding filled_rows
rows_unguessed a b parts whole x y p r zero =
    let w = whole (sym (ap (λ (q : RowReturn). q.number) p) ∙ zero) in
    record { guessing_is = p ∙ rows_returned a _ w.0; plain_is = r ∙ rows_returned b _ w.1 }

module _ (k : Lfts 5) (how : Rebuilding) where
  -- ---- `phs_scan_single_page_gap`
  abbrev pub slice_return : (res_t slice-kinds.r k).Denot → AtExit (ended_of 5 slice-kinds.ps slice-kinds.r) k → RowReturn
  slice_return x s = row_return x s.1.1.1.1.1.1.1.0.now s.1.1.1.1.1.0.now s.1.1.1.1.1.1.0.now

  -- THE LAW
  pub slice_plain : (a b : Dens k slice-kinds.ps) → named a.0 ≡ Some how → b.0 ≡ 0 → slice_question k NoGuesses b ≡ sliced_by (Gaps NoGuesses) (slice_question k how a)
      → (x y : (res_t slice-kinds.r k).Denot) (s t : AtExit (ended_of 5 slice-kinds.ps slice-kinds.r) k)
      → phs-scan-single-page-gap.Post k a x s → phs-scan-single-page-gap.Post k b y t → (slice_return x s).number ≡ 0 →
      let q = slice_question k how a in
      Unguessed (λ hits. row_return_of (all_rows (length q.hints) q.rows q.cols hits)) (page_parts how q.page q.head q.hints (slice_spot q.base))
      (slice_return x s) (slice_return y t)
  slice_plain a b n z e x y s t p r through =
      let q = slice_question k how a in
      let plain : slice_return y t ≡ filled_rows (slice_filling (slice_question k NoGuesses b)) = rw (zero_named b.0 z) at r in
      rows_unguessed _ _ _ (page_both how q.page q.head q.base q.hints q.rows q.cols) (slice_return x s) (slice_return y t) (rw n at p) (subst (λ (c : SliceAsked). slice_return y t ≡ filled_rows (slice_filling c)) e plain) through

  -- ---- `phs_parse_cells_from_freeblock`
  abbrev pub payload_question : Rebuilding → Dens k payload-kinds.ps → SliceAsked
  payload_question by a = slice_asked (Payload by) a.1.0.now 0 a.1.1.0 a.1.1.1.0.now a.1.1.1.1.0.now a.1.1.1.1.1.0.now

  abbrev pub payload_return : (res_t payload-kinds.r k).Denot → AtExit (ended_of 5 payload-kinds.ps payload-kinds.r) k → RowReturn
  payload_return x s = row_return x s.1.1.1.1.1.1.0.now s.1.1.1.1.0.now s.1.1.1.1.1.0.now

  -- THE LAW
  pub payload_plain : (a b : Dens k payload-kinds.ps) → named a.0 ≡ Some how → b.0 ≡ 0 → payload_question NoGuesses b ≡ sliced_by (Payload NoGuesses) (payload_question how a)
      → (x y : (res_t payload-kinds.r k).Denot) (s t : AtExit (ended_of 5 payload-kinds.ps payload-kinds.r) k)
      → phs-parse-cells-from-freeblock.Post k a x s → phs-parse-cells-from-freeblock.Post k b y t → (payload_return x s).number ≡ 0 →
      let q = payload_question how a in
      Unguessed (λ hits. row_return_of (all_rows (length q.hints) q.rows q.cols hits)) (payload_parts how (slice_spot q.base) 0 q.page q.hints)
      (payload_return x s) (payload_return y t)
  payload_plain a b n z e x y s t p r through =
      let q = payload_question how a in
      let plain : payload_return y t ≡ filled_rows (slice_filling (payload_question NoGuesses b)) = rw (zero_named b.0 z) at r in
      rows_unguessed _ _ _ (payload_both how q.page 0 q.base q.hints q.rows q.cols) (payload_return x s) (payload_return y t) (rw n at p) (subst (λ (c : SliceAsked). payload_return y t ≡ filled_rows (slice_filling c)) e plain) through

  -- ---- `phs_scan_page_gap`
  abbrev pub page_return : (res_t page-kinds.r k).Denot → AtExit (ended_of 5 page-kinds.ps page-kinds.r) k → RowReturn
  page_return x s = row_return x s.1.1.1.1.1.1.1.0.now s.1.1.1.1.1.0.now s.1.1.1.1.1.1.0.now

  -- THE LAW
  pub page_plain : (a b : Dens k page-kinds.ps) → named a.0 ≡ Some how → b.0 ≡ 0 → page_question k NoGuesses b ≡ numbered_by (Gaps NoGuesses) (page_question k how a)
      → (x y : (res_t page-kinds.r k).Denot) (s t : AtExit (ended_of 5 page-kinds.ps page-kinds.r) k)
      → phs-scan-page-gap.Post k a x s → phs-scan-page-gap.Post k b y t → (page_return x s).number ≡ 0 →
      let q = page_question k how a in
      Unguessed (λ hits. row_return_of (all_rows (length q.hints) q.rows q.cols hits)) (leaf_parts how q.db q.size 0 q.hints q.page)
      (page_return x s) (page_return y t)
  page_plain a b n z e x y s t p r through =
      let q = page_question k how a in
      let plain : page_return y t ≡ filled_rows (numbered_filling (page_question k NoGuesses b)) = rw (zero_named b.0 z) at r in
      rows_unguessed _ _ _ (numbered_both how q.db q.size q.page q.hints q.rows q.cols) (page_return x s) (page_return y t) (rw n at p) (subst (λ (c : NumberedAsked). page_return y t ≡ filled_rows (numbered_filling c)) e plain) through

-- ---- `phs_scan_page_gaps`
tables_returned : (a : Asked) (x : OnTables) → TablesPromises a x → carved_tables a ≡ tables_return_of x
unfolding carved_tables
tables_returned a x f = rw (f.number, f.written, f.rows, f.entries, f.flags, f.stack) refl

tables_number : (a : Asked) (r : TablesReturn) → r ≡ carved_tables a → r.number ≡ 0 → tabled_number a ≡ 0
unfolding carved_tables
tables_number a r told zero = sym (ap (λ (q : TablesReturn). q.number) told) ∙ zero

module _ (k : Lfts 9) (how : Rebuilding) where
  abbrev pub tables_question : Rebuilding → Dens k tables-kinds.ps → Asked
  tables_question by a =
      asked (Gaps by) a.1.0.now a.1.1.0 a.1.1.1.0.now a.1.1.1.1.0.now a.1.1.1.1.1.0.now a.1.1.1.1.1.1.0.now
      a.1.1.1.1.1.1.1.0.now a.1.1.1.1.1.1.1.1.0.now a.1.1.1.1.1.1.1.1.1.0.now

  abbrev pub tables_return_lem : (res_t tables-kinds.r k).Denot → AtExit (ended_of 9 tables-kinds.ps tables-kinds.r) k → TablesReturn
  tables_return_lem x s =
      tables_return x s.1.1.1.1.1.1.1.1.1.1.0.now s.1.1.1.1.1.1.0.now s.1.1.1.1.1.1.1.0.now s.1.1.1.1.1.1.1.1.0.now
      s.1.1.1.1.1.1.1.1.1.0.now

  -- THE LAW
  pub tables_plain : (a b : Dens k tables-kinds.ps) → named a.0 ≡ Some how → b.0 ≡ 0 → tables_question NoGuesses b ≡ tabled_by (Gaps NoGuesses) (tables_question how a)
      → (x y : (res_t tables-kinds.r k).Denot) (s t : AtExit (ended_of 9 tables-kinds.ps tables-kinds.r) k)
      → phs-scan-page-gaps.Post k a x s → phs-scan-page-gaps.Post k b y t → (tables_return_lem x s).number ≡ 0 →
      let q = tables_question how a in Unguessed (λ hits. tables_return_of (all_tabled q hits)) (tabled_parts how q) (tables_return_lem x s) (tables_return_lem y t)
  tables_plain a b n z e x y s t p r through =
      let q = tables_question how a in
      let told : tables_return_lem x s ≡ carved_tables q = rw n at p in
      let plain : tables_return_lem y t ≡ carved_tables (tables_question NoGuesses b) = rw (zero_named b.0 z) at r in
      let w = tabled_both how q (tables_number _ _ told through) in
      record { guessing_is = told ∙ tables_returned _ _ w.0; plain_is = subst (λ (c : Asked). tables_return_lem y t ≡ carved_tables c) e plain ∙ tables_returned _ _ w.1 }
