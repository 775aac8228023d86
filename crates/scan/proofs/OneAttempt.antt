-- One attempt as a call: what each way out leaves, and that it is the first step of a scan.
-- Assumes nothing.
use Rattle.std.specs.Prelude.{Result, Ok}
use Prim.Native.Nat.{ℕ, zero, suc, zero-le, ◌+◌, ◌-◌, ◌*◌, ◌<◌}
use mathlib.Core.Path.{◌≡◌, refl}
use mathlib.Core.List.{List, [], ◌∷◌, append-nil}
use native.Mathlib.Nat.{sub_self, zero-mul}
use native.Mathlib.Omega.{arith}
use lib.ListN.{length, take}
use lib.Seq.{sets, take-nil}
use Rattle.attempt.proofs.ReadBack.{hit_reads}
use Rattle.attempt.specs.Attempt.{Found, Tried, miss, hit, attempt_at}
use Rattle.scan.proofs.Running.{scan_none, scan_missed, scan_found, scan_full}
use Rattle.scan.specs.Once.{scan_hit, once_hits}
use Rattle.scan.specs.Scan.{row_of, rows_of, entries_of, scan_from}
use Rattle.sheet.proofs.Carving.{carves_none, carves_one, carves_over}
use Rattle.sheet.proofs.Filling.{all_written, some_left, rows_filled}
use Rattle.sheet.specs.Columns.{unused_words, room_of}
use Rattle.sheet.specs.Hits.{Hit, rows_of as hitRows, group_words, groups_words, RowFilling, row_outcome, FillsRows}
use Rattle.sheet.specs.Inner.{FilledIs}
use Rattle.sheet.specs.declared.filled.Filled.{Filled}
use Rattle.sheet.specs.declared.refusal.Refusal.{Refusal}
use Rattle.sheet.specs.Limits.{words_per_entry}
use Rattle.sheet.specs.Row.{row_words}
use Rattle.sheet.specs.Sheet.{columns_words}
use Rattle.sheet.specs.declared.filled.Filled.TheVariants.{Done, Full}

-- a row whose columns fill its group
group_whole : (width : ℕ) (h : Hit) → length h.columns ≡ width → group_words width h ≡ columns_words h.columns
unfolding unused_words
group_whole width h e = rw (← e, sub_self (length h.columns)) (append-nil (columns_words h.columns))

module _ (s hints : List ℕ) (base o : ℕ) where
  pub once_none : attempt_at s hints o ≡ miss → once_hits s hints base o ≡ []
  unfolding once_hits
  once_none e = rw e

  pub once_one : (x : Found) → attempt_at s hints o ≡ hit x → once_hits s hints base o ≡ scan_hit base (length hints) o x ∷ []
  unfolding once_hits
  once_one x e = rw e

  -- ---- what is left where there is no row, where it finds no room, and where it is written
  module _ (rows cols : List ℕ) where
    abbrev room : ℕ
    room = room_of (length rows) (length cols) (length hints)

    pub once_missed : attempt_at s hints o ≡ miss → FilledIs (once_hits s hints base o) (length hints) rows cols (row_outcome (Ok (Done 0)) rows cols)
    once_missed e = rw (once_none e) (all_written (length hints) room [] rows cols rows cols refl 0 (carves_none (length hints) room 0 rows cols zero-le))

    module _ (x : Found) (e : attempt_at s hints o ≡ hit x) where
      pub once_full : room ≡ 0 → FilledIs (once_hits s hints base o) (length hints) rows cols (row_outcome (Ok (Full 0)) rows cols)
      once_full z =
          let h = scan_hit base (length hints) o x in
          rw (once_one x e) (rw z at (some_left (length hints) room (h ∷ []) rows cols rows cols refl (carves_over (length hints) room 0 rows cols h (omega arith))))

      pub once_found : (rows' cols' : List ℕ) → 0 < room → rows' ≡ sets rows 0 (row_words (row_of base (length hints) o x)) → cols' ≡ sets cols 0 (columns_words x.columns)
          → FilledIs (once_hits s hints base o) (length hints) rows cols (row_outcome (Ok (Done 1)) rows' cols')
      once_found rows' cols' p er ec =
          let h = scan_hit base (length hints) o x in
          let as_many = (hit_reads s hints o x e).0 in
          let z : 0 * (words_per_entry * length hints) ≡ 0 = zero-mul (words_per_entry * length hints) in
          rw (once_one x e)
          (all_written (length hints) room (h ∷ []) rows cols rows' cols' refl 1
          (carves_one (length hints) room 0 rows cols h rows' cols' p (omega arith) er (rw (z, group_whole (length hints) h as_many) ec)))

  -- THE LAW: where a scan tries the offset, the rows and the entries that one attempt writes are those of a scan from there that makes no second attempt
  pub first_step : (room : ℕ) → o < length s - 2 →
      let t = scan_from 1 s hints room o 0 in
      let hits = take room (once_hits s hints base o) in
      (hitRows hits ≡ rows_of base (length hints) t) × (groups_words (length hints) hits ≡ entries_of t)
  first_step room lt = go room (attempt_at s hints o) refl
    where
      go : (room : ℕ) (v : Tried) → attempt_at s hints o ≡ v →
          let t = scan_from 1 s hints room o 0 in
          let hits = take room (once_hits s hints base o) in
          (hitRows hits ≡ rows_of base (length hints) t) × (groups_words (length hints) hits ≡ entries_of t)
      go room miss e = rw (scan_missed 0 s hints room o 0 lt e, scan_none s hints room (o + 1) 0, once_none e, take-nil room) (refl, refl)
      go zero (hit x) e = rw (scan_full 0 s hints 0 o 0 lt x e zero-le) (refl, refl)
      go (suc r) (hit x) e =
          rw (scan_found 0 s hints (suc r) o 0 lt x e (omega arith), scan_none s hints (suc r) (o + x.consumed) (0 + 1), once_one x e, take-nil r, group_whole (length hints) (scan_hit base (length hints) o x) (hit_reads s hints o x e).0) (refl, refl)

-- of an attempt over the lists that the call is lent
pub tried_asked : (a : RowFilling) (r : Result Filled Refusal) (rows cols rows' cols' : List ℕ) → a.checked ≡ Ok tt
    → FilledIs a.hits a.width a.rows a.cols (row_outcome r rows cols) → rows' ≡ rows → cols' ≡ cols → FillsRows a (row_outcome r rows' cols')
tried_asked a r rows cols rows' cols' k x p q = rw (p, q) (rows_filled a (row_outcome r rows cols) k x)
