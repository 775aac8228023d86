-- What the entries of a run read as: each is the value of its type at its place.
-- Assumes nothing.
use Prim.Native.Nat.{ℕ, zero, suc, ◌+◌, ◌-◌, ◌*◌, ◌<◌}
use mathlib.Core.Path.{◌≡◌, refl, sym}
use mathlib.Core.List.{List, [], ◌++◌, append_assoc}
use native.Mathlib.Nat.{suc-mul, zero-mul}
use native.Mathlib.Omega.{arith}
use lib.ListN.{length, length-append}
use Rattle.attempt.proofs.ReadBack.{hit_reads}
use Rattle.attempt.specs.Attempt.{Found, Tried, miss, hit, attempt_at}
use Rattle.record.proofs.Numbers.{by_order}
use Rattle.scan.specs.Scan.{Run, through, no_room, found, scan_from, row_count, entries_of}
use Rattle.scan.specs.Sheet.{run_values}
use Rattle.scan.proofs.Running.{scan_none, scan_missed, scan_found, scan_full, scan_end}
use Rattle.sheet.proofs.Laws.{columns_words-length}
use Rattle.sheet.proofs.ReadBack.{ReadBack, nothing_read}
use Rattle.sheet.specs.Limits.{words_per_entry}
use Rattle.sheet.specs.Sheet.{columns_words}

-- of a run: how many words its entries have, and what they read as, whatever words stand behind them
pub record RunReads (s : List ℕ) (columns : ℕ) (t : Run) : Type 0 where
  pub words : length (entries_of t) ≡ row_count t * (words_per_entry * columns)
  pub back : (rest : List ℕ) → ReadBack s (row_count t * columns) (entries_of t ++ rest) (run_values s t)

module _ (s hints : List ℕ) where
  pub reads_none : (t : Run) → entries_of t ≡ [] → row_count t ≡ 0 → run_values s t ≡ [] → RunReads s (length hints) t
  reads_none t e r v = record { words = rw (e, r) (sym (zero-mul (words_per_entry * length hints))); back = λ rest. rw (r, v) (nothing_read s (length hints) (entries_of t ++ rest)) }

  -- THE LAW: a row more
  pub reads_found : (o : ℕ) (x : Found) (t : Run) → attempt_at s hints o ≡ hit x → RunReads s (length hints) t → RunReads s (length hints) (found o x t)
  reads_found o x t e r =
      let h = hit_reads s hints o x e in
      let n : suc (row_count t) * length hints ≡ length x.columns + row_count t * length hints = omega (arith, suc-mul (row_count t) (length hints), h.0) in
      record {
        words = omega (arith, length-append (columns_words x.columns) (entries_of t), columns_words-length x.columns, h.0, r.words, suc-mul (row_count t) (words_per_entry * length hints));
        back = λ rest.
            rw (n, append_assoc (columns_words x.columns) (entries_of t) rest)
            (h.1.before (row_count t * length hints) (entries_of t ++ rest) (run_values s t) (r.back rest));
      }

  -- THE LAW: so a scan
  pub run_reads : (f room o n : ℕ) → RunReads s (length hints) (scan_from f s hints room o n)
  run_reads zero room o n = rw (scan_none s hints room o n) (reads_none through refl refl refl)
  run_reads (suc f) room o n =
      by_order o (length s - 2) (λ lt. go lt (attempt_at s hints o) refl (λ o' n'. run_reads f room o' n'))
      (λ ge. rw (scan_end (suc f) s hints room o n ge) (reads_none through refl refl refl))
    where
      go : o < length s - 2 → (t : Tried) → attempt_at s hints o ≡ t → ((o' n' : ℕ) → RunReads s (length hints) (scan_from f s hints room o' n'))
          → RunReads s (length hints) (scan_from (suc f) s hints room o n)
      go lt miss e rest =
          let r = rest (o + 1) n in
          rw (scan_missed f s hints room o n lt e) (record { words = r.words; back = r.back })
      go lt (hit x) e rest =
          by_order n room
          (λ in'. rw (scan_found f s hints room o n lt x e in') (reads_found o x _ e (rest (o + x.consumed) (n + 1))))
          (λ out. rw (scan_full f s hints room o n lt x e out) (reads_none (no_room o) refl refl refl))
