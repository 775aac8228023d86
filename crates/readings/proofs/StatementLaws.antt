-- The hints that are written so far, and the answer from what the code found.
-- Assumes nothing.
use Prim.Native.Nat.{ℕ, min, ◌+◌, ◌-◌, ◌≤◌, ◌<◌}
use mathlib.Core.Path.{◌≡◌, refl, sym, ap, ◌∙◌}
use mathlib.Core.Bool.{true, false, cond, not, and-eq-true_iff}
use mathlib.Core.List.{List, [], ◌∷◌, ◌++◌, append-nil, append_assoc}
use native.Mathlib.Omega.{arith}
use borrow.Author.Tests.{lt-ltb, le-ltb, le-leb, lt-leb, leb-true, leb-false}
use lib.Dec.{leb}
use lib.ListN.{length, take, drop, length-append}
use Rattle.std.proofs.lemmas.List.{take-take, take_min, length-take}
use lib.Seq.{sets, set_out, take_all, take-nil, take-append_seam, take-append-le, length-take-le}
use Rattle.readings.specs.Statement.{between, unlisted, all_hints, hints_of, statement_checks, statement_filling}
use Rattle.std.specs.Prelude.{Result, Ok, Err}
use Rattle.column.specs.Column.{piece_hints}
use Rattle.column.specs.declared.piece.Reading.{Reading}
use Rattle.words.specs.Inner.{Kept, PieceEnds, pieces_from}
use Rattle.words.specs.Runs.{is_not, has, behind_first, before_last}
use Rattle.words.specs.Words.{opening, closing, trim, pieces}
use Rattle.words.proofs.Laws.{behind_has, kept_has, kept_before, pieces_none}
use Rattle.sheet.specs.Filled.{laid, list_outcome, FillsList}
use Rattle.sheet.specs.Limits.{most_columns, largest_statement, count_fits}
use Rattle.sheet.specs.Refusal.{first_held}
use Rattle.sheet.specs.declared.filled.Filled.{Filled}
use Rattle.sheet.specs.declared.filled.Filled.TheVariants.{Done, Full}
use Rattle.sheet.specs.declared.refusal.Refusal.{Refusal}
use Rattle.sheet.specs.declared.refusal.Refusal.TheVariants.{ColumnCount, TooLarge, NoColumnList}
use Rattle.record.proofs.Numbers.{by_test}
use Rattle.sheet.proofs.Laws.{overlay_length, overlay_more}
use Rattle.sheet.proofs.Filling.{list_refused, list_filled}

-- ---- the hints of the pieces from a place on
pub hints_next : (reading : Reading) {s : List ℕ} {at e : ℕ} → PieceEnds s at e →
    all_hints reading (pieces_from s at) ≡ piece_hints reading (trim (take (e - at) (drop at s))) ++ all_hints reading (pieces_from s (e + 1))
unfolding all_hints
hints_next reading p = rw p.next

pub hints_none : (reading : Reading) (s : List ℕ) (at : ℕ) → length s < at → all_hints reading (pieces_from s at) ≡ []
unfolding all_hints
hints_none reading s at h = rw (pieces_none s at h)

-- ---- writing
-- one hint more, or none, where there is room for it
laid_more : (vs first old : List ℕ) → length vs ≤ 1 → sets (laid first old) (length first) vs ≡ laid (first ++ vs) old
laid_more [] first old one = rw append-nil
laid_more (v ∷ []) first old one =
    let room = length old in
    let size = length-append first (v ∷ []) in
    by_test (leb (length first + 1) room)
    (λ t.
    let fits = leb-true (length first + 1) room t in
    rw (take_all room first (omega arith), take_all room (first ++ (v ∷ [])) (omega arith)) (overlay_more first (v ∷ []) old fits))
    (λ f.
    let over = leb-false (length first + 1) room f in
    let whole : length (take room first) ≡ room = length-take-le room first (omega arith) in
    rw (take-append-le room first (v ∷ []) (omega arith))
    (set_out (laid first old) (length first) v (omega (arith, overlay_length (take room first) old (omega arith)))))
laid_more (v ∷ w ∷ vs) first old one = absurd (omega arith)

-- n of all the hints lie over what the list held, as many as fit, and the rest is to come
pub record Written (all rest old hints : List ℕ) (n : ℕ) : Type 0 where
  pub first : List ℕ
  pub whole : all ≡ first ++ rest
  pub count : length first ≡ n
  pub lies : hints ≡ laid first old

pub written_none : (all old : List ℕ) → Written all all old old 0
written_none all old = record { first = []; whole = refl; count = refl; lies = rw take-nil }

module _ {all rest old hints : List ℕ} {n : ℕ} where
  pub written_more : (vs : List ℕ) {new : List ℕ} {m : ℕ} → length vs ≤ 1 → m ≡ n + length vs → new ≡ sets hints n vs →
      Written all (vs ++ rest) old hints n → Written all rest old new m
  written_more vs h e put w =
      let l = w.count in
      record {
        first = w.first ++ vs;
        whole = w.whole ∙ sym (append_assoc w.first vs rest);
        count = length-append w.first vs ∙ rw (l, e);
        lies = rw (put, w.lies, ← l) (laid_more vs w.first old h);
      }

  -- THE LAW: where no more are to come, all of them lie in it
  pub written_all : rest ≡ [] → Written all rest old hints n → (n ≡ length all) × (hints ≡ laid all old)
  written_all r w =
      let whole : all ≡ w.first = w.whole ∙ rw r (append-nil w.first) in
      rw whole (sym w.count, w.lies)

-- where there is room for all, the first cells hold them
pub taken : (all old : List ℕ) {found : List ℕ} {n : ℕ} → found ≡ laid all old → n ≡ length all → n ≤ length old → take n found ≡ all
taken all old put e h = rw (put, e, take_all (length old) all (omega arith)) (take-append_seam all (drop (length all) old))

-- and as many as there are cells for are copied
pub copied : (all old found : List ℕ) {count n : ℕ} → take count found ≡ all → count ≡ length all → n ≡ min count (length old) →
    take n found ++ drop n old ≡ laid all old
copied all old found {count} {n} first e h =
    let fewest : n ≡ min (length old) (length all) = omega arith in
    let part : take n found ≡ take (length old) all = sym (take-take n count found (omega arith)) ∙ rw (first, fewest) (take_min (length old) all) in
    let long : length (take (length old) all) ≡ n = length-take (length old) all ∙ sym fewest in
    rw (part, long)

-- ---- the answer
pub fits_most : (n : ℕ) → count_fits n ≡ true → n ≤ most_columns
unfolding count_fits
fits_most n h = leb-true n most_columns ((and-eq-true_iff (leb 1 n) (leb n most_columns)).0 h).1

abbrev Answers : Reading → List ℕ → List ℕ → Result Filled Refusal → List ℕ → Type 0
Answers reading s old r hints = FillsList (statement_filling reading s old) (list_outcome r hints)

-- THE LAW: the first check that holds refuses, and leaves the list as it was
pub too_large_lem : (reading : Reading) (s old : List ℕ) → largest_statement < length s → Answers reading s old (Err TooLarge) old
unfolding statement_checks
too_large_lem reading s old h = list_refused _ _ (simp (lt-ltb largest_statement (length s) h))

pub no_list : (reading : Reading) (s old : List ℕ) → length s ≤ largest_statement → unlisted s ≡ true → Answers reading s old (Err NoColumnList) old
unfolding statement_checks
no_list reading s old small none = list_refused _ _ (simp (le-ltb largest_statement (length s) small, none))

-- a bracket is missing where none closes behind the first that opens,
pub no_brackets : (s rest : List ℕ) (e : ℕ) → rest ≡ behind_first opening s → Kept (is_not closing) rest e → e ≡ 0 → unlisted s ≡ true
no_brackets s rest e behind k z =
    let none : has closing (behind_first opening s) ≡ false = rw (← behind) (kept_has closing rest e k ∙ rw z) in
    behind_has opening closing s ∙ ap not none

-- and else the columns stand before the last that closes
pub brackets : (s rest : List ℕ) (e : ℕ) → rest ≡ behind_first opening s → Kept (is_not closing) rest e → 0 < e →
    (unlisted s ≡ false) × (take (e - 1) rest ≡ between s)
unfolding between
brackets s rest e behind k h =
    let some : has closing (behind_first opening s) ≡ true = rw (← behind) (kept_has closing rest e k ∙ lt-ltb 0 e h) in
    (behind_has opening closing s ∙ ap not some, kept_before closing rest e k h ∙ ap (before_last closing) behind)

-- a statement of few enough bytes, and the columns that it lists
pub record Lists (s columns : List ℕ) : Type 0 where
  pub small : length s ≤ largest_statement
  pub listed : unlisted s ≡ false
  pub are : columns ≡ between s

-- and n, which counts their hints
pub record Counts (reading : Reading) (s columns : List ℕ) (n : ℕ) : Type 0 where
  pub lists : Lists s columns
  pub number : n ≡ length (all_hints reading (pieces columns))

module _ {reading : Reading} {s columns : List ℕ} {n : ℕ} (k : Counts reading s columns n) where
  counted : length (hints_of reading s) ≡ n
  unfolding hints_of
  counted = rw (← k.lists.are) (sym k.number)

  last_check : first_held (statement_checks reading s) ≡ cond (not (count_fits n)) (Err ColumnCount) (Ok tt)
  unfolding statement_checks
  last_check =
      simp (le-ltb largest_statement (length s) k.lists.small, k.lists.listed, counted)

  pub bad_count : (old : List ℕ) → count_fits n ≡ false → Answers reading s old (Err ColumnCount) old
  bad_count old h = list_refused _ _ (last_check ∙ rw h)

  -- THE LAW: past the checks the first hints are written, and the room decides
  module _ (old hints : List ℕ) (fits : count_fits n ≡ true) (put : hints ≡ laid (all_hints reading (pieces columns)) old) where
    passed : first_held (statement_checks reading s) ≡ Ok tt
    passed = last_check ∙ rw fits

    written : hints ≡ laid (hints_of reading s) old
    unfolding hints_of
    written = rw (← k.lists.are) put

    pub full : {m : ℕ} → m ≡ length old → m < n → Answers reading s old (Ok (Full m)) hints
    full {m} e h = rw e (list_filled _ _ passed (simp (counted, lt-leb n (length old) (rw e at h))) written)

    pub done : n ≤ length old → Answers reading s old (Ok (Done n)) hints
    done h = list_filled _ _ passed (simp (counted, le-leb n (length old) h)) written
