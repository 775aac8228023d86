-- Entries read back over the slice that was lent: each column as its value, what pads a group as NULL, and so all rows that a call writes.
-- Assumes nothing.
use Rattle.std.specs.Prelude.{Err, Ok, Some}
use Prim.Native.Nat.{ℕ, zero, suc, ◌+◌, ◌-◌, ◌*◌, ◌≤◌, min}
use mathlib.Core.Path.{◌≡◌, refl, sym, ap, ◌∙◌}
use mathlib.Core.List.{List, [], ◌∷◌, ◌++◌, map, append_assoc}
use native.Mathlib.Nat.{zero-add, zero-mul, suc-add, suc-mul, add_assoc}
use native.Mathlib.Omega.{arith}
use lib.Dec.{lit≤}
use lib.ListN.{length, take, drop, replicate, length-append, length-map, length-replicate, length-take}
use Rattle.record.proofs.Laws.{entry_body, entry_null}
use Rattle.record.specs.Entry.{read_entry, body_state, unused_state}
use Rattle.record.specs.Value.{body_length, value_of}
use Rattle.record.specs.declared.entry.Entry.{Entry}
use Rattle.record.specs.Entry.{EntryRead}
use Rattle.record.specs.declared.record.Value.{Value}
use Rattle.record.specs.declared.record.Value.TheVariants.{Null}
use Rattle.sheet.specs.Columns.{column_words, unused_words}
use Rattle.sheet.specs.Filled.{filled_written}
use Rattle.sheet.specs.Hits.{Hit, group_words, groups_words, RowFilling, row_room, RowOutcome, FillsRows, rows_written, entries_left}
use Rattle.sheet.specs.Limits.{words_per_entry}
use Rattle.sheet.specs.Refusal.{after_or0, after_or_kept}
use Rattle.sheet.specs.Sheet.{overlay, columns_words, entries_in, AllWithin}
use Rattle.sheet.specs.Values.{groups_values, written_values}
use Rattle.sheet.specs.declared.columns.Column.{Column}
use Rattle.sheet.specs.declared.columns.Column.TheVariants.{Body, Unfit, Lost, Unused}
use Rattle.sheet.specs.Refusal.{Checked}
use Rattle.sheet.proofs.Laws.{columns_append}

-- the first n entries of a list lie in the slice, and read as these values
pub record ReadBack (s : List ℕ) (n : ℕ) (cols : List ℕ) (values : List Value) : Type 0 where
  pub reads : map (λ e. read_entry e s) (entries_in n cols) ≡ map Some values
  pub within : AllWithin (length s) (entries_in n cols)

-- columns lie in the slice, and read over it as these values, before entries that read as others
pub record Reads (s : List ℕ) (cs : List Column) (vs : List Value) : Type 0 where
  pub before : (n : ℕ) (cols : List ℕ) (values : List Value) → ReadBack s n cols values → ReadBack s (length cs + n) (columns_words cs ++ cols) (vs ++ values)

-- a row of at most so many columns, which read as these values
pub record HitReads (s : List ℕ) (width : ℕ) (h : Hit) (vs : List Value) : Type 0 where
  pub narrow : length h.columns ≤ width
  pub as_values : Reads s h.columns vs

module _ (s : List ℕ) where
  -- ---- columns
  pub reads_nil : Reads s [] []
  reads_nil = record { before = λ n cols values b. rw (zero-add n) b }

  -- one more, by its entry
  reads_one : (c : Column) (state kind start len : ℕ) (v : Value) (cs : List Column) (vs : List Value) → column_words c ≡ state ∷ kind ∷ start ∷ len ∷ []
      → read_entry (record { state = state; kind = kind; start = start; len = len }) s ≡ Some v → start + len ≤ length s → Reads s cs vs → Reads s (c ∷ cs) (v ∷ vs)
  reads_one c state kind start len v cs vs words is in' r =
      record {
        before = λ n cols values b.
            let later = r.before n cols values b in
            rw (suc-add (length cs) n, words) (record { reads = rw (is, later.reads); within = (in', later.within) });
      }

  pub reads_body : (t at n : ℕ) (cs : List Column) (vs : List Value) → body_length t ≡ Some n → at + n ≤ length s → Reads s cs vs → Reads s (Body t at n ∷ cs) (value_of t s at n ∷ vs)
  unfolding column_words
  reads_body t at n cs vs l in' =
      reads_one (Body t at n) 0 t at n (value_of t s at n) cs vs refl (entry_body (record { state = 0; kind = t; start = at; len = n }) s refl l in').0 in'

  -- the three states that have no body
  reads_null : (c : Column) (state kind : ℕ) (cs : List Column) (vs : List Value) → column_words c ≡ state ∷ kind ∷ 0 ∷ 0 ∷ [] → (state ≡ body_state → ⊥) → state ≤ unused_state
      → Reads s cs vs → Reads s (c ∷ cs) (Null ∷ vs)
  reads_null c state kind cs vs words other hi =
      reads_one c state kind 0 0 Null cs vs words (entry_null (record { state = state; kind = kind; start = 0; len = 0 }) s other hi).0 (omega arith)

  pub reads_unfit : (t : ℕ) (cs : List Column) (vs : List Value) → Reads s cs vs → Reads s (Unfit t ∷ cs) (Null ∷ vs)
  unfolding column_words
  reads_unfit t cs vs = reads_null (Unfit t) 1 t cs vs refl (λ z. omega arith) (lit≤ tt)

  pub reads_lost : (cs : List Column) (vs : List Value) → Reads s cs vs → Reads s (Lost ∷ cs) (Null ∷ vs)
  unfolding column_words
  reads_lost cs vs = reads_null Lost 2 0 cs vs refl (λ z. omega arith) (lit≤ tt)

  unused_read : (n : ℕ) → Reads s (replicate n Unused) (replicate n Null)
  unfolding column_words
  unused_read zero = reads_nil
  unused_read (suc n) = reads_null Unused 3 0 (replicate n Unused) (replicate n Null) refl (λ z. omega arith) (lit≤ tt) (unused_read n)

  pub reads_append : (a b : List Column) (x y : List Value) → Reads s a x → Reads s b y → Reads s (a ++ b) (x ++ y)
  reads_append a b x y p q =
      record {
        before = λ n cols values r.
            rw (length-append a b, add_assoc (length a) (length b) n, columns_append a b, append_assoc (columns_words a) (columns_words b) cols, append_assoc x y values)
            (p.before (length b + n) (columns_words b ++ cols) (y ++ values) (q.before n cols values r));
      }

  -- columns that read as values are as many
  entries_length : (n : ℕ) (ws : List ℕ) → length (entries_in n ws) ≡ n
  entries_length zero ws = refl
  entries_length (suc n) ws = ap suc (entries_length n (drop words_per_entry ws))

  as_many : (cs : List Column) (vs : List Value) → Reads s cs vs → length cs ≡ length vs
  as_many cs vs r =
      let read : Entry → EntryRead = λ e. read_entry e s in
      let same = ap (λ (l : List EntryRead). length l) (r.before 0 [] [] (record { reads = refl; within = tt })).reads in
      let words = columns_words cs ++ [] in
      omega (arith, same, length-map (entries_in (length cs + 0) words) read, entries_length (length cs + 0) words, length-map (vs ++ []) Some, length-append vs [])

  -- ---- rows of at most so many columns, each with its values
  abbrev pub AllFit : ℕ → List Hit → List (List Value) → Type 0
  AllFit width [] [] = Unit
  AllFit width [] (vs ∷ vss) = ⊥
  AllFit width (h ∷ hs) [] = ⊥
  AllFit width (h ∷ hs) (vs ∷ vss) = HitReads s width h vs × AllFit width hs vss

  -- they fit wider groups too
  pub all_fit : (n width : ℕ) → n ≤ width → (hs : List Hit) (vss : List (List Value)) → AllFit n hs vss → AllFit width hs vss
  all_fit n width le [] [] r = tt
  all_fit n width le [] (vs ∷ vss) r = absurd r
  all_fit n width le (h ∷ hs) [] r = absurd r
  all_fit n width le (h ∷ hs) (vs ∷ vss) r = (record { narrow = omega (arith, r.0.narrow); as_values = r.0.as_values }, all_fit n width le hs vss r.1)

  pub fit_append : (width : ℕ) (a b : List Hit) (x y : List (List Value)) → AllFit width a x → AllFit width b y → AllFit width (a ++ b) (x ++ y)
  fit_append width [] b [] y p q = q
  fit_append width [] b (v ∷ x) y p q = absurd p
  fit_append width (h ∷ a) b [] y p q = absurd p
  fit_append width (h ∷ a) b (v ∷ x) y p q = (p.0, fit_append width a b x y p.1 q)

  pub fit_taken : (n width : ℕ) (hs : List Hit) (vss : List (List Value)) → AllFit width hs vss → AllFit width (take n hs) (take n vss)
  fit_taken zero width hs vss r = tt
  fit_taken (suc n) width [] [] r = tt
  fit_taken (suc n) width [] (vs ∷ vss) r = absurd r
  fit_taken (suc n) width (h ∷ hs) [] r = absurd r
  fit_taken (suc n) width (h ∷ hs) (vs ∷ vss) r = (r.0, fit_taken n width hs vss r.1)

  -- ---- groups
  pub nothing_read : (width : ℕ) (cols : List ℕ) → ReadBack s (0 * width) cols []
  nothing_read width cols = rw (zero-mul width) (record { reads = refl; within = tt })

  -- what pads a group are columns too
  unused_are : (n : ℕ) → unused_words n ≡ columns_words (replicate n Unused)
  unfolding unused_words
  unused_are zero = refl
  unused_are (suc n) = rw (unused_are n)

  -- THE LAW: groups of rows read as the rows' values, whatever words stand behind them
  groups_read : (width : ℕ) (hs : List Hit) (vss : List (List Value)) (rest : List ℕ) → AllFit width hs vss
      → ReadBack s (length hs * width) (groups_words width hs ++ rest) (groups_values width vss)
  groups_read width [] [] rest r = nothing_read width rest
  groups_read width [] (vs ∷ vss) rest r = absurd r
  groups_read width (h ∷ hs) [] rest r = absurd r
  groups_read width (h ∷ hs) (vs ∷ vss) rest r =
      let cs = h.columns in
      let pad = replicate (width - length cs) Unused in
      let behind = groups_words width hs ++ rest in
      let later = groups_read width hs vss rest r.1 in
      let group : Reads s (cs ++ pad) (vs ++ replicate (width - length vs) Null)
      = rw (← (as_many cs vs r.0.as_values)) (reads_append cs pad vs (replicate (width - length cs) Null) r.0.as_values (unused_read (width - length cs))) in
      let n : suc (length hs) * width ≡ length (cs ++ pad) + length hs * width
      = omega (arith, suc-mul (length hs) width, length-append cs pad, length-replicate (width - length cs) Unused, r.0.narrow) in
      let words : (group_words width h ++ groups_words width hs) ++ rest ≡ columns_words (cs ++ pad) ++ behind
      = append_assoc (group_words width h) (groups_words width hs) rest ∙ rw (unused_are (width - length cs), columns_append cs pad) in
      rw (n, words) (group.before (length hs * width) behind (groups_values width vss) later)

  -- THE LAW: what a call leaves that writes such rows, as many as there is room for, unless a check refuses
  written_read : (a : RowFilling) (vss : List (List Value)) (c : Checked) → (c ≡ (Ok tt) → AllFit a.width a.hits vss)
      → ReadBack s (after_or0 c (min (row_room a) (length a.hits)) * a.width) (after_or_kept c (overlay (groups_words a.width (take (row_room a) a.hits)) a.cols) a.cols) (after_or_kept c (groups_values a.width (take (row_room a) vss)) [])
  written_read a vss (Ok tt) f =
      let written = take (row_room a) a.hits in
      rw (sym (length-take (row_room a) a.hits))
      (groups_read a.width written (take (row_room a) vss) (drop (length (groups_words a.width written)) a.cols) (fit_taken (row_room a) a.width a.hits vss (f refl)))
  written_read a vss (Err k) f = nothing_read a.width a.cols

  pub rows_read : (a : RowFilling) (vss : List (List Value)) (x : RowOutcome) → FillsRows a x → (a.checked ≡ (Ok tt) → AllFit a.width a.hits vss)
      → ReadBack s (filled_written x.answer * a.width) x.cols (written_values a vss)
  unfolding rows_written entries_left
  rows_read a vss x p f = rw (p.written, p.entries) (written_read a vss a.checked f)
