-- Writing hits behind others: what comes of two lists of them one after the other, and of all of them at last.
-- Assumes nothing.
use Prim.Native.Nat.{ℕ, zero, suc, ◌+◌, ◌-◌, ◌*◌, ◌≤◌, ◌<◌}
use mathlib.Core.Path.{◌≡◌, refl, sym, ap, ◌∙◌}
use mathlib.Core.Bool.{Bool, true, false, cond}
use mathlib.Core.List.{List, [], ◌∷◌, ◌++◌, append-nil, append_assoc}
use native.Mathlib.Nat.{add-mul, suc-mul, min-le_left, mul-le-mul_right}
use native.Mathlib.Omega.{arith}
use borrow.Author.Tests.{le-leb, lt-leb}
use lib.ListN.{length, take, length-append, length-take}
use lib.Seq.{sets, take-nil, take_all, take-append-le, take-append-add}
use Rattle.record.proofs.Numbers.{by_order}
use Rattle.sheet.proofs.Laws.{sets_append, rows_words-length, columns_words-length, unused_words-length, room_rows, room_cols, laid_over}
use Rattle.sheet.specs.Columns.{room_of}
use Rattle.sheet.specs.Limits.{words_per_row, words_per_entry}
use Rattle.sheet.specs.Row.{row_words}
use Rattle.sheet.specs.Sheet.{overlay, rows_words}
use Rattle.sheet.specs.Hits.{Hit, rows_of, group_words, groups_words}
use Rattle.sheet.specs.Inner.{Puts, Told, on, over, overflow, carved_to, Carves}

-- ---- words of hits
pub rows_append : (a b : List Hit) → rows_words (rows_of (a ++ b)) ≡ rows_words (rows_of a) ++ rows_words (rows_of b)
rows_append [] b = refl
rows_append (h ∷ a) b = rw (rows_append a b) (sym (append_assoc (row_words h.row) (rows_words (rows_of a)) (rows_words (rows_of b))))

pub groups_append : (width : ℕ) (a b : List Hit) → groups_words width (a ++ b) ≡ groups_words width a ++ groups_words width b
groups_append width [] b = refl
groups_append width (h ∷ a) b = rw (groups_append width a b) (sym (append_assoc (group_words width h) (groups_words width a) (groups_words width b)))

pub rows_count : (hs : List Hit) → length (rows_of hs) ≡ length hs
rows_count [] = refl
rows_count (h ∷ hs) = ap suc (rows_count hs)

-- a row whose columns are no more than the group is wide
pub group_words-length : (width : ℕ) (h : Hit) → length h.columns ≤ width → length (group_words width h) ≡ words_per_entry * width
group_words-length width h n =
    simp (length-append, columns_words-length h.columns, unused_words-length (width - length h.columns)) (omega arith)

-- ---- no hit, and one
module _ (width room n : ℕ) (rows cols : List ℕ) where
  pub carves_none : n ≤ room → Carves width room n [] false rows cols (on n) rows cols
  carves_none h =
      let e : n + 0 ≡ n = omega arith in
      record {
        answer = rw e (simp (le-leb n room h));
        puts = record { rows_are = rw (take-nil (room - n)); cols_are = rw (take-nil (room - n)); wide = rw (take-nil (room - n)) (omega arith) };
      }

  pub carves_one : (h : Hit) (rows' cols' : List ℕ) → n < room → length h.columns ≤ width
      → rows' ≡ sets rows (n * words_per_row) (row_words h.row) → cols' ≡ sets cols (n * (words_per_entry * width)) (group_words width h)
      → Carves width room n (h ∷ []) false rows cols (on (n + 1)) rows' cols'
  carves_one h rows' cols' lt narrow e f =
      let all = take_all (room - n) (h ∷ []) (omega arith) in
      record {
        answer = simp (le-leb (n + 1) room (omega arith));
        puts =
            record {
              rows_are = rw (all, append-nil (row_words h.row)) e;
              cols_are = rw (all, append-nil (group_words width h)) f;
              wide = rw (all, append-nil (group_words width h), group_words-length width h narrow) (omega arith);
            };
      }

  pub carves_over : (h : Hit) → room ≤ n → Carves width room n (h ∷ []) false rows cols over rows cols
  carves_over h ge =
      let none : room - n ≡ 0 = omega arith in
      record {
        answer = simp (lt-leb (n + 1) room (omega arith));
        puts = record { rows_are = rw none; cols_are = rw none; wide = rw none (omega arith) };
      }

-- ---- some hits, and then others
-- what is told of k hits behind n rows: all of them found room, and the stack overflowed or not; or one found none
abbrev ToldOf : ℕ → ℕ → ℕ → Bool → Told → Type 0
ToldOf room n k stopped (on m) = (n + k ≤ room) × (m ≡ n + k) × (stopped ≡ false)
ToldOf room n k stopped (overflow m) = (n + k ≤ room) × (m ≡ n + k) × (stopped ≡ true)
ToldOf room n k stopped over = room < n + k

told : (room n k : ℕ) (stopped : Bool) (t : Told) → t ≡ carved_to room n k stopped → ToldOf room n k stopped t
told room n k stopped t e = rw e (by_order room (n + k) (λ lt. simp (lt-leb (n + k) room lt) lt) (λ le. simp (le-leb (n + k) room le) (go stopped le)))
  where
    go : (stopped : Bool) → n + k ≤ room → ToldOf room n k stopped (cond stopped (overflow (n + k)) (on (n + k)))
    go true le = (le, refl, refl)
    go false le = (le, refl, refl)

pub told_on : (room n k m : ℕ) (stopped : Bool) → on m ≡ carved_to room n k stopped → (n + k ≤ room) × (m ≡ n + k) × (stopped ≡ false)
told_on room n k m stopped = told room n k stopped (on m)

pub told_overflow : (room n k m : ℕ) (stopped : Bool) → overflow m ≡ carved_to room n k stopped → (n + k ≤ room) × (m ≡ n + k) × (stopped ≡ true)
told_overflow room n k m stopped = told room n k stopped (overflow m)

pub told_over : (room n k : ℕ) (stopped : Bool) → over ≡ carved_to room n k stopped → room < n + k
told_over room n k stopped = told room n k stopped over

module _ (width room n : ℕ) (a b : List Hit) (rows cols rows' cols' : List ℕ) where
  puts_more : (rows'' cols'' : List ℕ) (m : ℕ) → n + length a ≤ room → m ≡ n + length a
      → Puts width room n a rows cols rows' cols' → Puts width room m b rows' cols' rows'' cols'' → Puts width room n (a ++ b) rows cols rows'' cols''
  puts_more rows'' cols'' m le e p q =
      let w = words_per_entry * width in
      let all = take_all (room - n) a (omega arith) in
      let left : room - n ≡ length a + (room - m) = omega arith in
      let both : take (room - n) (a ++ b) ≡ a ++ take (room - m) b = rw left (take-append-add a b (room - m)) in
      let c = take (room - m) b in
      let ra : length (rows_words (rows_of a)) ≡ length a * words_per_row = rows_words-length (rows_of a) ∙ ap (λ (k : ℕ). k * words_per_row) (rows_count a) in
      let ga : length (groups_words width a) ≡ length a * w = rw all at p.wide in
      let ri : m * words_per_row ≡ n * words_per_row + length (rows_words (rows_of a)) = omega arith in
      let gi : m * w ≡ n * w + length (groups_words width a) = rw (ga, e) (add-mul n (length a) w) in
      record {
        rows_are =
            q.rows_are ∙ rw (p.rows_are, all, both, rows_append a c, ri) (sets_append rows (n * words_per_row) (rows_words (rows_of a)) (rows_words (rows_of c)));
        cols_are = q.cols_are ∙ rw (p.cols_are, all, both, groups_append width a c, gi) (sets_append cols (n * w) (groups_words width a) (groups_words width c));
        wide = rw (both, groups_append width a c, length-append, length-append, ga, q.wide) (sym (add-mul (length a) (length c) w));
      }

  pub carves_more : (m : ℕ) (stopped : Bool) (r : Told) (rows'' cols'' : List ℕ) → Carves width room n a false rows cols (on m) rows' cols'
      → Carves width room m b stopped rows' cols' r rows'' cols'' → Carves width room n (a ++ b) stopped rows cols r rows'' cols''
  carves_more m stopped r rows'' cols'' x y =
      let t = told_on room n (length a) m false x.answer in
      let sum : m + length b ≡ n + length (a ++ b) = simp length-append (omega (arith, t.1)) in
      record {
        answer = rw sum at y.answer;
        puts = puts_more rows'' cols'' m t.0 t.1 x.puts y.puts;
      }

  -- what found no room leaves no room for more
  pub carves_stop : (stopped stopped' : Bool) → Carves width room n a stopped rows cols over rows' cols' → Carves width room n (a ++ b) stopped' rows cols over rows' cols'
  carves_stop stopped stopped' x =
      let lt = told_over room n (length a) stopped x.answer in
      let same : take (room - n) (a ++ b) ≡ take (room - n) a = take-append-le (room - n) a b (omega arith) in
      let long : room < n + length (a ++ b) = simp length-append (omega arith) in
      record {
        answer = simp (lt-leb (n + length (a ++ b)) room long);
        puts = record { rows_are = rw same x.puts.rows_are; cols_are = rw same x.puts.cols_are; wide = rw same x.puts.wide };
      }

-- the hits may be said another way
pub carves_as : (width room n : ℕ) (a b : List Hit) (stopped stopped' : Bool) (rows cols : List ℕ) (r : Told) (rows' cols' : List ℕ) → a ≡ b → stopped ≡ stopped'
    → Carves width room n a stopped rows cols r rows' cols' → Carves width room n b stopped' rows cols r rows' cols'
carves_as width room n a b stopped stopped' rows cols r rows' cols' e f x = rw (e, f) at x

-- ---- all hits, from the first row on
room_fits : (rows cols width room : ℕ) → room ≡ room_of rows cols width → (room * words_per_row ≤ rows) × (room * (words_per_entry * width) ≤ cols)
room_fits rows cols width zero e = (omega arith, omega arith)
room_fits rows cols width (suc n) e =
    let lt : n < room_of rows cols width = omega arith in
    (rw suc-mul (room_rows rows cols width n lt), rw suc-mul (room_cols rows cols width n lt))

module _ (width room : ℕ) (hs : List Hit) (rows cols rows' cols' : List ℕ) (is : room ≡ room_of (length rows) (length cols) width) where
  taken_few : length (take room hs) ≤ room
  taken_few = rw length-take (min-le_left room (length hs))

  pub puts_all : Puts width room 0 hs rows cols rows' cols'
      → (rows' ≡ overlay (rows_words (rows_of (take room hs))) rows) × (cols' ≡ overlay (groups_words width (take room hs)) cols)
  puts_all p =
      let w = words_per_entry * width in
      let fits = room_fits (length rows) (length cols) width room is in
      let all : room - 0 ≡ room = omega arith in
      let r : length (rows_words (rows_of (take room hs))) ≡ length (take room hs) * words_per_row = rows_words-length (rows_of (take room hs)) ∙ ap (λ (k : ℕ). k * words_per_row) (rows_count (take room hs)) in
      let g : length (groups_words width (take room hs)) ≡ length (take room hs) * w = rw all at p.wide in
      let few : length (take room hs) * w ≤ room * w = mul-le-mul_right w taken_few in
      let z : 0 * words_per_row ≡ 0 = omega arith in
      let z' : 0 * w ≡ 0 = omega arith in (
        rw (all, z) at p.rows_are ∙ laid_over (rows_words (rows_of (take room hs))) rows (omega (arith, taken_few, fits.0)),
        rw (all, z') at p.cols_are ∙ laid_over (groups_words width (take room hs)) cols (omega (arith, fits.1)),
      )
