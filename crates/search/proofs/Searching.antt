-- Laws of the search: what a match says of each byte, why a shift passes no place, and what the places seen so far make of the answer.
-- Assumes nothing.
use Rattle.std.specs.Prelude.{Ok}
use Prim.Native.Nat.{ℕ, zero, suc, ◌+◌, ◌-◌, ◌≤◌, ◌<◌}
use mathlib.Core.Path.{◌≡◌, refl, sym, ap, ◌∙◌}
use mathlib.Core.Bool.{Bool, true, false, cond, ◌&&◌, and-eq-true_iff, not-eq-not}
use mathlib.Core.List.{List, [], ◌∷◌, ◌++◌, append-nil, append_assoc}
use mathlib.Core.Logic.{by_cases}
use native.Mathlib.Decide.{ℕ_discrete, le_ind}
use native.Mathlib.Numerals.{add-one}
use native.Mathlib.Omega.{arith}
use borrow.Author.Tests.{eq-eqb, eqb-true, eqb-false, le-ltb, le-leb, lt-leb}
use lib.Dec.{eqb}
use lib.ListN.{length, get_or, drop, set, replicate, length-append, length-drop, length-set, length-replicate, get_or-replicate}
use lib.Seq.{sets, length-sets, set_out, get_or-set_same, get_or-set_other, get_or-drop, take_all, take_at}
use Rattle.record.proofs.Numbers.{by_test}
use Rattle.sheet.specs.Filled.{filled_by, laid, list_outcome, FillsList}
use Rattle.sheet.specs.Limits.{largest_region}
use Rattle.sheet.specs.Sheet.{overlay}
use Rattle.sheet.specs.declared.filled.Filled.{Filled}
use Rattle.sheet.specs.declared.filled.Filled.TheVariants.{Done, Full}
use Rattle.sheet.proofs.Filling.{list_filled}
use Rattle.sheet.proofs.Laws.{overlay_length, overlay_more}
use Rattle.search.specs.Inner.{Tells, AtMost, Entered, last_of, Staying, Windows, Skips}
use Rattle.search.specs.Search.{matches, stands_at, place_at, places_below, places_of, search_filling}

-- ---- a match, byte by byte
matches_fits : (p s : List ℕ) → matches p s ≡ true → length p ≤ length s
unfolding matches
matches_fits [] s h = omega arith
matches_fits (p ∷ ps) [] h = let z : ◌≡◌ {A = ℕ} 0 1 = cc in absurd (omega arith)
matches_fits (p ∷ ps) (b ∷ s) h = omega (arith, matches_fits ps s ((and-eq-true_iff (eqb p b) (matches ps s)).0 h).1)

matches_byte : (p s : List ℕ) → matches p s ≡ true → (k : ℕ) → k < length p → get_or s k 0 ≡ get_or p k 0
unfolding matches
matches_byte [] s h k below = absurd (omega arith)
matches_byte (p ∷ ps) [] h k below = let z : ◌≡◌ {A = ℕ} 0 1 = cc in absurd (omega arith)
matches_byte (p ∷ ps) (b ∷ s) h zero below = sym (eqb-true p b ((and-eq-true_iff (eqb p b) (matches ps s)).0 h).0)
matches_byte (p ∷ ps) (b ∷ s) h (suc k) below = matches_byte ps s ((and-eq-true_iff (eqb p b) (matches ps s)).0 h).1 k (omega arith)

matches_all : (p s : List ℕ) → length p ≤ length s → ((k : ℕ) → k < length p → get_or s k 0 ≡ get_or p k 0) → matches p s ≡ true
unfolding matches
matches_all [] s fits same = refl
matches_all (p ∷ ps) [] fits same = absurd (omega arith)
matches_all (p ∷ ps) (b ∷ s) fits same =
    simp (eq-eqb p b (sym (same 0 (omega arith))), matches_all ps s (omega arith) (λ k below. same (suc k) (omega arith)))

module _ (haystack pattern : List ℕ) (o : ℕ) where
  stands_fits : 0 < length pattern → stands_at haystack pattern o ≡ true → o + length pattern ≤ length haystack
  unfolding stands_at
  stands_fits some h = omega (arith, matches_fits pattern (drop o haystack) h, length-drop o haystack)

  pub stands_byte : stands_at haystack pattern o ≡ true → (k : ℕ) → k < length pattern → get_or haystack (o + k) 0 ≡ get_or pattern k 0
  unfolding stands_at
  stands_byte h k below = sym (get_or-drop o haystack k 0) ∙ matches_byte pattern (drop o haystack) h k below

  pub stands_all : o + length pattern ≤ length haystack → ((k : ℕ) → k < length pattern → get_or haystack (o + k) 0 ≡ get_or pattern k 0) → stands_at haystack pattern o ≡ true
  unfolding stands_at
  stands_all fits same =
      matches_all pattern (drop o haystack) (omega (arith, length-drop o haystack)) (λ k below. get_or-drop o haystack k 0 ∙ same k below)

  -- no byte told of yet
  pub tells_none : (i : ℕ) → Tells haystack pattern o i i true
  tells_none i = record { same = λ t k from below. absurd (omega arith); differs = λ f. let z : ◌≡◌ {A = ℕ} 0 1 = cc in absurd (omega arith) }

  -- one byte more
  pub tells_more : {i j : ℕ} {same : Bool} → j < length pattern → Tells haystack pattern o i j same →
      Tells haystack pattern o i (j + 1) (same && eqb (get_or haystack (o + j) 0) (get_or pattern j 0))
  tells_more {i} {j} {same} inside t =
      let b = get_or haystack (o + j) 0 in
      let p = get_or pattern j 0 in
      record {
        same =
            λ h k from below.
            let both = (and-eq-true_iff same (eqb b p)).0 h in
            by_cases (ℕ_discrete k j) (λ e. rw e (eqb-true b p both.1)) (λ other. t.same both.0 k from (omega arith));
        differs =
            λ f.
            by_test same
            (λ h. (not-eq-not {b = false}).0 (λ stands. eqb-false b p (rw h at f) (stands_byte stands j inside)))
            (λ h. t.differs h);
      }

  pub place_here : stands_at haystack pattern o ≡ true → place_at haystack pattern o ≡ o ∷ []
  unfolding place_at
  place_here h = simp h

  pub place_none : stands_at haystack pattern o ≡ false → place_at haystack pattern o ≡ []
  unfolding place_at
  place_none h = simp h

-- ---- the shift table

-- what a store leaves at an index is the new value or the old one
stored : (P : ℕ → Type 0) (l : List ℕ) (i j a : ℕ) → i < length l → P a → ((j ≡ i → ⊥) → P (get_or l j 0)) → P (get_or (set l i a) j 0)
stored P l i j a h new old =
    by_cases (ℕ_discrete j i) (λ e. rw (e, get_or-set_same l i a 0 h) new) (λ ne. rw (get_or-set_other l i j a 0 ne) (old ne))

-- before the first byte the pattern's length stands everywhere
pub entered_none : (pattern : List ℕ) → 0 < length pattern → Entered pattern 0 (replicate 256 (length pattern))
entered_none pattern some =
    let all : (b : ℕ) → b < 256 → get_or (replicate 256 (length pattern)) b 0 ≡ length pattern = λ b h. get_or-replicate 256 b (length pattern) 0 h in
    record { size = length-replicate 256 (length pattern); moves = λ b h. rw (all b h) some; most = λ b h. rw (all b h) (omega arith); meets = λ k h. absurd (omega arith) }

-- one byte more
pub entered_more : (pattern table : List ℕ) (i : ℕ) → i + 1 < length pattern → get_or pattern i 0 < 256 →
    Entered pattern i table → Entered pattern (i + 1) (set table (get_or pattern i 0) (length pattern - 1 - i))
entered_more pattern table i inside byte t =
    let size = t.size in
    let shift = length pattern - 1 - i in
    let here : get_or pattern i 0 < length table = omega arith in
    record {
      size = length-set table _ shift ∙ size;
      moves = λ b h. stored (λ (x : ℕ). 0 < x) table _ b shift here (omega arith) (λ ne. t.moves b h);
      most = λ b h. stored (λ (x : ℕ). x ≤ length pattern) table _ b shift here (omega arith) (λ ne. t.most b h);
      meets =
          λ k h.
          stored (λ (x : ℕ). k + 1 + x ≤ length pattern) table _ (get_or pattern k 0) shift here (omega arith)
          (λ ne.
          by_cases (ℕ_discrete k i) (λ e. absurd (ne (ap (λ (n : ℕ). get_or pattern n 0) e))) (λ other. t.meets k (omega arith)));
    }

-- a window that ends with the last byte is to stay
staying : {pattern table : List ℕ} → 0 < length pattern → get_or pattern (last_of pattern) 0 < 256 →
    Entered pattern (last_of pattern) table → Staying pattern (set table (get_or pattern (last_of pattern) 0) 0)
staying {pattern} {table} some byte t =
    let size = t.size in
    let end = get_or pattern (last_of pattern) 0 in
    let here : end < length table = omega arith in
    record {
      moves = λ b h other. rw (get_or-set_other table end b 0 0 other) (t.moves b h);
      most = λ b h. stored (λ (x : ℕ). x ≤ length pattern) table end b 0 here (omega arith) (λ ne. t.most b h);
      meets =
          λ k h.
          stored (λ (x : ℕ). k + 1 + x ≤ length pattern) table end (get_or pattern k 0) 0 here (omega arith)
          (λ ne.
          by_cases (ℕ_discrete k (last_of pattern)) (λ e. absurd (ne (ap (λ (n : ℕ). get_or pattern n 0) e))) (λ other. t.meets k (omega arith)));
    }

-- ---- offsets that are passed over
all_places_lem : (haystack pattern : List ℕ) → 0 < length pattern → places_of haystack pattern ≡ places_below haystack pattern (length haystack)
unfolding places_of
all_places_lem haystack [] some = absurd (omega arith)
all_places_lem haystack (p ∷ pattern) some = refl

pub empty_nowhere : (haystack pattern : List ℕ) → length pattern ≡ 0 → places_of haystack pattern ≡ []
unfolding places_of
empty_nowhere haystack [] e = refl
empty_nowhere haystack (p ∷ pattern) e = absurd (omega arith)

module _ (haystack pattern : List ℕ) where
  -- where there is no place from n on, the places below m are those below n
  passed : (n m : ℕ) → n ≤ m → ((o : ℕ) → n ≤ o → o < m → stands_at haystack pattern o ≡ false) →
      places_below haystack pattern m ≡ places_below haystack pattern n
  unfolding places_below place_at
  passed n =
      le_ind
      (λ (m : ℕ). ((o : ℕ) → n ≤ o → o < m → stands_at haystack pattern o ≡ false) → places_below haystack pattern m ≡ places_below haystack pattern n)
      (λ none. refl)
      (λ m h more none. simp (none m h (omega arith), append-nil) (more (λ o from below. none o from (omega arith))))

  -- the places below m are those below n, then n if it is one, then more
  grown : (n m : ℕ) → n < m → (more : List ℕ) × (places_below haystack pattern m ≡ places_below haystack pattern n ++ (place_at haystack pattern n ++ more))
  unfolding places_below
  grown n =
      le_ind
      (λ (m : ℕ). (more : List ℕ) × (places_below haystack pattern m ≡ places_below haystack pattern n ++ (place_at haystack pattern n ++ more)))
      ([], rw append-nil)
      (λ m h more. (more.0 ++ place_at haystack pattern m, rw more.1 (simp append_assoc)))

  -- no place is left where the window ends behind the haystack
  pub ended : (at : ℕ) → 0 < length pattern → at ≤ length haystack → length haystack < at + length pattern →
      places_of haystack pattern ≡ places_below haystack pattern at
  ended at some inside behind =
      all_places_lem haystack pattern some
      ∙ passed at (length haystack) inside
      (λ o from below. (not-eq-not {b = false}).0 (λ h. omega (arith, stands_fits haystack pattern o some h)))

  -- a window that ends at i, with a byte that the pattern's first n bytes let it go on by the shift
  module _ (i shift n : ℕ) (some : 0 < length pattern) (whole : last_of pattern ≤ i) (most : shift ≤ length pattern) (part : n ≤ length pattern)
      (meets : (k : ℕ) → k < n → get_or haystack i 0 ≡ get_or pattern k 0 → k + 1 + shift ≤ length pattern) where
    -- at a place between, the pattern would hold the byte at i, and no shift goes further than to such a place
    between : (o : ℕ) → i < o + n → o < i + shift - last_of pattern → stands_at haystack pattern o ≡ false
    between o from below =
        (not-eq-not {b = false}).0
        (λ h.
        let under : o + (i - o) ≡ i = omega arith in
        let held : i - o < length pattern = omega arith in
        let same : get_or haystack i 0 ≡ get_or pattern (i - o) 0 = rw under at (stands_byte haystack pattern o h (i - o) held) in
        let reach : i - o + 1 + shift ≤ length pattern = meets (i - o) (omega arith) same in
        omega arith)

    -- THE LAW: the window goes on by the shift and passes no place
    goes_on : (start : ℕ) → start + n ≡ i + 1 → start ≤ i + shift - last_of pattern →
        places_below haystack pattern (i + shift - last_of pattern) ≡ places_below haystack pattern start
    goes_on start e le = passed start (i + shift - last_of pattern) le (λ o from below. between o (omega arith) below)

  -- from a window that ends with the pattern's last byte, by the shift that was in the table before,
  shifted : {table : List ℕ} → Entered pattern (last_of pattern) table → (i : ℕ) → 0 < length pattern → last_of pattern ≤ i →
      get_or pattern (last_of pattern) 0 < 256 → get_or haystack i 0 ≡ get_or pattern (last_of pattern) 0 →
      let shift = get_or table (get_or pattern (last_of pattern) 0) 0 in
      places_below haystack pattern (i + shift - last_of pattern) ≡ places_below haystack pattern (i - last_of pattern + 1)
  shifted {table} t i some whole byte ends =
      let moves = t.moves _ byte in
      let same : (k : ℕ) → k < last_of pattern → get_or haystack i 0 ≡ get_or pattern k 0 → k + 1 + get_or table (get_or pattern (last_of pattern) 0) 0 ≤ length pattern =
      λ k below e. rw (sym ends ∙ e) (t.meets k below) in
      goes_on i _ (last_of pattern) some whole (t.most _ byte) (omega arith) same (i - last_of pattern + 1) (omega arith) (omega arith)

module _ {haystack pattern table : List ℕ} {from : ℕ} (w : Windows haystack pattern table from) where
  pub pass_none : Skips haystack pattern from from
  pass_none = record { on = omega arith; inside = w.inside; none = refl }

  -- and from any window by the table's
  pub pass_more : {i j : ℕ} → i < length haystack → (j ≡ i + get_or table (get_or haystack i 0) 0) × (get_or haystack i 0 < 256) → Skips haystack pattern from i →
      Skips haystack pattern from j × (i ≤ j) × (j ≤ i + length pattern)
  pass_more {i} {j} inside (e, byte) p =
      let shift = get_or table (get_or haystack i 0) 0 in
      let most = w.shifts.most _ byte in
      let same : (k : ℕ) → k < length pattern → get_or haystack i 0 ≡ get_or pattern k 0 → k + 1 + shift ≤ length pattern = λ k below e. rw e (w.shifts.meets k below) in
      let whole : last_of pattern ≤ i = omega (arith, w.whole, p.on) in
      let some = w.some in (
        record {
          on = omega (arith, p.on);
          inside = omega arith;
          none = rw e (goes_on haystack pattern i shift (length pattern) some whole most (omega arith) same (i - last_of pattern) (omega arith) (omega arith) ∙ p.none);
        },
        omega arith,
        omega arith,
      )

  pub at_most : AtMost (length haystack) table
  at_most b h = omega (arith, w.shifts.most b h, w.fits)

  -- three shifts move a window that then does not end with the last byte
  pub moved : {i j k l : ℕ} → get_or haystack i 0 < 256 → j ≡ i + get_or table (get_or haystack i 0) 0 → j ≤ k → k ≤ l →
      (get_or haystack l 0 ≡ get_or pattern (last_of pattern) 0 → ⊥) → i < l
  moved {i} {j} {k} {l} byte e m n other =
      by_cases (ℕ_discrete i l) (λ q. omega (arith, w.shifts.moves _ byte (λ end. other (rw (sym q) end)))) (λ ne. omega arith)

-- a table by which windows stay, and how far one then goes on that ends with the last byte
pub record Slides (haystack pattern table : List ℕ) (on : ℕ) : Type 0 where
  pub windows : (i : ℕ) → last_of pattern ≤ i → i - last_of pattern ≤ length haystack → Windows haystack pattern table i
  pub moves : 0 < on
  pub most : on ≤ length pattern
  pub passes : (i : ℕ) → last_of pattern ≤ i → get_or haystack i 0 ≡ get_or pattern (last_of pattern) 0 →
      places_below haystack pattern (i + on - last_of pattern) ≡ places_below haystack pattern (i - last_of pattern + 1)

pub slides : {haystack pattern table new : List ℕ} {on : ℕ} → (0 < length pattern) × ((length pattern ≤ length haystack) × (length haystack ≤ largest_region)) →
    get_or pattern (last_of pattern) 0 < 256 → Entered pattern (last_of pattern) table →
    (on ≡ get_or table (get_or pattern (last_of pattern) 0) 0) × (new ≡ set table (get_or pattern (last_of pattern) 0) 0) → Slides haystack pattern new on
slides {haystack} {pattern} (some, (fits, small)) byte t (e, stored) = record {
  windows =
      λ i whole inside.
      record { some = some; fits = fits; small = small; whole = whole; inside = inside; shifts = rw stored (staying some byte t) };
  moves = rw e (t.moves _ byte);
  most = rw e (t.most _ byte);
  passes = λ i whole ends. rw e (shifted haystack pattern t i some whole byte ends);
}

-- ---- the places seen so far

-- what the offsets below `at` have made of the old list, and how many are places
pub record Seen (haystack pattern old : List ℕ) (at : ℕ) (places : List ℕ) (n : ℕ) : Type 0 where
  pub count : n ≡ length (places_below haystack pattern at)
  pub room : n ≤ length old
  pub list : places ≡ overlay (places_below haystack pattern at) old

pub seen_none : {haystack pattern old : List ℕ} → Seen haystack pattern old 0 old 0
unfolding places_below
seen_none = record { count = refl; room = omega arith; list = refl }

module _ {haystack pattern old places : List ℕ} {at n : ℕ} (s : Seen haystack pattern old at places n) where
  pub seen_length : length places ≡ length old
  seen_length = rw s.list (overlay_length (places_below haystack pattern at) old (omega arith))

  -- the offsets up to the next are passed over
  pub seen_on : {next : ℕ} → places_below haystack pattern next ≡ places_below haystack pattern at → Seen haystack pattern old next places n
  seen_on e = record { count = rw e s.count; room = s.room; list = rw e s.list }

  -- no place follows
  pub seen_all : places_of haystack pattern ≡ places_below haystack pattern at →
      (Done n ≡ filled_by (length (places_of haystack pattern)) (length old)) × (places ≡ laid (places_of haystack pattern) old)
  seen_all e =
      let found = places_below haystack pattern at in
      let fits : length found ≤ length old = omega arith in
      rw e (rw s.count (sym (simp (le-leb _ _ fits))), rw (take_all (length old) found fits) s.list)

  -- `at` is no place,
  pub seen_past : stands_at haystack pattern at ≡ false → Seen haystack pattern old (at + 1) places n
  unfolding places_below
  seen_past h =
      let e = place_none haystack pattern at h in
      record { count = rw (add-one, e, append-nil) s.count; room = s.room; list = rw (add-one, e, append-nil) s.list }

  -- or it is one that has room,
  pub seen_put : stands_at haystack pattern at ≡ true → n < length places → Seen haystack pattern old (at + 1) (set places n at) (n + 1)
  unfolding places_below
  seen_put h fits =
      let e = place_here haystack pattern at h in
      let found = places_below haystack pattern at in
      let size = seen_length in
      let next : places_below haystack pattern (at + 1) ≡ found ++ at ∷ [] = rw (add-one, e) refl in
      record {
        count = rw (next, length-append) (omega (arith, s.count));
        room = omega arith;
        list = rw (next, s.list, s.count) (overlay_more found (at ∷ []) old (omega (arith, s.count)));
      }

  -- or one too many
  pub seen_full : stands_at haystack pattern at ≡ true → 0 < length pattern → at < length haystack → n ≡ length places →
      (Full n ≡ filled_by (length (places_of haystack pattern)) (length old)) × (places ≡ laid (places_of haystack pattern) old)
  seen_full h some inside full =
      let found = places_below haystack pattern at in
      let (more, e) = grown haystack pattern at (length haystack) inside in
      let here = place_here haystack pattern at h in
      let size : n ≡ length old = full ∙ seen_length in
      let longer : length old < length (found ++ (at ∷ [] ++ more)) = simp length-append (omega (arith, s.count)) in
      rw (all_places_lem haystack pattern some, e, here) (
        rw size (sym (simp (lt-leb _ _ longer))),
        rw (take_at found (at ∷ [] ++ more) (length old) (omega (arith, s.count))) s.list,
      )

-- ---- the answer
-- THE LAW: behind the check it is what the search came to
pub searched : (haystack pattern old : List ℕ) {r : Filled} {list : List ℕ} → length haystack ≤ largest_region →
    (r ≡ filled_by (length (places_of haystack pattern)) (length old)) × (list ≡ laid (places_of haystack pattern) old) →
    FillsList (search_filling haystack pattern old) (list_outcome (Ok r) list)
searched haystack pattern old fits (e, l) = list_filled _ _ (simp (le-ltb largest_region (length haystack) fits)) (ap Ok e) l
