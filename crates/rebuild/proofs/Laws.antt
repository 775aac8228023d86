-- What other crates rest on. A header whose length is made up: the code's form, a header of so many bytes, joined to an attempt on the bytes of that
-- length.
-- Assumes nothing.
use Rattle.std.specs.Prelude.{Some, Result, Ok, Err}
use Prim.Native.Nat.{ℕ, ◌+◌, ◌-◌, ◌*◌, ◌/◌, ◌%◌, ◌≤◌, ◌<◌}
use mathlib.Core.Path.{◌≡◌, refl, sym, ap, ◌∙◌}
use mathlib.Core.Bool.{Bool, true, false, cond}
use mathlib.Core.List.{List, [], ◌∷◌, ◌++◌}
use native.Mathlib.Nat.{add-zero}
use native.Mathlib.Omega.{arith}
use borrow.Author.Tests.{le-leb, lt-leb, le-ltb}
use lib.Dec.{leb}
use lib.ListN.{length, drop, length-drop}
use Rattle.attempt.proofs.Shifts.{back_moved, moved_at, given, moved_tried, longer, given_moved, made_up, made_up_cut}
use Rattle.attempt.specs.Attempt.{Tried, miss, hit, kinds, most_bytes}
use Rattle.attempt.specs.Inner.{columns_at, find_types, Judged}
use Rattle.attempt.specs.Moved.{moved, back}
use Rattle.attempt.specs.declared.inner.Find.{Find}
use Rattle.attempt.specs.declared.inner.Miss.{Miss}
use Rattle.rebuild.specs.Header.{one_byte_types, most_type_bytes, own_bytes, length_bytes, no_header, takes, guessed, without, rebuilt_with, rebuilt}
use Rattle.rebuild.specs.Inner.{found_from, short_by, RebuiltIs}
use Rattle.rebuild.specs.declared.rebuilding.Rebuilding.{Rebuilding}
use Rattle.rebuild.specs.declared.rebuilding.Rebuilding.TheVariants.{NoGuesses, OneByte}
use Rattle.record.proofs.Laws.{varint_low, varint_two}
use Rattle.record.proofs.Numbers.{by_order}
use Rattle.record.proofs.Shifts.{part_rest}
use Rattle.record.proofs.Widths.{width_least}
use Rattle.record.specs.Places.{types_padded}
use Rattle.record.specs.Varint.{width_of, varint_at}
use Rattle.sheet.specs.Limits.{most_header}

-- ---- the bytes of a length
pub own_length : (t : ℕ) → length (length_bytes t) ≡ own_bytes t
own_length t = go (leb t one_byte_types)
  where
    go : (b : Bool) → length (cond b ((t + 1) ∷ []) ((128 + (t + 2) / 128) ∷ (t + 2) % 128 ∷ [])) ≡ cond b 1 2
    go true = refl
    go false = refl

-- THE LAW: they read as the bytes of the types and their own, in the shortest form
pub own_read : (t : ℕ) (l : List ℕ) → t ≤ most_type_bytes → varint_at (length_bytes t ++ l) 0 ≡ Some ((length (length_bytes t) + t), (record { at = length (length_bytes t); padded = false }))
own_read t l few = by_order one_byte_types t two one
  where
    one : t ≤ one_byte_types → varint_at (length_bytes t ++ l) 0 ≡ Some ((length (length_bytes t) + t), (record { at = length (length_bytes t); padded = false }))
    one le = let e : t + 1 ≡ 1 + t = omega arith in rw (le-leb t one_byte_types le) (varint_low ((t + 1) ∷ l) 0 (omega arith) (omega arith) ∙ rw e)

    two : one_byte_types < t → varint_at (length_bytes t ++ l) 0 ≡ Some ((length (length_bytes t) + t), (record { at = length (length_bytes t); padded = false }))
    two gt =
        let e : (128 + (t + 2) / 128) % 128 * 128 + (t + 2) % 128 ≡ 2 + t = omega arith in
        let short = le-ltb (width_of (2 + t)) 2 (width_least (2 + t) 1 (omega arith) (omega arith)) in
        rw (lt-leb t one_byte_types gt) (varint_two ((128 + (t + 2) / 128) ∷ (t + 2) % 128 ∷ l) 0 (omega arith) (omega arith) (omega arith) ∙ rw (e, short))

-- ---- what was found at v, said of the bytes from v on
abbrev pub seen_from : ℕ → Tried → Tried
seen_from v miss = miss
seen_from v (hit x) = hit (record { consumed = x.consumed; matched = x.matched; columns = back v x.columns; padded = x.padded })

-- with k bytes more it takes too many, or not
abbrev pub short_only : ℕ → Tried → Tried
short_only k miss = miss
short_only k (hit x) = cond (leb (k + x.consumed) most_bytes) (hit x) miss

both : (k v : ℕ) (t : Tried) → without k (longer k t) ≡ short_only k (seen_from v (moved_tried v t))
both k v miss = refl
both k v (hit x) = rw (back_moved v x.columns) (go (leb (k + x.consumed) most_bytes))
  where
    go : (b : Bool) → without k (cond b (hit (record { consumed = k + x.consumed; matched = x.matched; columns = moved k x.columns; padded = x.padded })) miss)
        ≡ cond b (hit (record { consumed = x.consumed; matched = x.matched; columns = x.columns; padded = x.padded })) miss
    go true = let e : k + x.consumed - k ≡ x.consumed = omega arith in rw (e, back_moved k x.columns)
    go false = refl

module _ (d hints : List ℕ) (v : ℕ) (start : v ≤ length d) (t : ℕ) (some : 1 ≤ t) (few : t ≤ most_type_bytes) where
  sizes : (2 ≤ length (length_bytes t) + t) × (length (length_bytes t) + t ≤ most_header)
  sizes = rw (own_length t) (by_order one_byte_types t (λ gt. rw (lt-leb t one_byte_types gt) (omega arith, omega arith)) (λ le. rw (le-leb t one_byte_types le) (omega arith, omega arith)))

  -- THE LAW: an attempt on the bytes of a header's length is what a header of t bytes makes of the bytes from v on, and those bytes more
  pub behind_made : t ≤ length d - v → rebuilt_with d hints v (takes t) ≡ without (own_bytes t) (longer (own_bytes t) (given (drop v d) hints 0 t))
  behind_made h =
      let l : length (drop v d) ≡ length d - v = length-drop v d in
      let made = made_up (length_bytes t) (drop v d) hints t (own_read t (drop v d) few) sizes.0 sizes.1 (omega arith) in
      ap (λ (r : Tried). without (own_bytes t) r) (rw (own_length t) at made)

  -- which is what it makes at v, but the bytes of its length count among the most that a row may take
  pub behind_is : t ≤ length d - v → rebuilt_with d hints v (takes t) ≡ short_only (own_bytes t) (seen_from v (given d hints v t))
  behind_is h =
      let l : length (drop v d) ≡ length d - v = length-drop v d in
      let moves = given_moved (part_rest d v start) (omega arith) hints 0 t in
      behind_made h
      ∙ (both (own_bytes t) v (given (drop v d) hints 0 t) ∙ ap (λ (r : Tried). short_only (own_bytes t) (seen_from v r)) (sym (rw (add-zero v) at moves)))

  -- and where so many bytes are not left it finds nothing
  behind_cut : length d - v < t → rebuilt_with d hints v (takes t) ≡ miss
  behind_cut h =
      let l : length (drop v d) ≡ length d - v = length-drop v d in
      rw (made_up_cut (length_bytes t) (drop v d) hints t (own_read t (drop v d) few) sizes.0 sizes.1 (omega arith))

  module _ (how : Rebuilding) (guess : guessed how d (length hints) v ≡ takes t) where
    pub rebuilt_with_lem : rebuilt how d hints v ≡ rebuilt_with d hints v (takes t)
    unfolding rebuilt
    rebuilt_with_lem = rw guess

    pub rebuilt_cut : length d - v < t → rebuilt how d hints v ≡ miss
    rebuilt_cut h = rebuilt_with_lem ∙ behind_cut h

    module _ (h : t ≤ length d - v) where
      pub rebuilt_miss : given d hints v t ≡ miss → rebuilt how d hints v ≡ miss
      rebuilt_miss e = rebuilt_with_lem ∙ (behind_is h ∙ rw e)

      -- THE LAW: what such a header tells, and with it the made_up bytes
      pub rebuilt_told : (verdict : Result Find Miss) → Judged d hints v t v (types_padded t d v (v + t)) verdict → RebuiltIs how d hints v (short_by (own_bytes t) verdict)
      rebuilt_told (Err read) m = rebuilt_miss m.misses
      rebuilt_told (Ok x) f = go (leb (own_bytes t + x.consumed) most_bytes) refl
        where
          seen : rebuilt how d hints v ≡ short_only (own_bytes t) (hit (found_from d v x))
          seen =
              let ts = kinds (find_types d v x) in
              rebuilt_with_lem ∙ (behind_is h ∙ rw (f.hits, ← moved_at v x.head ts, back_moved v (columns_at x.head ts)))

          go : (b : Bool) → leb (own_bytes t + x.consumed) most_bytes ≡ b → RebuiltIs how d hints v (short_by (own_bytes t) (Ok x))
          go true e = rw e (record { is = seen ∙ rw e; tried = given d hints v t; places = _; found = f })
          go false e = rw e (seen ∙ rw e)

-- THE LAW: without a header there is no row
pub rebuilt_none : (how : Rebuilding) (d hints : List ℕ) (v : ℕ) → guessed how d (length hints) v ≡ no_header → rebuilt how d hints v ≡ miss
unfolding rebuilt
rebuilt_none how d hints v e = rw e

-- THE LAW: and without guesses there is none anywhere
pub no_guess : (d hints : List ℕ) (v : ℕ) → rebuilt NoGuesses d hints v ≡ miss
unfolding guessed
no_guess d hints v = rebuilt_none NoGuesses d hints v refl

-- the one-byte mode has a byte for each column
pub one_byte_guess : (d : List ℕ) (columns v : ℕ) → guessed OneByte d columns v ≡ takes columns
unfolding guessed
one_byte_guess d columns v = refl
