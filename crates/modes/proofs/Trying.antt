-- What each mode finds, from the types that were read.
-- Assumes nothing.
use Rattle.std.specs.Prelude.{Option, None, Some}
use Prim.Native.Nat.{ℕ, ◌+◌, ◌-◌, ◌≤◌, ◌<◌}
use mathlib.Core.Path.{◌≡◌, refl, sym, ap, ◌∙◌}
use mathlib.Core.Bool.{Bool, ◌||◌}
use mathlib.Core.List.{List, [], ◌∷◌}
use native.Mathlib.Omega.{arith}
use borrow.Author.Tests.{le-leb, lt-leb}
use lib.ListN.{length}
use Rattle.modes.specs.Found.{Types, cut, read, types_from, Found, miss, hit}
use Rattle.modes.specs.Inner.{WholeIs, kinds_at, FindFits, HitIs, TriedIs}
use Rattle.modes.specs.Modes.{normal, first_col_missing, row_of, headed_row, normal_with, normal_at, headless_row, headless_in, first_col_missing_in}
use Rattle.modes.specs.declared.inner.Find.{Find}
use Rattle.modes.specs.declared.inner.Style.{Style}
use Rattle.modes.proofs.Reading.{typed}
use Rattle.record.proofs.Laws.{varint_lies}
use Rattle.record.proofs.Numbers.{by_order}
use Rattle.record.specs.Places.{types_padded, header_padded}
use Rattle.record.specs.Varint.{varint_at}
use Rattle.record.specs.declared.varint.Cursor.{Cursor}
use Rattle.record.specs.Varint.{Varint}

-- ---- a row
-- its own mark may come from a number before the types, too
module _ (s : List ℕ) (columns : ℕ) (style : Style) (o start most from stop count end : ℕ) (mark : Bool) {p padded : Bool} (w : WholeIs (types_from most s from stop) p count end padded) where
  abbrev pub found : Find
  found = record { style = style; at = o; from = from; count = count; start = start; padded = mark }

  row_none : (ts : List ℕ) → length ts ≡ 0 → row_of style o start mark ts ≡ miss
  row_none [] z = refl
  row_none (t ∷ ts) z = absurd (omega arith)

  row_some : (ts : List ℕ) → 0 < length ts → row_of style o start mark ts ≡ hit (record { style = style; at = o; start = start; types = ts; padded = mark })
  row_some [] h = absurd (omega arith)
  row_some (t ∷ ts) h = refl

  pub row_miss : count ≡ 0 → row_of style o start mark w.types ≡ miss
  row_miss z = row_none w.types (w.counts ∙ z)

  module _ (in' : from ≤ length s) where
    -- the types stand where they were read
    pub again : kinds_at count s from ≡ w.types
    again = rw w.counts at (typed most s from stop w.types end in' w.is).again

    pub find_fits : o ≤ start → start ≤ length s → style.lost ≤ 1 → style.lost + most ≤ columns → FindFits s columns found
    find_fits order inside one few =
        record {
          order = order;
          inside = inside;
          counts = ap length again ∙ w.counts;
          one = one;
          few = omega (arith, (typed most s from stop w.types end in' w.is).few, w.counts);
        }

    pub row_hit : o ≤ start → start ≤ length s → style.lost ≤ 1 → style.lost + most ≤ columns → 0 < count → HitIs s columns (row_of style o start mark w.types) found
    row_hit order inside one few some =
        record { is = rw again (row_some w.types (omega (arith, w.counts))); fits = find_fits order inside one few }

-- ---- Normal
-- no row is none
pub never : {C : Type 0} {x : Found} → miss ≡ hit x → C
never e = let z : ◌≡◌ {A = ℕ} 0 1 = cc in absurd (omega arith)

-- it stands where it was looked for, its bodies start behind that, in the slice, and it has no more columns than there may be
pub record NormalIs (s : List ℕ) (columns o : ℕ) (x : Found) : Type 0 where
  pub at_is : x.at ≡ o
  pub past : o < x.start
  pub inside : x.start ≤ length s
  pub few : x.style.lost + length x.types ≤ columns

module _ (s : List ℕ) (columns o : ℕ) where
  pub normal_short : varint_at s o ≡ None → normal_at s columns o ≡ miss
  unfolding normal_at
  normal_short e = rw e

  module _ (h : ℕ) (c : Cursor) (e : varint_at s o ≡ Some (h, c)) where
    pub normal_bad : (c.at - o ≤ h → h ≤ length s - o → ⊥) → normal_at s columns o ≡ miss
    unfolding normal_at
    normal_bad no' =
        by_order h (c.at - o)
        (λ low. simp (e, lt-leb (c.at - o) h low))
        (λ own. by_order (length s - o) h
        (λ past. simp (e, le-leb (c.at - o) h own, lt-leb h (length s - o) past))
        (λ fits. absurd (no' own fits)))

    module _ (own : c.at - o ≤ h) (fits : h ≤ length s - o) where
      normal_is : normal_at s columns o ≡ headed_row o h (header_padded columns s c (o + h)) (types_from columns s c.at (o + h))
      unfolding normal_at
      normal_is = simp (e, le-leb (c.at - o) h own, le-leb h (length s - o) fits)

      pub normal_cut : types_from columns s c.at (o + h) ≡ cut → normal_at s columns o ≡ miss
      normal_cut t = normal_is ∙ rw t

      module _ (count end : ℕ) (padded : Bool) (w : WholeIs (types_from columns s c.at (o + h)) (types_padded columns s c.at (o + h)) count end padded) where
        abbrev mark : Bool
        mark = c.padded || padded

        pub normal_none : count ≡ 0 → normal_at s columns o ≡ miss
        normal_none z = normal_is ∙ rw (w.is, w.marks) (row_miss s columns normal o (o + h) columns c.at (o + h) count end mark w z)

        pub normal_hit : 0 < count → HitIs s columns (normal_at s columns o) (found s columns normal o (o + h) columns c.at (o + h) count end mark w)
        normal_hit some =
            let v = varint_lies s o h c e in
            rw (normal_is, w.is, w.marks)
            (row_hit s columns normal o (o + h) columns c.at (o + h) count end mark w v.inside (omega arith) (omega (arith, v.past, v.inside)) (omega arith) (omega arith) some)

  -- THE LAW: what Normal finds
  pub normal_found_lem : (x : Found) → normal_at s columns o ≡ hit x → NormalIs s columns o x
  unfolding normal_at
  normal_found_lem x e = with_length (varint_at s o) refl e
    where
      by_types : (h next : ℕ) → 0 < h → o + h ≤ length s → next ≤ length s → (p : Bool) (t : Types) → types_from columns s next (o + h) ≡ t → headed_row o h p t ≡ hit x → NormalIs s columns o x
      by_types h next some in' near p cut w e = never e
      by_types h next some in' near p (read [] end) w e = never e
      by_types h next some in' near p (read (t ∷ ts) end) w e =
          let start : o + h ≡ x.start = cc in
          let is : normal ≡ x.style = cc in
          let types : t ∷ ts ≡ x.types = cc in
          let few = (typed columns s next (o + h) (t ∷ ts) end near w).few in
          record { at_is = cc; past = omega arith; inside = omega arith; few = rw (← is, ← types) (omega arith) }

      with_length : (v : Varint) → varint_at s o ≡ v → normal_with s columns o v ≡ hit x → NormalIs s columns o x
      with_length None v e = never e
      with_length (Some (h, c)) v e =
          let z = varint_lies s o h c v in
          by_order h (c.at - o)
          (λ low. never (simp (lt-leb (c.at - o) h low) at e))
          (λ own.
          by_order (length s - o) h
          (λ past. never (simp (le-leb (c.at - o) h own, lt-leb h (length s - o) past) at e))
          (λ fits.
          by_types h c.at (omega (arith, z.past)) (omega (arith, z.past, z.inside)) z.inside (header_padded columns s c (o + h)) (types_from columns s c.at (o + h)) refl
          (simp (le-leb (c.at - o) h own, le-leb h (length s - o) fits) at e)))

-- ---- the other two
module _ (style : Style) (s : List ℕ) (from most : ℕ) where
  pub headless_cut : types_from most s from (length s) ≡ cut → headless_in style s from most ≡ miss
  unfolding headless_in
  headless_cut t = rw t

  module _ (count end : ℕ) (padded : Bool) (w : WholeIs (types_from most s from (length s)) (types_padded most s from (length s)) count end padded) where
    pub headless_none : count ≡ 0 → headless_in style s from most ≡ miss
    unfolding headless_in
    headless_none z = rw (w.is, w.marks) (row_miss s (most + style.lost) style 0 end most from (length s) count end padded w z)

    pub headless_hit : from ≤ length s → style.lost ≤ 1 → 0 < count
        → HitIs s (most + style.lost) (headless_in style s from most) (found s (most + style.lost) style 0 end most from (length s) count end padded w)
    unfolding headless_in
    headless_hit in' one some =
        rw (w.is, w.marks)
        (row_hit s (most + style.lost) style 0 end most from (length s) count end padded w in' (omega arith) (typed most s from (length s) w.types end in' w.is).inside one (omega arith) some)

  -- THE LAW: the other two find no more columns than they look for
  pub headless_few : (x : Found) → from ≤ length s → headless_in style s from most ≡ hit x → x.style.lost + length x.types ≤ style.lost + most
  unfolding headless_in
  headless_few x in' e = by_types (types_padded most s from (length s)) (types_from most s from (length s)) refl e
    where
      by_types : (p : Bool) (t : Types) → types_from most s from (length s) ≡ t → headless_row style p t ≡ hit x → x.style.lost + length x.types ≤ style.lost + most
      by_types p cut w e = never e
      by_types p (read [] end) w e = never e
      by_types p (read (t ∷ ts) end) w e =
          let is : style ≡ x.style = cc in
          let types : t ∷ ts ≡ x.types = cc in
          let few = (typed most s from (length s) (t ∷ ts) end in' w).few in
          rw (← is, ← types) (omega arith)

module _ (s : List ℕ) (columns : ℕ) where
  pub missing_short : length s ≤ 4 → first_col_missing_in s columns ≡ miss
  unfolding first_col_missing_in
  missing_short h = simp (lt-leb 5 (length s) (omega arith))

  module _ (long : 4 < length s) where
    pub missing_few : columns < 2 → first_col_missing_in s columns ≡ miss
    unfolding first_col_missing_in
    missing_few h = simp (le-leb 5 (length s) (omega arith), lt-leb 2 columns h)

    module _ (some : 2 ≤ columns) where
      missing_on : first_col_missing_in s columns ≡ headless_in first_col_missing s 4 (columns - 1)
      unfolding first_col_missing_in
      missing_on = simp (le-leb 5 (length s) (omega arith), le-leb 2 columns some)

      pub missing_is : (r : Option Find) → TriedIs s (columns - 1 + 1) (headless_in first_col_missing s 4 (columns - 1)) r → TriedIs s columns (first_col_missing_in s columns) r
      missing_is r t =
          let n : columns - 1 + 1 ≡ columns = omega arith in
          rw missing_on (rw n at t)

  pub missing_found : (x : Found) → first_col_missing_in s columns ≡ hit x → x.style.lost + length x.types ≤ columns
  missing_found x e =
      by_order 4 (length s)
      (λ long.
      by_order columns 2
      (λ few. never (sym (missing_few long few) ∙ e))
      (λ more. omega (arith, headless_few first_col_missing s 4 (columns - 1) x (omega arith) (sym (missing_on long more) ∙ e))))
      (λ short. never (sym (missing_short short) ∙ e))
