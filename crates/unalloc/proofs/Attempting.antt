-- One attempt: each way out, and what is known of a row that is found.
-- Assumes nothing.
use Rattle.std.specs.Prelude.{None, Some}
use Prim.Native.Nat.{ℕ, ◌+◌, ◌-◌, ◌≤◌, ◌<◌}
use mathlib.Core.Path.{◌≡◌, refl, sym, ◌∙◌}
use mathlib.Core.Bool.{Bool, true, false, cond, ◌&&◌, ◌||◌}
use mathlib.Core.List.{List}
use native.Mathlib.Omega.{arith}
use borrow.Author.Tests.{le-leb, lt-leb, le-ltb, lt-ltb}
use lib.Dec.{ltb}
use lib.ListN.{length, get_or}
use Rattle.modes.proofs.Reading.{typed}
use Rattle.modes.proofs.Trying.{find_fits, again}
use Rattle.modes.specs.Found.{Types, cut, read, types_from, columns_from, Found, miss, hit}
use Rattle.modes.specs.Inner.{WholeIs, HitIs}
use Rattle.modes.proofs.Trying.{never}
use Rattle.record.proofs.Laws.{varint_lies, varint_low, varint_large}
use Rattle.record.proofs.Numbers.{by_order}
use Rattle.record.specs.Places.{types_padded, header_padded}
use Rattle.record.specs.Varint.{varint_at}
use Rattle.record.specs.declared.varint.Cursor.{Cursor}
use Rattle.record.specs.Varint.{Varint}
use Rattle.sheet.specs.Limits.{most_columns, largest_region, most_header}
use Rattle.unalloc.specs.Inner.{Headed, AllIs, FailsIs}
use Rattle.unalloc.specs.Learned.{matched, learned_style, all_there, judged, judged_types, attempt_at}

-- ---- the types
module _ (s ls : List ℕ) (o h : ℕ) (p : Bool) (ts : List ℕ) where
  judged_out : all_there (columns_from (length s) (o + h) ts) ≡ false → judged s ls o h p ts ≡ miss
  unfolding judged
  judged_out e = rw e (go (ltb 0 (matched ls ts)))
    where
      go : (b : Bool) → cond (b && false) (hit (record { style = learned_style (matched ls ts) (length ls); at = o; start = o + h; types = ts; padded = p })) miss ≡ miss
      go true = refl
      go false = refl

  judged_none : matched ls ts ≡ 0 → judged s ls o h p ts ≡ miss
  unfolding judged
  judged_none z = simp (le-ltb 0 (matched ls ts) (omega arith))

  judged_hit : 0 < matched ls ts → all_there (columns_from (length s) (o + h) ts) ≡ true
      → judged s ls o h p ts ≡ hit (record { style = learned_style (matched ls ts) (length ls); at = o; start = o + h; types = ts; padded = p })
  unfolding judged
  judged_hit some e = simp (lt-ltb 0 (matched ls ts) some, e)

  -- what a row that is found says of itself
  judged_found : (x : Found) → judged s ls o h p ts ≡ hit x → (x.at ≡ o) × (x.start ≡ o + h) × (x.style.lost ≡ 0) × (x.types ≡ ts)
  unfolding judged
  judged_found x e = go (ltb 0 (matched ls ts) && all_there (columns_from (length s) (o + h) ts)) e
    where
      go : (b : Bool) → cond b (hit (record { style = learned_style (matched ls ts) (length ls); at = o; start = o + h; types = ts; padded = p })) miss ≡ hit x
          → (x.at ≡ o) × (x.start ≡ o + h) × (x.style.lost ≡ 0) × (x.types ≡ ts)
      go true e =
          let is : learned_style (matched ls ts) (length ls) ≡ x.style = cc in
          (cc, cc, rw (← is), cc)
      go false e = never e

-- ---- the header
module _ (s ls : List ℕ) (o : ℕ) where
  pub attempt_short : varint_at s o ≡ None → attempt_at s ls o ≡ miss
  unfolding attempt_at
  attempt_short e = rw e

  module _ (h : ℕ) (c : Cursor) (e : varint_at s o ≡ Some (h, c)) where
    pub attempt_bad : (h ≤ most_header → c.at - o ≤ h → h ≤ length s - o → ⊥) → attempt_at s ls o ≡ miss
    unfolding attempt_at
    attempt_bad no' =
        by_order most_header h
        (λ long. simp (e, lt-leb h most_header long))
        (λ short.
        by_order h (c.at - o)
        (λ low. simp (e, le-leb h most_header short, lt-leb (c.at - o) h low))
        (λ own.
        by_order (length s - o) h
        (λ past. simp (e, le-leb h most_header short, le-leb (c.at - o) h own, lt-leb h (length s - o) past))
        (λ fits. absurd (no' short own fits))))

    module _ (short : h ≤ most_header) (own : c.at - o ≤ h) (fits : h ≤ length s - o) where
      attempt_is : attempt_at s ls o ≡ judged_types s ls o h (header_padded (length ls) s c (o + h)) (types_from (length ls) s c.at (o + h))
      unfolding attempt_at
      attempt_is = simp (e, le-leb h most_header short, le-leb (c.at - o) h own, le-leb h (length s - o) fits)

      pub attempt_fails : FailsIs s (o + h) (types_from (length ls) s c.at (o + h)) → attempt_at s ls o ≡ miss
      attempt_fails f = attempt_is ∙ go (types_from (length ls) s c.at (o + h)) f
        where
          go : (w : Types) → FailsIs s (o + h) w → judged_types s ls o h (header_padded (length ls) s c (o + h)) w ≡ miss
          go cut f = refl
          go (read ts end) f = judged_out s ls o h (header_padded (length ls) s c (o + h)) ts f

      module _ (count n : ℕ) (padded : Bool) (w : AllIs s ls (o + h) (types_from (length ls) s c.at (o + h)) (types_padded (length ls) s c.at (o + h)) count n padded) where
        abbrev mark : Bool
        mark = c.padded || padded

        pub attempt_none : n ≡ 0 → attempt_at s ls o ≡ miss
        attempt_none z = attempt_is ∙ rw (w.is, w.marks) (judged_none s ls o h mark w.types (w.matches_are ∙ z))

        abbrev whole : WholeIs (types_from (length ls) s c.at (o + h)) (types_padded (length ls) s c.at (o + h)) count w.end padded
        whole = record { types = w.types; is = w.is; counts = w.counts; marks = w.marks }

        pub attempt_hit : 0 < n → HitIs s (length ls) (attempt_at s ls o) (record { style = learned_style n (length ls); at = o; from = c.at; count = count; start = o + h; padded = mark })
        attempt_hit some =
            let v = varint_lies s o h c e in
            let types = again s (length ls) (learned_style n (length ls)) o (o + h) (length ls) c.at (o + h) count w.end mark whole v.inside in
            record {
              is = attempt_is ∙ rw (w.is, w.marks) (judged_hit s ls o h mark w.types (rw w.matches_are some) w.there ∙ rw (w.matches_are, types));
              fits =
                  find_fits s (length ls) (learned_style n (length ls)) o (o + h) (length ls) c.at (o + h) count w.end mark whole v.inside (omega arith) (omega (arith, v.past, v.inside)) (omega arith) (omega arith);
            }

        pub few_match : n ≤ length ls
        few_match = omega (arith, w.few, w.counts, (typed (length ls) s c.at (o + h) w.types w.end (varint_lies s o h c e).inside w.is).few)

      pub headed : length s ≤ largest_region → length ls ≤ most_columns → Headed s ls c.at (o + h)
      headed small few =
          let v = varint_lies s o h c e in
          record { small = small; few = few; inside = v.inside; within = omega (arith, v.past, v.inside) }

-- ---- the first byte
module _ (s ls : List ℕ) (o first : ℕ) (inside : o < length s) (is : first ≡ get_or s o 0) where
  pub begins_empty : first ≡ 0 → attempt_at s ls o ≡ miss
  begins_empty z =
      let v = varint_low s o inside (omega arith) in
      attempt_bad s ls o _ _ v (λ p q r. omega arith)

  pub begins_large : 133 ≤ first → first < 256 → attempt_at s ls o ≡ miss
  begins_large big byte = go (varint_at s o) refl
    where
      go : (v : Varint) → varint_at s o ≡ v → attempt_at s ls o ≡ miss
      go (Some (n, c)) e = attempt_bad s ls o n c e (λ p q r. omega (arith, varint_large s o (rw is at big) (rw is at byte) n c e))
      go None e = attempt_short s ls o e

-- ---- a row that is found: it stands where it was looked for, its bodies start behind that, in the region, and it has no more columns than were learned
pub record AttemptIs (s ls : List ℕ) (o : ℕ) (x : Found) : Type 0 where
  pub at_is : x.at ≡ o
  pub past : o < x.start
  pub inside : x.start ≤ length s
  pub few : x.style.lost + length x.types ≤ length ls

-- THE LAW
pub attempt_found : (s ls : List ℕ) (o : ℕ) (x : Found) → attempt_at s ls o ≡ hit x → AttemptIs s ls o x
attempt_found s ls o x e = with_length (varint_at s o) refl
  where
    by_types : (h next : ℕ) → 0 < h → o + h ≤ length s → next ≤ length s → (p : Bool) (w : Types) → types_from (length ls) s next (o + h) ≡ w → judged_types s ls o h p w ≡ hit x → AttemptIs s ls o x
    by_types h next some in' near p cut w e = never e
    by_types h next some in' near p (read ts end) w e =
        let f = judged_found s ls o h p ts x e in
        let few = (typed (length ls) s next (o + h) ts end near w).few in
        record { at_is = f.0; past = rw f.1 (omega arith); inside = rw f.1 in'; few = rw (f.2, f.3) (omega arith) }

    with_length : (v : Varint) → varint_at s o ≡ v → AttemptIs s ls o x
    with_length None v = never (sym (attempt_short s ls o v) ∙ e)
    with_length (Some (h, c)) v =
        let z = varint_lies s o h c v in
        by_order most_header h
        (λ long. never (sym (attempt_bad s ls o h c v (λ p q r. omega arith)) ∙ e))
        (λ short.
        by_order h (c.at - o)
        (λ low. never (sym (attempt_bad s ls o h c v (λ p q r. omega arith)) ∙ e))
        (λ own.
        by_order (length s - o) h
        (λ past. never (sym (attempt_bad s ls o h c v (λ p q r. omega arith)) ∙ e))
        (λ fits.
        by_types h c.at (omega (arith, z.past)) (omega (arith, z.past, z.inside)) z.inside (header_padded (length ls) s c (o + h)) (types_from (length ls) s c.at (o + h)) refl (sym (attempt_is s ls o h c v short own fits) ∙ e))))
