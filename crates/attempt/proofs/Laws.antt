-- What other crates rest on: they cite these laws and unfold no definition of this one.
-- Assumes nothing.
use Rattle.std.specs.Prelude.{None, Some}
use Prim.Native.Nat.{ℕ, suc, ◌+◌, ◌-◌, ◌≤◌, ◌<◌}
use mathlib.Core.Path.{◌≡◌, refl, ap, ◌∙◌}
use mathlib.Core.Bool.{Bool, true, false, cond, ◌&&◌}
use mathlib.Core.List.{List, [], ◌∷◌}
use native.Mathlib.Omega.{arith}
use lib.Dec.{leb, eqb, ltb}
use lib.ListN.{length, length-append}
use borrow.Author.Tests.{leb-true, eqb-true, ltb-true}
use Rattle.attempt.specs.Attempt.{Types, is_whole, kinds, Bodies, unfit, laid, bodies_from, Found, miss, hit, sized, judged, judged_whole, header_fits, attempt_with, attempt_at, types_from, most_bytes}
use Rattle.attempt.specs.Hints.{suits, suited}
use Rattle.attempt.specs.Inner.{body_size, columns_at, header_types, judged_header}
use Rattle.attempt.specs.Places.{most_places, attempt_places}
use Rattle.attempt.proofs.Bodies.{laid_ends}
use Rattle.attempt.proofs.Judging.{attempt_bad, headed, read_all, places_is, places_short, fits_is}
use Rattle.record.proofs.Laws.{varint_lies, varint_reach, places_count}
use Rattle.record.specs.Places.{varint_places, header_padded}
use Rattle.record.specs.Varint.{varint_at}
use Rattle.record.specs.declared.varint.Cursor.{Cursor}
use Rattle.record.specs.Varint.{Varint}
use Rattle.sheet.specs.Limits.{most_header}

-- THE LAW: an attempt has at most 520 header places
pub places_few : (s : List ℕ) (o : ℕ) → length (attempt_places s o) ≤ most_places
places_few s o = go (varint_at s o) refl
  where
    go : (v : Varint) → varint_at s o ≡ v → length (attempt_places s o) ≤ most_places
    go None e = rw (places_short s o e) (omega (arith, length-append (varint_places s o) [], places_count s o, (varint_reach s o).near))
    go (Some (h, c)) e = by_fit (header_fits (length s) o h) refl
      where
        by_fit : (b : Bool) → header_fits (length s) o h ≡ b → length (attempt_places s o) ≤ most_places
        by_fit false f = let m = attempt_bad s [] o h c e f in omega (arith, m.counts, m.few)
        by_fit true f =
            let z = varint_lies s o h c e in
            let k = fits_is (length s) o h f in
            let r = read_all s [] o h c.at (headed s o h c e k.0 k.1 k.2 (omega (arith, z.past, z.inside))) in
            rw (places_is s o h c e f) (omega (arith, r.0, r.1))

-- THE LAW: nothing stands at the end or behind it
pub attempt_beyond : (s hints : List ℕ) (o : ℕ) → length s ≤ o → attempt_at s hints o ≡ miss
unfolding attempt_at
attempt_beyond s hints o h = go (varint_at s o) refl
  where
    go : (v : Varint) → varint_at s o ≡ v → attempt_with s hints o v ≡ miss
    go (Some (n, c)) e = let z = varint_lies s o n c e in absurd (omega (arith, z.past, z.inside))
    go None e = refl

pub columns_at-length : (at : ℕ) (ts : List ℕ) → length (columns_at at ts) ≡ length ts
columns_at-length at [] = refl
columns_at-length at (t ∷ ts) = ap suc (columns_at-length (at + body_size t) ts)

-- no more types suit than there are hints
suited_few : (hs ts : List ℕ) → suited hs ts ≤ length hs
suited_few hs [] = omega arith
suited_few [] (t ∷ ts) = omega arith
suited_few (h ∷ hs) (t ∷ ts) = go (suits h t) (suited_few hs ts)
  where
    go : (b : Bool) → suited hs ts ≤ length hs → cond b 1 0 + suited hs ts ≤ suc (length hs)
    go true n = omega arith
    go false n = omega arith

-- ---- a row that was found
-- no row is none
pub never : {C : Type 0} {x : Found} → miss ≡ hit x → C
never e = let z : ◌≡◌ {A = ℕ} 0 1 = cc in absurd (omega arith)

-- the types of its header of h bytes, whose mark is p, are as many as the hints, and their bodies are its columns
pub record MadeFrom (len : ℕ) (hints : List ℕ) (o h : ℕ) (p : Bool) (ts : List ℕ) (x : Found) : Type 0 where
  pub counts : length ts ≡ length hints
  pub matches : suited hints ts ≡ x.matched
  pub some : 0 < x.matched
  pub bodies : bodies_from len (o + h) ts ≡ laid x.columns (o + x.consumed)
  pub short : x.consumed ≤ most_bytes
  pub marks : p ≡ x.padded

module _ (len : ℕ) (hints : List ℕ) (o h : ℕ) (p : Bool) (x : Found) (inside : o + h ≤ len) where
  laid_as : (ts : List ℕ) (b : Bodies) → bodies_from len (o + h) ts ≡ b → length ts ≡ length hints → 0 < suited hints ts → sized o (suited hints ts) p b ≡ hit x
      → MadeFrom len hints o h p ts x
  laid_as ts unfit d n some e = never e
  laid_as ts (laid cs end) d n some e = go (leb (end - o) most_bytes) refl e
    where
      go : (b : Bool) → leb (end - o) most_bytes ≡ b → cond b (hit (record { consumed = end - o; matched = suited hints ts; columns = cs; padded = p })) miss ≡ hit x
          → MadeFrom len hints o h p ts x
      go false q e = never e
      go true q e =
          let taken : end - o ≡ x.consumed = cc in
          let match : suited hints ts ≡ x.matched = cc in
          let columns : cs ≡ x.columns = cc in
          let mark : p ≡ x.padded = cc in
          let ends : end ≡ o + x.consumed = omega (arith, (laid_ends len (o + h) ts cs end inside d).0) in
          record {
            counts = n;
            matches = match;
            some = rw (← match) some;
            bodies = d ∙ rw (columns, ends);
            short = rw (← taken) (leb-true (end - o) most_bytes q);
            marks = mark;
          }

  -- THE LAW: what a header whose types make a row says of it
  pub made_from : (ts : Types) → judged_whole len hints o h p ts ≡ hit x → MadeFrom len hints o h p (kinds ts) x
  unfolding judged
  made_from ts e = whole (is_whole ts) e
    where
      go : (a b : Bool) → eqb (length (kinds ts)) (length hints) ≡ a → ltb 0 (suited hints (kinds ts)) ≡ b
          → cond (a && b) (sized o (suited hints (kinds ts)) p (bodies_from len (o + h) (kinds ts))) miss ≡ hit x → MadeFrom len hints o h p (kinds ts) x
      go true true m q e =
          laid_as (kinds ts) (bodies_from len (o + h) (kinds ts)) refl (eqb-true (length (kinds ts)) (length hints) m) (ltb-true 0 (suited hints (kinds ts)) q) e
      go true false m q e = never e
      go false b m q e = never e

      whole : (b : Bool) → cond b (judged len hints o h p (kinds ts)) miss ≡ hit x → MadeFrom len hints o h p (kinds ts) x
      whole true e = go (eqb (length (kinds ts)) (length hints)) (ltb 0 (suited hints (kinds ts))) refl refl e
      whole false e = never e

-- and so of an attempt: its header of `head` bytes has its own number, which ends at `next`
pub record HitFrom (s hints : List ℕ) (o : ℕ) (x : Found) : Type 0 where
  pub head : ℕ
  pub next : Cursor
  pub read : varint_at s o ≡ Some (head, next)
  pub low : 2 ≤ head
  pub high : head ≤ most_header
  pub inside : o + head ≤ length s
  pub made : MadeFrom (length s) hints o head (header_padded head s next (o + head)) (kinds (header_types s o head next.at)) x

module _ (s hints : List ℕ) (o : ℕ) (x : Found) where
  -- THE LAW: what an attempt that found a row says of it
  pub hit_from : attempt_at s hints o ≡ hit x → HitFrom s hints o x
  unfolding attempt_at
  hit_from e = with_length (varint_at s o) refl e
    where
      with_length : (v : Varint) → varint_at s o ≡ v → attempt_with s hints o v ≡ hit x → HitFrom s hints o x
      with_length None r e = never e
      with_length (Some (h, c)) r e = go (header_fits (length s) o h) refl e
        where
          go : (b : Bool) → header_fits (length s) o h ≡ b → cond b (judged_header s hints o h c.at (header_padded h s c (o + h))) miss ≡ hit x
              → HitFrom s hints o x
          go false f e = never e
          go true f e =
              let k = fits_is (length s) o h f in
              let v = varint_lies s o h c r in
              let in' : o + h ≤ length s = omega (arith, k.2, v.past, v.inside) in
              record {
                head = h;
                next = c;
                read = r;
                low = k.0;
                high = k.1;
                inside = in';
                made = made_from (length s) hints o h (header_padded h s c (o + h)) x in' (types_from h s c.at (o + h)) e;
              }

  -- THE LAW: a row takes its header's bytes at least, and ends in the region
  pub hit_takes : attempt_at s hints o ≡ hit x → (2 ≤ x.consumed) × (o + x.consumed ≤ length s)
  hit_takes e =
      let f = hit_from e in
      let ends = laid_ends (length s) (o + f.head) (kinds (header_types s o f.head f.next.at)) x.columns (o + x.consumed) f.inside f.made.bodies in
      (omega (arith, ends.0, f.low), ends.1)

  -- THE LAW: some of its types suit, and no more than there are hints
  pub hit_matches : attempt_at s hints o ≡ hit x → (0 < x.matched) × (x.matched ≤ length hints)
  hit_matches e =
      let f = hit_from e in
      (f.made.some, rw f.made.matches at (suited_few hints (kinds (header_types s o f.head f.next.at))))
