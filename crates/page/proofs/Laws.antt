-- What other crates rest on: they cite these laws and unfold no definition of this one.
-- Assumes nothing.
use Rattle.std.specs.Prelude.{Err, Ok}
use Prim.Native.Nat.{ℕ, zero, suc, ◌+◌, ◌*◌, ◌/◌, ◌≤◌, ◌<◌}
use mathlib.Core.Path.{◌≡◌, refl, sym, ap}
use mathlib.Core.Bool.{Bool, true, false, cond, ◌||◌, and-eq-true_iff}
use mathlib.Core.List.{List, [], ◌∷◌}
use native.Mathlib.Nat.{add-zero, sub-zero, suc-sub-suc, suc-mul, le-div_iff_mul-le}
use native.Mathlib.Omega.{arith}
use borrow.Author.Rules.{rules}
use borrow.Author.Tests.{le-leb, lt-leb, leb-true, eqb-true, ltb-false, not-false}
use lib.Dec.{leb, eqb}
use lib.ListN.{length, get_or, length-take, length-drop}
use Rattle.record.specs.Value.{big_endian}
use Rattle.page.specs.declared.btree.Page.{Page}
use Rattle.sheet.proofs.Laws.{none_holds}
use Rattle.sheet.specs.Limits.{largest_region}
use Rattle.sheet.specs.Refusal.{first_held, after}
use Rattle.sheet.specs.Refusal.{Checked}
use Rattle.sheet.specs.declared.refusal.Refusal.{Refusal}
use Rattle.page.specs.Page.{among, page_sizes, size_fits, has_page, start_of, page_of, head_of, page_checks, page_answer}

-- THE LAW: what is among numbers of a range is in the range
abbrev Within : ℕ → ℕ → List ℕ → Type 0
Within low high [] = Unit
Within low high (m ∷ ms) = (low ≤ m) × (m ≤ high) × Within low high ms

among_within : (n low high : ℕ) (ms : List ℕ) → Within low high ms → among n ms ≡ true → (low ≤ n) × (n ≤ high)
among_within n low high [] w h = absurd (let z : ◌≡◌ {A = ℕ} 0 1 = cc in omega arith)
among_within n low high (m ∷ ms) w h = go (eqb n m) refl h (λ k. among_within n low high ms w.2 k)
  where
    go : (b : Bool) → eqb n m ≡ b → (b || among n ms) ≡ true → (among n ms ≡ true → (low ≤ n) × (n ≤ high)) → (low ≤ n) × (n ≤ high)
    go true e k rest = let z = eqb-true n m e in (omega (arith, w.0), omega (arith, w.1))
    go false e k rest = rest k

-- THE LAW: a page size is from 512 to 65,536
pub size_range : (size : ℕ) → size_fits size ≡ true → (512 ≤ size) × (size ≤ 65536)
unfolding size_fits
size_range size h = among_within size 512 65536 page_sizes (search rules) h

-- ---- a number of two bytes
pub two_bytes : (s : List ℕ) (at x y : ℕ) → x ≡ get_or s at 0 → y ≡ get_or s (at + 1) 0 → x * 256 + y ≡ big_endian s at 2
unfolding big_endian
two_bytes s at x y e f = rw (add-zero) (omega arith)

-- ---- a page that is there
module _ (len size p : ℕ) where
  pub page_there : 1 ≤ p → p ≤ len / size → has_page len size p ≡ true
  unfolding has_page
  page_there h n = simp (le-leb 1 p h, le-leb p (len / size) n)

  pub page_zero : p ≡ 0 → has_page len size p ≡ false
  unfolding has_page
  page_zero h = simp (lt-leb 1 p (omega arith))

  pub page_behind : len / size < p → has_page len size p ≡ false
  unfolding has_page
  page_behind h = simp (le-leb 1 p (omega arith), lt-leb p (len / size) h)

  pub there_page : has_page len size p ≡ true → (1 ≤ p) × (p ≤ len / size)
  unfolding has_page
  there_page h = let b = (and-eq-true_iff (leb 1 p) (leb p (len / size))).0 h in (leb-true 1 p b.0, leb-true p (len / size) b.1)

-- THE LAW: it lies in the database,
pub page_inside : (len size p : ℕ) → 0 < size → 1 ≤ p → p ≤ len / size → start_of size p + size ≤ len
page_inside len size zero s h n = absurd (omega arith)
page_inside len size (suc i) s h n = rw (suc-sub-suc, sub-zero, ← suc-mul i size) ((le-div_iff_mul-le {k = size} s).0 n)

-- and is as long as it should be
pub page_length : (db : List ℕ) (size p : ℕ) → start_of size p + size ≤ length db → length (page_of db size p) ≡ size
page_length db size p h = simp (length-take, length-drop) (omega arith)

pub head_low : (p : ℕ) → head_of p ≤ 100
head_low p = low (eqb p 1)
  where
    low : (b : Bool) → cond b 100 0 ≤ 100
    low true = omega arith
    low false = omega arith

-- ---- a page that was asked for

-- where it lies
abbrev page_at : ℕ → ℕ → Page
page_at size p = record { start = start_of size p; len = size; head = head_of p }

module _ (len size p : ℕ) where
  pub paged_refused : (r : Refusal) → page_answer len size p ≡ Err r → first_held (page_checks len size p) ≡ Err r
  unfolding page_answer
  paged_refused r e = go (first_held (page_checks len size p)) e
    where
      go : (c : Checked) → after Err c (Ok (page_at size p)) ≡ Err r → c ≡ Err r
      go (Ok tt) d = cc
      go (Err x) d = cc

  -- it passed the checks, and lies where it should
  pub record PagedAt (start length head : ℕ) : Type 0 where
    pub passed : first_held (page_checks len size p) ≡ (Ok tt)
    pub starts : start ≡ start_of size p
    pub long : length ≡ size
    pub heads : head ≡ head_of p
    pub inside : start + length ≤ len
    pub small : len ≤ largest_region

  pub paged_at : (page : Page) → page_answer len size p ≡ Ok page → PagedAt page.start page.len page.head
  unfolding page_answer
  paged_at page e = go (first_held (page_checks len size p)) refl e
    where
      go : (c : Checked) → first_held (page_checks len size p) ≡ c → after Err c (Ok (page_at size p)) ≡ Ok page → PagedAt page.start page.len page.head
      go (Ok tt) f d =
          let n = none_holds (page_checks len size p) f in
          let t = there_page len size p (not-false _ n.1.1.0) in
          let same : page ≡ page_at size p = cc in
          let s : page.start ≡ start_of size p = ap (λ (q : Page). q.start) same in
          let l : page.len ≡ size = ap (λ (q : Page). q.len) same in
          let h : page.head ≡ head_of p = ap (λ (q : Page). q.head) same in
          let range = size_range size (not-false _ n.1.0) in
          record {
            passed = f;
            starts = s;
            long = l;
            heads = h;
            inside = rw (s, l) (page_inside len size p (omega (arith, range.0)) t.0 t.1);
            small = ltb-false largest_region len n.0;
          }
      go (Err x) f d = cc
