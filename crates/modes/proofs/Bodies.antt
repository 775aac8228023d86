-- Bodies one behind the other: each column by its body's length, and where they end.
-- Assumes nothing.
use Rattle.std.specs.Prelude.{None, Some}
use Prim.Native.Nat.{ℕ, ◌+◌, ◌≤◌, ◌<◌}
use mathlib.Core.Path.{◌≡◌, refl}
use mathlib.Core.List.{List, [], ◌∷◌, ◌++◌}
use native.Mathlib.Omega.{arith}
use borrow.Author.Tests.{le-leb, lt-leb}
use lib.ListN.{length}
use Rattle.modes.specs.Found.{column_at, behind, columns_from, end_from}
use Rattle.record.proofs.Numbers.{by_order}
use Rattle.record.specs.Value.{body_length}
use Rattle.record.specs.Value.{Length}
use Rattle.sheet.specs.declared.columns.Column.{Column}
use Rattle.sheet.specs.declared.columns.Column.TheVariants.{Body, Unfit}

module _ (len at t : ℕ) where
  pub column_body : (n : ℕ) → body_length t ≡ Some n → at + n ≤ len → column_at len at t ≡ Body t at n
  unfolding column_at
  column_body n l h = simp (l, le-leb (at + n) len h)

  pub column_out : (n : ℕ) → body_length t ≡ Some n → len < at + n → column_at len at t ≡ Unfit t
  unfolding column_at
  column_out n l h = simp (l, lt-leb (at + n) len h)

  pub column_none : body_length t ≡ None → column_at len at t ≡ Unfit t
  unfolding column_at
  column_none l = rw l

  -- THE LAW: it is a body that fits, or none that does
  pub column_cases : (P : Column → Type 0) → ((n : ℕ) → body_length t ≡ Some n → at + n ≤ len → P (Body t at n)) → P (Unfit t) → P (column_at len at t)
  column_cases P fits out = go (body_length t) refl
    where
      go : (l : Length) → body_length t ≡ l → P (column_at len at t)
      go (Some n) l = by_order len (at + n) (λ past. rw (column_out n l past) out) (λ in'. rw (column_body n l in') (fits n l in'))
      go None l = rw (column_none l) out

  -- the next body starts in the slice, and not before this one
  pub behind_inside : at ≤ len → (at ≤ behind at (column_at len at t)) × (behind at (column_at len at t) ≤ len)
  behind_inside h = column_cases (λ x. (at ≤ behind at x) × (behind at x ≤ len)) (λ n l in'. (omega arith, in')) (omega arith, h)

pub columns_nil : (len at : ℕ) → columns_from len at [] ≡ []
unfolding columns_from
columns_nil len at = refl

pub columns_cons : (len at t : ℕ) (ts : List ℕ) → columns_from len at (t ∷ ts) ≡ column_at len at t ∷ columns_from len (behind at (column_at len at t)) ts
unfolding columns_from
columns_cons len at t ts = refl

pub end_nil : (len at : ℕ) → end_from len at [] ≡ at
unfolding end_from
end_nil len at = refl

pub end_cons : (len at t : ℕ) (ts : List ℕ) → end_from len at (t ∷ ts) ≡ end_from len (behind at (column_at len at t)) ts
unfolding end_from
end_cons len at t ts = refl

pub columns_count : (len at : ℕ) (ts : List ℕ) → length (columns_from len at ts) ≡ length ts
columns_count len at [] = rw (columns_nil len at)
columns_count len at (t ∷ ts) = rw (columns_cons len at t ts, columns_count len (behind at (column_at len at t)) ts)

-- THE LAW: bodies end in the slice, and not before they start
pub end_inside : (len at : ℕ) (ts : List ℕ) → at ≤ len → (at ≤ end_from len at ts) × (end_from len at ts ≤ len)
end_inside len at [] h = rw (end_nil len at) (omega arith, h)
end_inside len at (t ∷ ts) h =
    let b = behind_inside len at t h in
    let r = end_inside len (behind at (column_at len at t)) ts b.1 in
    rw (end_cons len at t ts) (omega (arith, b.0, r.0), r.1)

-- THE LAW: the columns of the first types come first
pub columns_first : (len at : ℕ) (ts us : List ℕ) → columns_from len at (ts ++ us) ≡ columns_from len at ts ++ columns_from len (end_from len at ts) us
unfolding columns_from end_from
columns_first len at [] us = refl
columns_first len at (t ∷ ts) us = rw (columns_first len (behind at (column_at len at t)) ts us)

-- one type more
pub columns_one : (len at : ℕ) (ts : List ℕ) (t : ℕ) → columns_from len at (ts ++ (t ∷ [])) ≡ columns_from len at ts ++ (column_at len (end_from len at ts) t ∷ [])
unfolding columns_from
columns_one len at ts t = columns_first len at ts (t ∷ [])

pub end_one : (len at : ℕ) (ts : List ℕ) (t : ℕ) → end_from len at (ts ++ (t ∷ [])) ≡ behind (end_from len at ts) (column_at len (end_from len at ts) t)
unfolding end_from
end_one len at [] t = refl
end_one len at (u ∷ ts) t = end_one len (behind at (column_at len at u)) ts t
