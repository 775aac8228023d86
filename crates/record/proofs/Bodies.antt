-- Where the bytes of a value lie: those of a real, whose bits are read from them, and those that an entry shows.
-- Assumes nothing.
use Rattle.std.specs.Prelude.{None, Some}
use Prim.Native.Nat.{ℕ, zero, suc, zero-le, ◌+◌, ◌≤◌}
use mathlib.Core.Path.{◌≡◌, refl, sym, ap, ◌∙◌}
use mathlib.Core.List.{List, [], ◌∷◌}
use native.Mathlib.Omega.{arith}
use borrow.Author.Tests.{leb-true}
use lib.Dec.{lit<}
use lib.ListN.{length, take, drop, get_or}
use Rattle.record.specs.Entry.{read_entry, value_bytes, shown, entry_bytes}
use Rattle.record.specs.Inner.{BodyThere}
use Rattle.record.specs.Value.{small_lengths, body_length, value_of, decode_at, start_of, length_of}
use Rattle.record.specs.declared.entry.Entry.{Entry}
use Rattle.record.specs.Entry.{EntryRead}
use Rattle.record.specs.declared.record.Value.{Value}
use Rattle.record.proofs.Laws.{entry_cases}
use Rattle.record.proofs.Values.{small_length_lem, fits_by_place, value_cases, decoded}

-- ---- only type 7 gives a real, and it has eight bytes
value_there : (t : ℕ) (s : List ℕ) (at n : ℕ) → body_length t ≡ Some n → (t ≡ 7 → at + n ≤ length s) → BodyThere s at (value_of t s at n)
value_there t s at n l h =
    value_cases (BodyThere s at) t s at n tt (λ z. tt)
    (λ seven.
    let eight : n ≡ 8 = small_length_lem t n (rw seven (lit< tt)) l ∙ ap (λ (i : ℕ). get_or small_lengths i 0) seven in
    omega (arith, h seven))
    (λ big. tt) (λ big. tt)

-- THE LAW: a real that was decoded has its eight bytes,
pub decoded_there : (t : ℕ) (s : List ℕ) (at : ℕ) (v : Value) (n : ℕ) → decode_at t s at ≡ Some (v, n) → BodyThere s at v
decoded_there t s at v n e =
    let d = decoded t s at v n e in
    rw d.2
    (value_there t s at n d.0 λ seven.
    leb-true (at + n) (length s) (sym (fits_by_place t n s at (λ z. omega arith) (λ z. omega arith) (λ z. omega arith)) ∙ d.1))

-- and so has one that an entry reads as
pub read_there : (e : Entry) (s : List ℕ) (v : Value) → read_entry e s ≡ Some v → BodyThere s e.start v
read_there e s = entry_cases e s (BodyThere s e.start) tt (λ l h. value_there e.kind s e.start e.len l (λ seven. h))

-- ---- the bytes of a text or a blob

-- THE LAW: those of an entry that was read lie in the slice
pub entry_inside : (e : Entry) (s : List ℕ) (v : Value) → read_entry e s ≡ Some v → start_of v + length_of v ≤ length s
entry_inside e s =
    let Inside : Value → Type 0 = λ v. start_of v + length_of v ≤ length s in
    entry_cases e s Inside zero-le (λ l h. value_cases Inside e.kind s e.start e.len zero-le (λ z. zero-le) (λ seven. zero-le) (λ big. h) (λ big. h))

as_many : {A : Type 0} (n : ℕ) (l : List A) → take (length (take n l)) l ≡ take n l
as_many zero l = refl
as_many (suc n) [] = refl
as_many (suc n) (x ∷ l) = ap (λ k. x ∷ k) (as_many n l)

-- THE LAW: those that an entry shows are those that the words of `phs_view_entry` name, so many from the entry's start on
pub view_named : (e : Entry) (s : List ℕ) → take (length (entry_bytes e s)) (drop e.start s) ≡ entry_bytes e s
unfolding entry_bytes
view_named e s = go (read_entry e s) refl
  where
    Named : Value → Type 0
    Named v = take (length (value_bytes s v)) (drop e.start s) ≡ value_bytes s v

    named : Named (value_of e.kind s e.start e.len)
    named =
        let shows = as_many e.len (drop e.start s) in
        value_cases Named e.kind s e.start e.len refl (λ z. refl) (λ seven. refl) (λ big. shows) (λ big. shows)

    go : (r : EntryRead) → read_entry e s ≡ r → take (length (shown s r)) (drop e.start s) ≡ shown s r
    go None r = refl
    go (Some v) r = entry_cases e s Named refl (λ l h. named) v r
