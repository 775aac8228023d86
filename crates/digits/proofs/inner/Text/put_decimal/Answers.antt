-- `Text::put_decimal` meets its contract: digits put to the front of a part, with what stood behind them, are written there.
-- Assumes nothing.
use Rattle.std.proofs.Common.{◌≡◌, ◌++◌, ◌∙◌, sym, ap, refl, List, ℕ, ◌+◌, ◌-◌, ◌≤◌, take, drop, length, append_assoc, arith}
use Rattle.std.proofs.lemmas.List.{take-append-drop, drop-append-le, length-drop}
use Rattle.std.proofs.lemmas.List.Edits.{sets, sets-eq}
use lib.Seq.{drop-drop, length-sets, length-take-le}
use borrow.Rule.Slice.PartMut.{put_mid}
use Rattle.digits.specs.Digits.{decimal}
use Rattle.digits.proofs.inner.Text.put_decimal.Goals as goal

over : (l : List ℕ) (at n : ℕ) (d : List ℕ) → at + n ≤ length l → length d ≤ n →
    put_mid at (at + n - at) l (d ++ drop (length d) (take (at + n - at) (drop at l))) ≡ sets l at d
over l at n d room few =
    let e : at + n - at ≡ n = omega arith in
    let long : length (take n (drop at l)) ≡ n = length-take-le n (drop at l) (omega (arith, length-drop at l)) in
    let rest : drop (length d) (take n (drop at l)) ++ drop n (drop at l) ≡ drop (length d) (drop at l) =
    sym (drop-append-le (length d) (take n (drop at l)) (drop n (drop at l)) (omega (arith, long))) ∙ ap (drop (length d)) (take-append-drop n (drop at l)) in
    rw (e, append_assoc d (drop (length d) (take n (drop at l))) (drop n (drop at l)), rest, drop-drop)
    (sym (append_assoc (take at l) d (drop (at + length d) l)) ∙ sym (sets-eq d l at (omega arith)))

pub returns-clause-put : goal.returns-clause-put
returns-clause-put c =
    let s = c.args.self.now in
    let d = decimal c.args.n in
    let e = c.put_digits-len.ensures in
    let w = over s.bytes.now s.len 20 d (omega (arith, c.requires)) (omega (arith, e.count, e.few)) in
    record {
      put = record { written = rw e.written w; ends = rw e.count };
      room = rw (e.written, w) (length-sets s.bytes.now s.len d);
      same_buffer = refl;
    }
