-- `digits::inner::put_digits` meets its contract: the library's digits are ours.
-- Assumes nothing.
use Rattle.std.proofs.Common.{◌≡◌, ◌∙◌, sym, ap, take, drop, length, arith}
use Rattle.std.proofs.lemmas.List.{take-append-drop}
use Rattle.digits.specs.Digits.{decimal}
use Rattle.digits.proofs.Decimals.{decimal_is}
use Rattle.digits.proofs.inner.put_digits.Goals as goal
use Rattle.digits.proofs.inner.put_digits.Goals.{After-decimal-len}

digits : (c : After-decimal-len) → take c.decimal-len.result c.decimal-len.new.out ≡ decimal c.args.n
digits c = c.decimal-len.ensures.digits ∙ decimal_is c.args.n c.decimal-len.result (omega arith) c.decimal-len.ensures.len

count : (c : After-decimal-len) → c.decimal-len.result ≡ length (decimal c.args.n)
count c = c.decimal-len.ensures.in_bounds.1 ∙ ap length (digits c)

pub returns-clause-count : goal.returns-clause-count
returns-clause-count c = count (goal.at.returns-clause-count c).After-decimal-len

pub returns-clause-written : goal.returns-clause-written
returns-clause-written c =
    let here = (goal.at.returns-clause-written c).After-decimal-len in
    let out = c.decimal-len.new.out in
    let k = c.decimal-len.result in
    let behind : drop k out ≡ drop (length (decimal c.args.n)) c.args.cells.now = c.decimal-len.ensures.rest ∙ rw (c.copy_from_slice.ensures.after, count here) in
    c.copy_from_slice-2.ensures.after ∙ sym (take-append-drop k out) ∙ rw (digits here, behind)
