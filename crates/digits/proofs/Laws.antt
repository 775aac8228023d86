-- What other crates rest on: texts written one behind the other.
-- Assumes nothing.
use Rattle.std.proofs.Common.{ℕ, List, [], ◌++◌, refl, ◌∙◌, arith, length-append}
use Rattle.digits.specs.Inner.{Put, Starts, Puts}
use Rattle.digits.specs.declared.inner.Text.{Text}
use Rattle.sheet.proofs.Laws.{sets_append}

pub put_none : (out : List ℕ) (at : ℕ) → Put out at [] out at
put_none out at = record { written = refl; ends = omega arith }

-- THE LAW: a text written behind another is written with it
pub put_more : {before between after : List ℕ} {at p r : ℕ} {t u : List ℕ} → Put before at t between p → Put between p u after r → Put before at (t ++ u) after r
put_more {before} {between} {after} {at} {p} {r} {t} {u} a b =
    record {
      written = b.written ∙ rw (a.written, a.ends) (sets_append before at t u);
      ends = omega (arith, a.ends, b.ends, length-append t u);
    }

pub puts_none : (t : Text) → Puts t [] t
puts_none t = record { put = put_none t.bytes.now t.len; room = refl; same_buffer = refl }

pub puts_more : {before between after : Text} {t u : List ℕ} → Puts before t between → Puts between u after → Puts before (t ++ u) after
puts_more a b = record { put = put_more a.put b.put; room = b.room ∙ a.room; same_buffer = b.same_buffer ∙ a.same_buffer }

-- THE LAW: what is written to an empty text stands at the front of its buffer
pub puts_first : {buffer text : List ℕ} {t u : Text} → Starts buffer t → Puts t text u → Put buffer 0 text u.bytes.now u.len
puts_first s p = rw (s.bytes, s.len) at p.put
