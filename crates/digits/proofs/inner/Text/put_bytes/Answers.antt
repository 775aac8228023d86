-- `Text::put_bytes` meets its contract: bytes put in the place of as many are written there.
-- Assumes nothing.
use Rattle.std.proofs.Common.{◌≡◌, ℕ, ◌+◌, ◌-◌, ◌≤◌, List, length, drop, take, refl, sym, ◌∙◌, append_assoc, arith}
use Rattle.std.proofs.lemmas.List.Edits.{sets, sets-eq}
use lib.Seq.{drop-drop, length-sets}
use borrow.Rule.Slice.PartMut.{put_mid}
use Rattle.digits.proofs.inner.Text.put_bytes.Goals as goal

written : (l : List ℕ) (at : ℕ) (vs : List ℕ) → at + length vs ≤ length l → put_mid at (at + length vs - at) l vs ≡ sets l at vs
written l at vs room =
    let n : at + length vs - at ≡ length vs = omega arith in
    rw n (rw drop-drop (sym (append_assoc (take at l) vs (drop (at + length vs) l))) ∙ sym (sets-eq vs l at room))

pub returns : goal.returns
returns c =
    let s = c.args.self.now in
    let e = c.copy.ensures in
    let w = written s.bytes.now s.len c.args.bytes.now c.requires in
    record {
      put = record { written = rw e w; ends = refl };
      room = rw (e, w) (length-sets s.bytes.now s.len c.args.bytes.now);
      same_buffer = refl;
    }
