-- `listing::inner::put_rows` meets its contract.
-- Assumes nothing.
use Rattle.std.proofs.Common.{◌*◌, arith}
use Rattle.digits.proofs.Laws.{puts_none, puts_more}
use Rattle.listing.proofs.Texts.{rows_none, rows_more, one_more, has_room}
use Rattle.sheet.specs.Limits.{words_per_entry}
use Rattle.listing.specs.Inner.{most_line}
use Rattle.listing.specs.Text.{line_text}
use Rattle.listing.proofs.inner.put_rows.Goals as goal

pub loop-n-init : goal.loop-n-init
loop-n-init c = record { put = rw rows_none (puts_none _); near = omega arith }

pub put_line-requires : goal.put_line-requires
put_line-requires c =
    record {
      room_for_text = omega (arith, c.loop-n.invariant.put.room, has_room c.loop-n.n c.args.count (most_line c.args.width) c.loop-n-test.true);
      rows_there = omega arith;
      entries_there = omega (arith, has_room c.loop-n.n c.args.count (words_per_entry * c.args.width) c.loop-n-test.true);
    }

pub loop-n-preserved : goal.loop-n-preserved
loop-n-preserved c =
    record {
      put = rw rows_more (puts_more {u = line_text c.args.rows.now c.args.cols.now c.args.width c.loop-n.n} c.loop-n.invariant.put c.put_line.ensures.put);
      near = omega (arith, one_more c.loop-n.n (most_line c.args.width));
    }
