-- `hit::inner::put_hit` meets its contract: the row, then its columns, then what pads the group.
-- Assumes nothing.
use Rattle.std.specs.Prelude.{◌*◌, refl}
use mathlib.Core.Path.{◌∙◌}
use Rattle.hit.specs.Inner.{hit_there}
use Rattle.hit.proofs.Laws.{group_is, there_length}
use Rattle.sheet.specs.Limits.{words_per_entry}
use Rattle.hit.proofs.inner.put_hit.Goals as goal

pub returns : goal.returns
returns c =
    let s = c.args.sheet.now in
    let hit = hit_there c.args.bytes.now c.args.o c.args.find c.args.by c.args.row in
    let few = there_length c.args.bytes.now c.args.o c.args.find c.args.by c.args.row c.args.columns c.requires.laid in
    record {
      rows_kept = refl;
      cols_kept = refl;
      width = refl;
      room = refl;
      n = refl;
      rows = c.put_row.ensures;
      cols = c.put_unused.ensures ∙ rw c.put_columns.ensures (group_is s.cols.now (s.n * (words_per_entry * s.width)) s.width c.args.columns hit few);
    }
