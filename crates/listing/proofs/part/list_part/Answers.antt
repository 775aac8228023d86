-- `listing::part::list_part` meets its contract: the rows that the scan wrote have their words and their lines have room (`room_holds`).
-- Assumes nothing.
use Rattle.std.proofs.Common.{◌≡◌, ◌≤◌, length, sym, ap, ◌∙◌, arith, rules}
use Rattle.std.proofs.lemmas.Result.{err_from_is_err_and}
use Rattle.io.proofs.Counting.{prefix_len_of_le}
use Rattle.digits.proofs.Laws.{puts_first}
use Rattle.listing.proofs.Parts.{part_answer_lem, part_text_lem, part_room, part_none}
use Rattle.listing.proofs.Texts.{room_holds}
use Rattle.listing.specs.Part.{row_space, col_space}
use Rattle.scan.specs.Scan.{written_of}
use Rattle.sheet.specs.Columns.{room_of}
use Rattle.listing.proofs.part.list_part.Goals as goal
use Rattle.listing.proofs.part.list_part.Goals.{Start, After-written-count}

long : (c : Start) → (length c.args.rows.now ≡ row_space) × (length c.args.cols.now ≡ col_space)
long c = (search rules, search rules)

-- the rows that it wrote
count : (c : After-written-count) → c.written-count.result ≡ written_of c.scan_region.result
count c = c.written-count.ensures ∙ ap written_of (sym c.in_ok-found.was)

-- found room
held : (c : After-written-count) → (length c.args.rows.now ≡ row_space) × (length c.args.cols.now ≡ col_space) →
    c.written-count.result ≤ room_of row_space col_space (length c.args.hints.now)
held c l =
    let a = c.args in
    part_room a.region.now a.hints.now a.start a.rows.now a.cols.now l.0 l.1 _ c.scan_region.ensures _ (count c)

pub put_rows-requires : goal.put_rows-requires
put_rows-requires c =
    let p = goal.at.put_rows-requires c in
    let l = long p.Start in
    let h = room_holds _ _ (held p.After-written-count l) in
    let s = c.new-text.ensures.starts in
    record {
      room_for_text = rw (s.bytes, s.len) (omega (arith, h.0, c.well_formed));
      rows_there = omega (arith, h.1, c.scan_region.auto.rows, l.0);
      entries_there = omega (arith, h.2, c.scan_region.auto.cols, l.1);
    }

pub returns-in_err-found : goal.returns-in_err-found
returns-in_err-found c =
    let a = c.args in
    let l = long (goal.at.returns-in_err-found c).Start in
    let e = err_from_is_err_and c.from_residual.result c.from_residual.ensures.1 in
    let answer = part_answer_lem a.region.now a.hints.now a.start a.rows.now a.cols.now l.0 l.1 _ c.scan_region.ensures in
    let none = part_none a.region.now a.hints.now a.start a.rows.now a.cols.now _ (sym answer ∙ c.in_err-found.was) in
    rw (e.1, e.2) record {
      lists_part = record {
        answer = sym c.in_err-found.was ∙ answer;
        len = rw none;
        text = rw none;
        rows = c.scan_region.ensures.rows;
        entries = c.scan_region.ensures.entries;
      };
      within = tt;
    }

pub returns : goal.returns
returns c =
    let a = c.args in
    let p = goal.at.returns c in
    let l = long p.Start in
    let answer = part_answer_lem a.region.now a.hints.now a.start a.rows.now a.cols.now l.0 l.1 _ c.scan_region.ensures in
    let t = part_text_lem a.region.now a.hints.now a.start a.rows.now a.cols.now l.0 l.1 _ c.scan_region.ensures _ (count p.After-written-count) in
    let put = rw t at (puts_first c.new-text.ensures.starts c.put_rows.ensures.put) in
    let h = room_holds _ _ (held p.After-written-count l) in
    let s = c.new-text.ensures.starts in
    let room = rw s.bytes at c.put_rows.ensures.put.room in
    let near = rw s.len at c.put_rows.ensures.near in record {
      lists_part = record {
        answer = sym c.in_ok-found.was ∙ answer;
        len = put.ends ∙ search rules;
        text = put.written;
        rows = c.scan_region.ensures.rows;
        entries = c.scan_region.ensures.entries;
      };
      within = prefix_len_of_le _ _ (omega (arith, h.0, c.well_formed));
    }
