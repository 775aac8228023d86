-- `listing::text::put_totals` meets its contract.
-- Assumes nothing.
use Rattle.digits.proofs.Laws.{puts_first, puts_more}
use Rattle.listing.specs.Text.{totals_line}
use Rattle.listing.proofs.text.put_totals.Goals as goal

pub returns-clause-put : goal.returns-clause-put
unfolding totals_line
returns-clause-put c =
    puts_first c.new-text.ensures.starts
    (puts_more (puts_more c.put_number_after.ensures.put c.put_number_after-2.ensures.put) c.put_bytes.ensures)
