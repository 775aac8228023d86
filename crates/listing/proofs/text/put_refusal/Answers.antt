-- `listing::text::put_refusal` meets its contract.
-- Assumes nothing.
use Rattle.digits.proofs.Laws.{puts_first, puts_more}
use Rattle.listing.specs.Text.{refusal_line}
use Rattle.listing.proofs.text.put_refusal.Goals as goal

pub returns-clause-put : goal.returns-clause-put
unfolding refusal_line
returns-clause-put c =
    puts_first c.new-text.ensures.starts (puts_more (rw c.number.ensures at c.put_number_after.ensures.put) c.put_bytes.ensures)
