-- `Text::put_number_after` meets its contract.
-- Assumes nothing.
use Rattle.digits.proofs.Laws.{puts_more}
use Rattle.digits.proofs.inner.Text.put_number_after.Goals as goal

pub returns-clause-put : goal.returns-clause-put
returns-clause-put c = puts_more c.put_bytes.ensures c.put_decimal.ensures.put
