-- `phs_try_parse_record` meets its contract: number, words and lists are those of the attempt.
-- Assumes nothing.
use Rattle.phsarodil.proofs.Returning.{attempt_returned}
use Rattle.phsarodil.proofs.rows.phs_try_parse_record.Goals as goal

pub returns : goal.returns
returns c = attempt_returned _ _ _ _ c.try_parse_record-answer.ensures c.number.ensures c.written.ensures
