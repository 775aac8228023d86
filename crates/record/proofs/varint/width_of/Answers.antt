-- `record::varint::width_of` meets its contract: 0 has no highest bit.
-- Assumes nothing.
use lib.Count.{count_leading_zeros}
use Rattle.record.specs.Varint.{width_of}
use Rattle.record.proofs.varint.width_of.Goals as goal

pub returns-in-0 : goal.returns-in-0
unfolding width_of count_leading_zeros
returns-in-0 c = rw c.in-0.is
