-- `listing::inner::put_types` meets its contract. The loop's invariant: the first k types are written.
-- Assumes nothing.
use Rattle.std.specs.Prelude.{◌+◌, ◌*◌, ◌≤◌}
use Rattle.digits.specs.Inner.{Puts, most_field}
use Rattle.listing.specs.Text.{types_text}
use Rattle.listing.proofs.inner.put_types.Given as goal

abbrev pub invariant-loop-k : goal.invariant-loop-k
invariant-loop-k l =
    record { put : Puts l.initial.text (types_text l.cols l.group l.k) l.text; near : l.text.len ≤ l.initial.text.len + most_field * l.k }
