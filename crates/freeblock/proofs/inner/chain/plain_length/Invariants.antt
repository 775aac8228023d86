-- `freeblock::inner::chain::plain_length` meets its contract. The loop's invariant: n blocks come before this place (`Reached`).
-- Assumes nothing.
use Prim.Native.Nat.{◌<◌}
use Rattle.freeblock.proofs.Chaining.{Reached}
use Rattle.freeblock.proofs.inner.chain.plain_length.Given as goal

abbrev pub invariant-loop-n : goal.invariant-loop-n
invariant-loop-n l = record { low : l.at < 65536; reached : Reached l.page l.head l.n l.at }
