-- `learn::learn::counters` meets its contract.
-- Assumes nothing.
use Prim.Native.Nat.{ℕ}
use mathlib.Core.Path.{sym}
use lib.ListN.{length-replicate}
use Rattle.learn.specs.Inner.{counter_count}
use Rattle.learn.proofs.Tallying.{tallied_none}
use Rattle.learn.proofs.learn.counters.Goals as goal

pub returns : goal.returns
returns c = record { counters_length = sym (length-replicate {0} {A = ℕ} counter_count 0); clear = tallied_none counter_count }
