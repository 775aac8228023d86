-- `learn::learn::count_of` meets its contract. The loop's invariant: those of the first i types that are this one are counted.
-- Assumes nothing.
use Rattle.std.specs.Prelude.{◌≡◌, ◌==◌, ◌≤◌, count_by, take}
use Rattle.learn.proofs.learn.count_of.Given as goal

abbrev pub invariant-loop-other : goal.invariant-loop-other
invariant-loop-other l = record {
  few : l.n ≤ l.other-index;
  counted : l.n ≡ count_by (λ other. l.kind == other) (take l.other-index l.kinds);
}
