-- `walk::inner::push_cells` meets its contract. The loop's invariant: pushing the children that are left comes to what pushing all of them does.
-- Assumes nothing.
use Prim.Native.Nat.{◌+◌, ◌-◌, ◌*◌, ◌≤◌}
use mathlib.Core.Path.{◌≡◌}
use Rattle.walk.specs.Inner.{held, depth_of, Keeps}
use Rattle.walk.specs.Walk.{cells_from, push_all}
use Rattle.walk.proofs.inner.push_cells.Given as goal

abbrev pub invariant-loop-k : goal.invariant-loop-k
invariant-loop-k l = record {
  kept : Keeps l.initial.stack l.stack;
  near : l.from + 2 * l.k ≤ 65536;
  same : push_all (depth_of l.initial.stack) (cells_from (l.count - l.k) l.page (l.from + 2 * l.k)) (held l.stack) ≡ push_all (depth_of l.initial.stack) (cells_from l.count l.page l.from) (held l.initial.stack);
}
