-- `gap::inner::chain::carve_blocks` meets its contract: what the loop has carved, with what the chain still has, are the hits of all its blocks (`Along`).
-- Assumes nothing.
use Prim.Native.Nat.{◌-◌, ◌<◌}
use Rattle.gap.specs.Gap.{chain_from, chain, most_steps}
use Rattle.cells.proofs.Along.{Along}
use Rattle.gap.proofs.Chaining.{hits_of}
use Rattle.gap.proofs.inner.chain.carve_blocks.Given as goal

abbrev pub invariant-loop : goal.invariant-loop
invariant-loop l =
    record {
      low : l.at < 65536;
      along : Along l.initial.sheet (hits_of l.page l.how l.hints l.spot (chain l.page l.head)) (hits_of l.page l.how l.hints l.spot (chain_from (most_steps - l.counter) l.page l.at)) l.sheet;
    }
