-- `learn::learn::challenge` meets its contract: each way out is a case of the definition.
-- Assumes nothing.
use mathlib.Core.Path.{sym}
use native.Mathlib.Omega.{arith}
use Rattle.learn.proofs.Counting.{better_self, better_new, better_old, better_left, better_right}
use Rattle.learn.proofs.learn.challenge.Goals as goal

pub returns-then-kind-leader : goal.returns-then-kind-leader
returns-then-kind-leader c = record { kind_value = rw c.if-kind-leader.true (sym (better_self _ _)); counts = c.requires.leader_counted }

pub look_up-count-requires : goal.look_up-count-requires
look_up-count-requires c = c.requires.tallied

pub returns-then-count-leader : goal.returns-then-count-leader
returns-then-count-leader c =
    record { kind_value = sym (better_old _ _ _ (omega (arith, c.requires.leader_counted, c.look_up-count.ensures))); counts = c.requires.leader_counted }

pub returns-then-count-leader-2 : goal.returns-then-count-leader-2
returns-then-count-leader-2 c =
    record { kind_value = sym (better_new _ _ _ (omega (arith, c.requires.leader_counted))); counts = c.look_up-count.ensures }

pub returns-then-kind-leader-2 : goal.returns-then-kind-leader-2
returns-then-kind-leader-2 c =
    record { kind_value = sym (better_left _ _ _ (omega (arith, c.requires.leader_counted, c.look_up-count.ensures)) (omega arith)); counts = c.requires.leader_counted }

pub returns : goal.returns
returns c =
    record { kind_value = sym (better_right _ _ _ (omega (arith, c.requires.leader_counted)) (omega arith)); counts = c.look_up-count.ensures }
