-- `phs_view_entry` meets its contract: the view is what the entry shows.
-- Assumes nothing.
use mathlib.Core.Path.{refl}
use borrow.Author.Tests.{eq-eqb, ne_eqb}
use Rattle.phsarodil.proofs.values.phs_view_entry.Goals as goal

pub returns-then-view-eq0 : goal.returns-then-view-eq0
returns-then-view-eq0 c =
    record { number = refl; out = rw (← c.view-view.ensures) (simp (eq-eqb _ 0 c.if-view-eq0.true)) }

pub returns : goal.returns
returns c =
    record { number = refl; out = rw (← c.view-view.ensures) (simp (ne_eqb _ 0 c.if-view-eq0.false)) }
