-- `column::piece::begins_as_constraint` meets its contract: some word of the list begins the piece.
-- Assumes nothing.
use Rattle.std.proofs.Common.{◌∙◌, rules, Bor, List, ℕ}
use mathlib.Core.Bool.{or-false}
use Rattle.std.proofs.Math.Bool.{or_assoc}
use borrow.Author.Tests.{tests}
use Rattle.std.proofs.lemmas.Iterator.{YieldsList-from_slice}
use Rattle.std.proofs.lemmas.Iterator.Search.{any_from_yields_List}
use Rattle.words.specs.Words.{starts_with}
use Rattle.column.proofs.piece.begins_as_constraint.Goals as goal

pub returns : goal.returns
returns c =
    any_from_yields_List (λ (w : Bor (List ℕ)). starts_with w.now c.args.piece.now) c.any.new.self _ c.any.result c.any.ensures.ran (YieldsList-from_slice _ c.iter.ensures.rest) (λ x b q k. search (rules, tests))
    ∙ simp (or_assoc, or-false)
