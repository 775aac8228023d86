-- `words::words::starts_with` meets its contract: a word that is no longer than the text is compared letter by letter.
-- Assumes nothing.
use Rattle.std.proofs.Common.{ℕ, ◌∙◌, sym, rules}
use borrow.Author.Tests.{tests, lt-leb}
use Rattle.std.specs.Prelude.{◌==◌}
use Rattle.std.proofs.lemmas.Iterator.{YieldsList-from_slice, YieldsList-from_zip}
use Rattle.std.proofs.lemmas.Iterator.Search.{all_from_yields_List}
use Rattle.words.specs.Words.{raise}
use Rattle.words.proofs.Laws.{starts_short, starts_zip}
use Rattle.words.proofs.words.starts_with.Goals as goal

pub returns-then-s-word : goal.returns-then-s-word
returns-then-s-word c =
    all_from_yields_List (λ (p : ℕ × ℕ). raise p.0 == p.1) c.all.new.self _ c.all.result c.all.ensures.ran
    (YieldsList-from_zip (YieldsList-from_slice c.args.s.now cc) (YieldsList-from_slice c.args.word.now cc)) (λ x b q k. search (rules, tests))
    ∙ sym (starts_zip _ _ c.if-s-word.true)

pub returns-else-s-word : goal.returns-else-s-word
returns-else-s-word c = lt-leb _ _ c.if-s-word.false ∙ sym (starts_short _ _ c.if-s-word.false)
