-- `phs_is_compatible` meets its contract: number and word are those of the answer.
-- Assumes nothing.
use mathlib.Core.Path.{ap, sym, ◌∙◌}
use Rattle.attempt.specs.Hints.{compatible_number_of, compatible_word_of}
use Rattle.record.proofs.Numbers.{bool_word}
use Rattle.phsarodil.proofs.rows.phs_is_compatible.Goals as goal

pub returns-in-Ok : goal.returns-in-Ok
returns-in-Ok c =
    let a = c.is_compatible.ensures in
    record {
      number = ap compatible_number_of (sym c.in-Ok.is) ∙ a.number;
      out = rw (← a.word, c.in-Ok.is, bool_word);
    }

pub returns-in-Err : goal.returns-in-Err
returns-in-Err c =
    let a = c.is_compatible.ensures in
    record {
      number = c.number.ensures ∙ ap compatible_number_of (sym c.in-Err.is) ∙ a.number;
      out = rw (← a.word, c.in-Err.is);
    }
