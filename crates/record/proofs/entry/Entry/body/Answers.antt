-- `Entry::body` meets its contract: each way out is a law of entries.
-- Assumes nothing.
use Rattle.std.proofs.Common.{sym, ◌∙◌, arith}
use Rattle.record.proofs.Laws.{entry_refused, entry_decoded, bad_body}
use Rattle.record.proofs.Values.{undecoded}
use Rattle.record.proofs.entry.Entry.body.Goals as goal

pub returns-in_err-value : goal.returns-in_err-value
returns-in_err-value c =
    let none = sym c.decode_serial_type.ensures ∙ c.in_err-value.was in
    c.from_residual.ensures ∙ sym (entry_refused _ _ (bad_body _ _ c.requires (λ n l q. undecoded _ _ _ n none l))).0

pub returns-then-self-n : goal.returns-then-self-n
returns-then-self-n c = sym (entry_decoded _ _ c.requires _ _ (sym c.decode_serial_type.ensures ∙ c.in_ok-value.was) (omega arith) c.if-self-n.true).0
