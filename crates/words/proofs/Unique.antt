-- A contract fixes its answer: any two results that it allows for the same arguments are equal. `Post` is the function's own postcondition.
-- Assumes nothing.
use mathlib.Core.Path.{sym, ◌∙◌}
use Rattle.record.proofs.Unique.{Fixes, FixesSeen}
use Rattle.words.proofs.runs.before_first.Reads as before-first
use Rattle.words.proofs.runs.behind_first.Reads as behind-first
use Rattle.words.proofs.runs.dropped.Reads as dropped
use Rattle.words.proofs.runs.in_run.Reads as in-run
use Rattle.words.proofs.runs.is_blank.Reads as is-blank
use Rattle.words.proofs.runs.kept.Reads as kept
use Rattle.words.proofs.runs.leading.Reads as leading
use Rattle.words.proofs.runs.long_run.Reads as long-run
use Rattle.words.proofs.words.first_word.Reads as first_word
use Rattle.words.proofs.words.raised.Reads as raised
use Rattle.words.proofs.words.second_word.Reads as second_word
use Rattle.words.proofs.words.starts_with.Reads as starts_with
use Rattle.words.proofs.words.trimmed.Reads as trimmed
use Rattle.words.proofs.words.word_behind.Reads as word-behind

pub is_blank_fixed : Fixes is-blank.Post
is_blank_fixed k a x y s t p q = p ∙ sym q

pub in_run_fixed : Fixes in-run.Post
in_run_fixed k a x y s t p q = p ∙ sym q

pub leading_fixed : Fixes leading.Post
leading_fixed k a x y s t p q = p.0 ∙ sym q.0

pub long_run_fixed : Fixes long-run.Post
long_run_fixed k a x y s t p q = p.0 ∙ sym q.0

pub kept_fixed : Fixes kept.Post
kept_fixed k a x y s t p q = p.0 ∙ sym q.0

pub raised_fixed : Fixes raised.Post
raised_fixed k a x y s t p q = p ∙ sym q

pub starts_with_fixed : Fixes starts_with.Post
starts_with_fixed k a x y s t p q = p ∙ sym q

-- of a part of a slice: its bytes
pub dropped_fixed : FixesSeen dropped.Post (λ k r s. r.now)
dropped_fixed k a x y s t p q = p ∙ sym q

pub before_first_fixed : FixesSeen before-first.Post (λ k r s. r.now)
before_first_fixed k a x y s t p q = p ∙ sym q

pub behind_first_fixed : FixesSeen behind-first.Post (λ k r s. r.now)
behind_first_fixed k a x y s t p q = p ∙ sym q

pub trimmed_fixed : FixesSeen trimmed.Post (λ k r s. r.now)
trimmed_fixed k a x y s t p q = p ∙ sym q

pub first_word_fixed : FixesSeen first_word.Post (λ k r s. r.now)
first_word_fixed k a x y s t p q = p ∙ sym q

pub second_word_fixed : FixesSeen second_word.Post (λ k r s. r.now)
second_word_fixed k a x y s t p q = p ∙ sym q

pub word_behind_fixed : FixesSeen word-behind.Post (λ k r s. r.now)
word_behind_fixed k a x y s t p q = p ∙ sym q
