-- A contract fixes its answer: any two results that it allows for the same arguments are equal. `Post` is the function's own postcondition.
-- Assumes nothing.
use mathlib.Core.Path.{sym, ◌∙◌}
use Rattle.record.proofs.Unique.{Fixes}
use Rattle.sheet.proofs.answer.ResultRefusalAnswer.number.Reads as answer-number
use Rattle.sheet.proofs.answer.ResultRefusalAnswer.written.Reads as answer-written
use Rattle.sheet.proofs.columns.room.Reads as room
use Rattle.sheet.proofs.columns.words.Reads as column-words
use Rattle.sheet.proofs.confidence.freed.Reads as freed
use Rattle.sheet.proofs.confidence.percent.Reads as percent
use Rattle.sheet.proofs.confidence.rebuilt.Reads as rebuilt
use Rattle.sheet.proofs.confidence.suited_share.Reads as suited-share
use Rattle.sheet.proofs.filled.FilledAnswer.number.Reads as filled-number
use Rattle.sheet.proofs.filled.FilledAnswer.written.Reads as filled-written
use Rattle.sheet.proofs.hint.hint_count_fits.Reads as hint-count-fits
use Rattle.sheet.proofs.hint.hints_known.Reads as hints_known_lem
use Rattle.sheet.proofs.refusal.Refusal.number.Reads as number
use Rattle.sheet.proofs.row.words.Reads as row_words
use Rattle.sheet.proofs.slice.check_counted.Reads as check-counted
use Rattle.sheet.proofs.slice.check_slice.Reads as check-slice

pub number_fixed : Fixes number.Post
number_fixed k a x y s t p q = p ∙ sym q

pub answer_number_fixed : (g : _) (l : _) (h : _) (d e : _) → Fixes (answer-number.Post g l h d e)
answer_number_fixed g l h d e k a x y s t p q = p ∙ sym q

pub answer_written_fixed : (g : _) (l : _) (h : _) (d e : _) → Fixes (answer-written.Post g l h d e)
answer_written_fixed g l h d e k a x y s t p q = p ∙ sym q

pub filled_number_fixed : Fixes filled-number.Post
filled_number_fixed k a x y s t p q = p ∙ sym q

pub filled_written_fixed : Fixes filled-written.Post
filled_written_fixed k a x y s t p q = p ∙ sym q

pub hint_count_fits_fixed : Fixes hint-count-fits.Post
hint_count_fits_fixed k a x y s t p q = p ∙ sym q

pub hints_known_fixed : Fixes hints_known_lem.Post
hints_known_fixed k a x y s t p q = p ∙ sym q

pub row_words_fixed : Fixes row_words.Post
row_words_fixed k a x y s t p q = p ∙ sym q

pub column_words_fixed : Fixes column-words.Post
column_words_fixed k a x y s t p q = p ∙ sym q

pub room_fixed : Fixes room.Post
room_fixed k a x y s t p q = p ∙ sym q

pub suited_share_fixed : Fixes suited-share.Post
suited_share_fixed k a x y s t p q = p ∙ sym q

pub freed_fixed : Fixes freed.Post
freed_fixed k a x y s t p q = p ∙ sym q

pub rebuilt_fixed : Fixes rebuilt.Post
rebuilt_fixed k a x y s t p q = p ∙ sym q

pub percent_fixed : Fixes percent.Post
percent_fixed k a x y s t p q = p ∙ sym q

pub check_slice_fixed : Fixes check-slice.Post
check_slice_fixed k a x y s t p q = p ∙ sym q

pub check_counted_fixed : Fixes check-counted.Post
check_counted_fixed k a x y s t p q = p ∙ sym q
