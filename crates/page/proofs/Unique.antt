-- A contract fixes its answer: any two results that it allows for the same arguments are equal. `Post` is the function's own postcondition.
-- Assumes nothing.
use mathlib.Core.Path.{sym, ◌∙◌}
use Rattle.page.proofs.btree.get_page_data.Reads as get-page-data
use Rattle.record.proofs.Unique.{Fixes}

pub get_page_data_fixed : Fixes get-page-data.Post
get_page_data_fixed k a x y s t p q = p.0 ∙ sym q.0
