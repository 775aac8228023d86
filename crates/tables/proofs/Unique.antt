-- A contract fixes what a call leaves: any two outcomes that it allows for the same arguments are equal. `Post` is the function's own postcondition.
-- Said once of the promises, whatever the way of carving, and by that of each call.
-- Assumes nothing.
use mathlib.Core.Path.{◌≡◌, sym, ◌∙◌}
use Rattle.record.proofs.Unique.{FixesSeen}
use Rattle.tables.specs.Calls.{Asked, OnTables, on_tables, TablesPromises}
use Rattle.tables.proofs.freeblocks.recover_freeblocks.Reads as recover-freeblocks
use Rattle.tables.proofs.gaps.scan_page_gaps.Reads as scan-page-gaps
use Rattle.tables.proofs.tables.carve_tables.Reads as carve-tables

-- ---- the promises fix what is left: the answer, the flags, the stack, the rows and the column entries at exit
same_tables : (x y : OnTables) → x.answer ≡ y.answer → x.rows ≡ y.rows → x.cols ≡ y.cols → x.flags ≡ y.flags → x.stack ≡ y.stack → x ≡ y
same_tables x y e f g h i = rw (e, f, g, h, i)

pub tables_fixed : (a : Asked) (x y : OnTables) → TablesPromises a x → TablesPromises a y → x ≡ y
tables_fixed a x y p q =
    same_tables x y (p.answer ∙ sym q.answer) (p.rows ∙ sym q.rows) (p.entries ∙ sym q.entries) (p.flags ∙ sym q.flags)
    (p.stack ∙ sym q.stack)

pub carve_tables_fixed : FixesSeen carve-tables.Post
    (λ k r s. on_tables r s.1.1.1.1.1.1.0.now s.1.1.1.1.1.1.1.0.now s.1.1.1.1.1.1.1.1.0.now s.1.1.1.1.1.1.1.1.1.0.now)
carve_tables_fixed k a x y s t p q = tables_fixed _ _ _ p q

-- ---- the public calls
pub recover_freeblocks_fixed : FixesSeen recover-freeblocks.Post
    (λ k r s. on_tables r s.1.1.1.1.1.0.now s.1.1.1.1.1.1.0.now s.1.1.1.1.1.1.1.0.now s.1.1.1.1.1.1.1.1.0.now)
recover_freeblocks_fixed k a x y s t p q = tables_fixed _ _ _ p q

pub scan_page_gaps_fixed : FixesSeen scan-page-gaps.Post
    (λ k r s. on_tables r s.1.1.1.1.1.1.0.now s.1.1.1.1.1.1.1.0.now s.1.1.1.1.1.1.1.1.0.now s.1.1.1.1.1.1.1.1.1.0.now)
scan_page_gaps_fixed k a x y s t p q = tables_fixed _ _ _ p q
