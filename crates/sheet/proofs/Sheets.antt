-- Rows added to a sheet behind others: `Carving` said of a sheet.
-- Assumes nothing.
use Rattle.std.specs.Prelude.{◌≤◌, ◌<◌, ◌≡◌, refl, Bool, false, List, [], ◌∷◌, ◌++◌, length}
use mathlib.Core.Path.{◌∙◌}
use native.Mathlib.Omega.{arith}
use lib.ListN.{length-append}
use Rattle.sheet.specs.Hits.{Hit}
use Rattle.sheet.specs.Inner.{Told, on, over, PutsOne, Adds}
use Rattle.sheet.specs.declared.inner.Sheet.{Sheet}
use Rattle.sheet.proofs.Carving.{carves_none, carves_one, carves_over, carves_more, carves_stop, told_over}

-- ---- no hit, and one
pub adds_none : (s : Sheet) → s.n ≤ s.room → Adds [] false s (on s.n) s
adds_none s h =
    record {
      rows_kept = refl;
      cols_kept = refl;
      width = refl;
      room = refl;
      n = omega (arith, h);
      carves = carves_none s.width s.room s.n s.rows.now s.cols.now h;
    }

pub adds_over : (s : Sheet) (h : Hit) → s.n ≤ s.room → s.room ≤ s.n → Adds (h ∷ []) false s over s
adds_over s h fits full =
    record {
      rows_kept = refl;
      cols_kept = refl;
      width = refl;
      room = refl;
      n = omega (arith, fits, full);
      carves = carves_over s.width s.room s.n s.rows.now s.cols.now h full;
    }

pub adds_one : (s s' : Sheet) (h : Hit) → s.n < s.room → length h.columns ≤ s.width → PutsOne h s s' → Adds (h ∷ []) false s (on s'.n) s'
adds_one s s' h lt narrow x =
    record {
      rows_kept = x.rows_kept;
      cols_kept = x.cols_kept;
      width = x.width;
      room = x.room;
      n = omega (arith, x.n, lt);
      carves = rw x.n (carves_one s.width s.room s.n s.rows.now s.cols.now h s'.rows.now s'.cols.now lt narrow x.rows x.cols);
    }

-- ---- some hits, and then others
pub adds_more : (a b : List Hit) (s m e : Sheet) (stopped : Bool) (r : Told) → Adds a false s (on m.n) m → Adds b stopped m r e → Adds (a ++ b) stopped s r e
adds_more a b s m e stopped r x y =
    record {
      rows_kept = y.rows_kept ∙ x.rows_kept;
      cols_kept = y.cols_kept ∙ x.cols_kept;
      width = y.width ∙ x.width;
      room = y.room ∙ x.room;
      n = omega (arith, x.n, y.n, x.room, length-append a b);
      carves =
          let c = rw (x.width, x.room) at y.carves in
          carves_more s.width s.room s.n a b s.rows.now s.cols.now m.rows.now m.cols.now m.n stopped r e.rows.now e.cols.now x.carves c;
    }

-- what found no room leaves no room for more
pub adds_stop : (a b : List Hit) (s e : Sheet) (stopped stopped' : Bool) → Adds a stopped s over e → Adds (a ++ b) stopped' s over e
adds_stop a b s e stopped stopped' x =
    record {
      rows_kept = x.rows_kept;
      cols_kept = x.cols_kept;
      width = x.width;
      room = x.room;
      n = omega (arith, x.n, length-append a b, told_over s.room s.n (length a) stopped x.carves.answer);
      carves = carves_stop s.width s.room s.n a b s.rows.now s.cols.now e.rows.now e.cols.now stopped stopped' x.carves;
    }

-- the hits may be said another way
pub adds_as : (a b : List Hit) (stopped stopped' : Bool) (s : Sheet) (r : Told) (e : Sheet) → a ≡ b → stopped ≡ stopped' → Adds a stopped s r e → Adds b stopped' s r e
adds_as a b stopped stopped' s r e p q x = rw (p, q) at x
