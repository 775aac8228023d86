-- The list of a scan (rule 4.17): with any room it has the first rows of a list that has the properties, and says whether there are more.
-- Assumes nothing.
use Prim.Native.Nat.{ℕ, zero, suc, ◌+◌, ◌-◌, ◌≤◌, ◌<◌}
use mathlib.Core.Path.{◌≡◌, refl, sym, ap, ◌∙◌}
use mathlib.Core.List.{List, [], ◌∷◌}
use native.Mathlib.Omega.{arith}
use lib.ListN.{length, take, drop, length-drop}
use lib.Seq.{take-nil, drop-nil, take_all}
use Rattle.attempt.proofs.Laws.{hit_takes}
use Rattle.attempt.specs.Attempt.{Tried, miss, hit, attempt_at}
use Rattle.record.proofs.Numbers.{by_order}
use Rattle.scan.proofs.Laws.{scan_none, scan_missed, scan_found, scan_full, scan_end}
use Rattle.scan.specs.Scan.{Run, through, scan_from, run_number, run_place}
use Rattle.scanlaws.proofs.Alone.{each, From, carrying, same_list}
use Rattle.scanlaws.proofs.Following.{follows, carried, no_other}
use Rattle.scanlaws.proofs.Resuming.{run, shifted}
use Rattle.scanlaws.specs.Listed.{placed, number_before, place_before}
use Rattle.scanlaws.specs.Only.{Placed, end, Only, Carrying, OnlyList}
use Rattle.sheet.specs.Limits.{most_columns}

-- where no row found no room, there was room for all
pub roomed : (room : ℕ) (ps : List Placed) → number_before (drop room ps) ≡ 0 → length ps ≤ room
roomed room ps z = omega (arith, none (drop room ps) z, length-drop room ps)
  where
    none : (ps : List Placed) → number_before ps ≡ 0 → length ps ≡ 0
    none [] z = refl
    none (p ∷ ps) z = absurd (omega (arith, z))

module _ (s hints : List ℕ) where
  -- a run from an offset on, with room for so many rows, and the list whose first rows it has
  pub record ListOf (room lo : ℕ) (t : Run) : Type 0 where
    pub list : List Placed
    pub from : From s hints lo list
    pub rows : placed t ≡ take room list
    pub number : run_number t ≡ number_before (drop room list)
    pub place : run_place (length s) t ≡ place_before (length s) (drop room list)

  -- from the end on, none
  none : (room o : ℕ) → length s - 2 ≤ o → ListOf room o through
  none room o ge =
      record {
        list = [];
        from = record { starts = tt; below = tt; apart = tt; attempts = tt; others = λ o' l m free. absurd (omega arith) };
        rows = sym (take-nil room);
        number = rw (drop-nil {A = Placed} room) refl;
        place = rw (drop-nil {A = Placed} room) refl;
      }

  -- from an offset at which the attempt fails
  from_miss : (o : ℕ) (ps : List Placed) → attempt_at s hints o ≡ miss → From s hints (o + 1) ps → From s hints o ps
  from_miss o ps e f =
      record {
        starts = each (λ p l. omega arith) ps f.starts;
        below = f.below;
        apart = f.apart;
        attempts = f.attempts;
        others = λ o' l m free. by_order o o' (λ lt. f.others o' (omega arith) m free) (λ ge. let is : o' ≡ o = omega arith in rw is e);
      }

  -- from a row on
  from_hit : (p : Placed) (ps : List Placed) → p.at < length s - 2 → attempt_at s hints p.at ≡ hit p.row → From s hints (end p) ps
      → From s hints p.at (p ∷ ps)
  from_hit p ps lt e f =
      record {
        starts = (omega arith, each (λ q l. omega arith) ps f.starts);
        below = (lt, f.below);
        apart = (f.starts, f.apart);
        attempts = (e, f.attempts);
        others = λ o l m free. by_order o (end p) (λ in'. absurd (free.0 (l, in'))) (λ ge. f.others o ge m free.1);
      }

  scan_list : (f room o : ℕ) → length s ≤ o + f → ListOf room o (scan_from f s hints room o 0)
  scan_list zero room o q = rw (scan_none s hints room o 0) (none room o (omega arith))
  scan_list (suc f) room o q =
      by_order o (length s - 2) (λ lt. go lt (attempt_at s hints o) refl room (λ r o' q'. scan_list f r o' q'))
      (λ ge. rw (scan_end (suc f) s hints room o 0 ge) (none room o ge))
    where
      go : o < length s - 2 → (t : Tried) → attempt_at s hints o ≡ t → (room : ℕ)
          → ((r o' : ℕ) → length s ≤ o' + f → ListOf r o' (scan_from f s hints r o' 0)) → ListOf room o (scan_from (suc f) s hints room o 0)
      go lt miss e room rest =
          let l = rest room (o + 1) (omega arith) in
          rw (scan_missed f s hints room o 0 lt e)
          (record { list = l.list; from = from_miss o l.list e l.from; rows = l.rows; number = l.number; place = l.place })
      go lt (hit x) e zero rest =
          let takes = (hit_takes s hints o x e).0 in
          let p : Placed = record { at = o; row = x } in
          let l = rest 0 (end p) (omega arith) in
          rw (scan_full f s hints 0 o 0 lt x e (omega arith))
          (record { list = p ∷ l.list; from = from_hit p l.list lt e l.from; rows = refl; number = refl; place = refl })
      go lt (hit x) e (suc r) rest =
          let takes = (hit_takes s hints o x e).0 in
          let p : Placed = record { at = o; row = x } in
          let l = rest r (end p) (omega arith) in
          let more : suc r ≡ 1 + r = omega arith in
          let behind : scan_from f s hints (suc r) (end p) 1 ≡ scan_from f s hints r (end p) 0 = rw more (shifted s hints f 1 r (end p) 0) in
          rw (scan_found f s hints (suc r) o 0 lt x e (omega arith), behind)
          (record {
            list = p ∷ l.list;
            from = from_hit p l.list lt e l.from;
            rows = ap (◌∷◌ p) l.rows;
            number = l.number;
            place = l.place;
          })

  -- of a call's run
  pub run_list : (room start : ℕ) → ListOf room start (run s hints room start)
  run_list room start = scan_list (length s) room start (omega arith)

  -- ---- from 0
  carries : (room : ℕ) → Carrying s hints (run_list room 0).list
  carries room = carrying s hints (run_list room 0).list (run_list room 0).from

  -- THE LAW: there is a list that has the properties, and it is the only one
  pub the_only : length hints ≤ most_columns → OnlyList s hints
  the_only few =
      let list = (run_list 0 0).list in
      let has = follows s hints few list (carries 0) in
      record { list = list; has = has; alone = λ ps o. no_other s hints ps list o has }

  -- THE LAW: the scan with any room has the first rows of it
  pub only_list : (ps : List Placed) → Only s hints ps → (room : ℕ) → let t = run s hints room 0 in
      (placed t ≡ take room ps) × (run_number t ≡ number_before (drop room ps)) × (run_place (length s) t ≡ place_before (length s) (drop room ps))
  only_list ps o room =
      let l = run_list room 0 in
      rw (same_list s hints ps l.list (carried s hints ps o) (carries room)) (l.rows, l.number, l.place)

  -- THE LAW: and where it is through, all
  pub scan_has : length hints ≤ most_columns → (room : ℕ) → run_number (run s hints room 0) ≡ 0 → Only s hints (placed (run s hints room 0))
  scan_has few room z =
      let l = run_list room 0 in
      let all = take_all room l.list (roomed room l.list (sym l.number ∙ z)) in
      rw (l.rows ∙ all) (follows s hints few l.list (carries room))
