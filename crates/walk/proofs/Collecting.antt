-- Collecting leaves: those that are written are those of the walk so far.
-- Assumes nothing.
use Prim.Native.Nat.{ℕ, ◌+◌, ◌/◌, ◌≤◌, ◌<◌}
use mathlib.Core.Path.{◌≡◌, refl, sym}
use mathlib.Core.Bool.{Bool, true, false, cond}
use mathlib.Core.List.{List, [], ◌∷◌, ◌++◌, append_assoc}
use native.Mathlib.Omega.{arith}
use borrow.Author.Tests.{lt-ltb, le-ltb}
use lib.ListN.{length, set, replicate, length-append}
use lib.Seq.{take_at, take_all}
use Rattle.sheet.proofs.Laws.{overlay_more}
use Rattle.sheet.specs.Sheet.{overlay}
use Rattle.walk.specs.Collect.{leaves_of}
use Rattle.walk.specs.Inner.{tops, rest, LeafIs, Collected}
use Rattle.walk.specs.Walk.{Walk, through, overflowed, walk, onward, overflow, push_all, overflows}
use Rattle.walk.specs.declared.walk.Walked.TheVariants.{Done, Full, Short}
use Rattle.walk.proofs.Along.{Along, along_start, along_leaf, along_more, along_done, along_overflow, walk_none}

-- ---- how a walk ends

-- nothing is left to write, and the stack overflowed or not
module _ (pages flags : ℕ) (w : Walk) (old : List ℕ) (flagged : pages ≤ flags) where
  ended : (done : List ℕ) (stopped : Bool) → done ≡ leaves_of w → overflows w ≡ stopped → length done ≤ length old
      → Collected pages flags w old (cond stopped (Short (length done)) (Done (length done))) (overlay done old)
  ended done stopped e f h =
      record {
        answer = simp (le-ltb flags pages flagged, sym e, f, le-ltb (length old) (length done) h);
        leaves_are = simp (le-ltb flags pages flagged, sym e, take_all (length old) done h);
      }

  -- there is one leaf more
  over : (done later : List ℕ) (p : ℕ) → (done ++ (p ∷ [])) ++ later ≡ leaves_of w → length done ≡ length old
      → Collected pages flags w old (Full (length done)) (overlay done old)
  over done later p e h =
      let n : length ((done ++ (p ∷ [])) ++ later) ≡ length done + 1 + length later = simp length-append in
      let more : length old < length ((done ++ (p ∷ [])) ++ later) = omega arith in
      record {
        answer = simp (le-ltb flags pages flagged, sym e, lt-ltb (length old) (length ((done ++ (p ∷ [])) ++ later)) more, h);
        leaves_are = simp (le-ltb flags pages flagged, sym e, append_assoc, take_at done ((p ∷ []) ++ later) (length old) h);
      }

-- ---- no room for the root
pub collects_none : (db : List ℕ) (size root flags depth : ℕ) (old : List ℕ) → length db / size ≤ flags → overflow ≡ push_all depth (root ∷ []) []
    → Collected (length db / size) flags (walk db size depth root) old (Short 0) old
unfolding leaves_of
collects_none db size root flags depth old h e =
    let w = walk_none db size depth root e in
    ended (length db / size) flags (walk db size depth root) old h [] true (rw w) (rw w) (omega arith)

-- ---- n leaves are written
pub record Collects (db : List ℕ) (size root depth count : ℕ) (old flags stack leaves : List ℕ) (top n : ℕ) : Type 0 where
  pub done : List ℕ
  pub counted : length done ≡ n
  pub room : n ≤ length old
  pub written : leaves ≡ overlay done old
  pub along : Along (λ p. p ∷ []) (walk db size depth root) db size depth count flags stack top done

pub collects_start : (db : List ℕ) (size root depth count : ℕ) (old flags stack : List ℕ) (top : ℕ)
    → onward (tops stack top) ≡ push_all depth (root ∷ []) [] → flags ≡ replicate count 0 → length stack ≡ depth → top ≤ depth → length db / size ≤ count
    → Collects db size root depth count old flags stack old top 0
collects_start db size root depth count old flags stack top e clear long fits flagged =
    record { done = []; counted = refl; room = omega arith; written = refl; along = along_start (λ p. p ∷ []) db size depth root count flags stack top e clear long fits flagged }

module _ (db : List ℕ) (size root depth count : ℕ) (old flags stack leaves : List ℕ) (top n : ℕ) (w : Collects db size root depth count old flags stack leaves top n) where
  module _ (most : ℕ) (flags' stack' : List ℕ) (p t : ℕ) (x : LeafIs db size (rest w.along.fuel db size flags stack top) most flags' stack' p t) where
    pub collects_leaf : n < length old → length stack' ≡ length stack → length flags' ≡ length flags
        → Collects db size root depth count old flags' stack' (set leaves n p) t (n + 1)
    collects_leaf h ls lf =
        record {
          done = w.done ++ (p ∷ []);
          counted = simp length-append (omega (arith, w.counted));
          room = omega arith;
          written = rw (w.written, ← w.counted) (overlay_more w.done (p ∷ []) old (omega (arith, w.counted)));
          along = along_leaf (λ q. q ∷ []) _ db size depth count flags stack top w.done w.along most flags' stack' p t x ls lf;
        }

    pub collects_over : length old ≤ n → Collected (length db / size) count (walk db size depth root) old (Full n) leaves
    unfolding leaves_of
    collects_over h =
        let m = along_more (λ q. q ∷ []) _ db size depth count flags stack top w.done w.along most flags' stack' p t x in
        rw (w.written, ← w.counted) (over (length db / size) count (walk db size depth root) old w.along.flagged w.done m.0 p m.1 (omega (arith, w.counted, w.room)))

  pub collects_done : rest w.along.fuel db size flags stack top ≡ through → Collected (length db / size) count (walk db size depth root) old (Done n) leaves
  unfolding leaves_of
  collects_done e =
      let d = along_done (λ q. q ∷ []) _ db size depth count flags stack top w.done w.along e in
      let h : length w.done ≤ length old = omega (arith, w.counted, w.room) in
      rw (w.written, ← w.counted) (ended (length db / size) count (walk db size depth root) old w.along.flagged w.done false d.0 d.1 h)

  pub collects_overflow : rest w.along.fuel db size flags stack top ≡ overflowed → Collected (length db / size) count (walk db size depth root) old (Short n) leaves
  unfolding leaves_of
  collects_overflow e =
      let d = along_overflow (λ q. q ∷ []) _ db size depth count flags stack top w.done w.along e in
      let h : length w.done ≤ length old = omega (arith, w.counted, w.room) in
      rw (w.written, ← w.counted) (ended (length db / size) count (walk db size depth root) old w.along.flagged w.done true d.0 d.1 h)
