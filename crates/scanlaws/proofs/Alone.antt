-- No two lists have the properties of rule 4.17. Where both have the same rows so far they go on with the same one: of two next rows the earlier
-- would start at an offset that the other list does not cover, where the attempt fails.
-- Assumes nothing.
use Prim.Native.Nat.{ℕ, ◌-◌, ◌*◌, ◌≤◌, ◌<◌}
use mathlib.Core.Path.{◌≡◌, refl, sym, ◌∙◌}
use mathlib.Core.List.{List, [], ◌∷◌}
use native.Mathlib.Omega.{arith}
use lib.ListN.{length}
use Rattle.attempt.proofs.Laws.{never, hit_takes}
use Rattle.attempt.specs.Attempt.{miss, hit, attempt_at}
use Rattle.record.proofs.Numbers.{by_order}
use Rattle.scanlaws.specs.Only.{Placed, end, Covers, Each, StartBelow, Apart, AreAttempts, Carrying}

pub each : {P Q : Placed → Type 0} → ((p : Placed) → P p → Q p) → (ps : List Placed) → Each P ps → Each Q ps
each f [] h = tt
each f (p ∷ ps) (h, hs) = (f p h, each f ps hs)

module _ (s hints : List ℕ) where
  -- the four properties of rows from an offset on
  pub record From (lo : ℕ) (ps : List Placed) : Type 0 where
    pub starts : Each (λ p. lo ≤ p.at) ps
    pub below : StartBelow s hints ps
    pub apart : Apart s hints ps
    pub attempts : AreAttempts s hints ps
    pub others : (o : ℕ) → lo ≤ o → o < length s - 2 → Each (λ p. Covers p o → ⊥) ps → attempt_at s hints o ≡ miss

  pub from_0 : (ps : List Placed) → Carrying s hints ps → From 0 ps
  from_0 ps c =
      record {
        starts = each (λ p h. omega arith) ps c.below;
        below = c.below;
        apart = c.apart;
        attempts = c.attempts;
        others = λ o l. c.others o;
      }

  pub carrying : (ps : List Placed) → From 0 ps → Carrying s hints ps
  carrying ps f = record { below = f.below; apart = f.apart; attempts = f.attempts; others = λ o. f.others o (omega arith) }

  -- without the first row
  tail : (lo : ℕ) (p : Placed) (ps : List Placed) → From lo (p ∷ ps) → From (end p) ps
  tail lo p ps f =
      record {
        starts = f.apart.0;
        below = f.below.1;
        apart = f.apart.1;
        attempts = f.attempts.1;
        others = λ o l m free. f.others o (omega (arith, f.starts.0)) m ((λ c. omega (arith, c.1)), free);
      }

  -- each row takes two bytes at least
  pub few_rows : (ps : List Placed) (lo : ℕ) → From lo ps → 2 * length ps ≤ length s - lo
  few_rows [] lo f = omega arith
  few_rows (p ∷ ps) lo f = omega (arith, few_rows ps (end p) (tail lo p ps f), f.starts.0, hit_takes s hints p.at p.row f.attempts.0)

  -- ---- two lists
  -- a row that starts before all of the other list is none
  none_earlier : {C : Type 0} (lo : ℕ) (p : Placed) (ps qs : List Placed) → From lo (p ∷ ps) → From lo qs → Each (λ q. p.at < q.at) qs → C
  none_earlier lo p ps qs f g h =
      never (sym (g.others p.at f.starts.0 f.below.0 (each (λ q l c. omega (arith, c.0)) qs h)) ∙ f.attempts.0)

  before_all : (lo : ℕ) (p q : Placed) (qs : List Placed) → From lo (q ∷ qs) → p.at < q.at → Each (λ r. p.at < r.at) (q ∷ qs)
  before_all lo p q qs g h = (h, each (λ r l. omega arith) qs g.apart.0)

  same_row : (p q : Placed) → p.at ≡ q.at → attempt_at s hints p.at ≡ hit p.row → attempt_at s hints q.at ≡ hit q.row → p ≡ q
  same_row p q e a b =
      let row : p.row ≡ q.row = cc in
      rw (e, row)

  same_from : (ps qs : List Placed) (lo : ℕ) → From lo ps → From lo qs → ps ≡ qs
  same_from [] [] lo f g = refl
  same_from [] (q ∷ qs) lo f g = none_earlier lo q qs [] g f tt
  same_from (p ∷ ps) [] lo f g = none_earlier lo p ps [] f g tt
  same_from (p ∷ ps) (q ∷ qs) lo f g =
      by_order p.at q.at (λ lt. none_earlier lo p ps (q ∷ qs) f g (before_all lo p q qs g lt))
      (λ ge.
      by_order q.at p.at (λ lt. none_earlier lo q qs (p ∷ ps) g f (before_all lo q p ps f lt))
      (λ le.
      let first = same_row p q (omega arith) f.attempts.0 g.attempts.0 in
      let rest = same_from ps qs (end p) (tail lo p ps f) (rw (← first) at (tail lo q qs g)) in
      rw (first, rest)))

  -- THE LAW
  pub same_list : (ps qs : List Placed) → Carrying s hints ps → Carrying s hints qs → ps ≡ qs
  same_list ps qs c d = same_from ps qs 0 (from_0 ps c) (from_0 qs d)
