-- Blocks of a list that pass a test, one behind the other.
-- Assumes nothing.
use Prim.Native.Nat.{ℕ, suc, ◌+◌, ◌*◌}
use mathlib.Core.Path.{◌≡◌, refl, ◌∙◌}
use mathlib.Core.Bool.{Bool, true, false}
use mathlib.Core.List.{List, [], ◌∷◌}
use native.Mathlib.Nat.{zero-add}
use native.Mathlib.Omega.{arith}
use lib.ListN.{length}
use denote.Ref.{Bor}
use denote.Param.Members.{Mut}
use Rattle.std.specs.Prelude.{Option, Some, None}
use Rattle.std.specs.Bool.{MatchBool}
use Rattle.std.specs.Option.{MatchOption}
use Rattle.std.specs.Fn.{CalledAt}
use Rattle.std.specs.Iterator.{Yields, Drains}
use Rattle.std.specs.Iterator.Adapters.{take_while_source, take_while_done, take_while_callee, take_while_steps}
use Rattle.std.specs.Slice.Iter.{chunks_exact_rest, chunks_exact_size, chunks_exact_steps}
use Rattle.std.specs.declared.iter.TakeWhile.{TakeWhile}
use Rattle.std.specs.declared.slice.ChunksExact.{ChunksExact}
use Rattle.words.specs.Inner.{AllIn, Leads}
use Rattle.words.proofs.Laws.{leads_behind}

module _ (p : ℕ → Bool) (n : ℕ) {F : Type 0} (g : Mut F (Bor (Bor (List ℕ)) × Unit {0}) Bool) (f : F)
    (passes : (x : Bor (List ℕ)) (q : F) → CalledAt g f x true q → (q ≡ f) × AllIn p x.now 0 (length x.now) true) where
  -- one block more: it comes first of what is left, and the test passed it
  abbrev Next : TakeWhile (ChunksExact ℕ) F → Bor (List ℕ) → TakeWhile (ChunksExact ℕ) F → Type 0
  Next s x t = chunks_exact_steps (take_while_source s) (Some x) (take_while_source t) × CalledAt g (take_while_callee s) x true (take_while_callee t)

  tested : (s t : TakeWhile (ChunksExact ℕ) F) (x y : Bor (List ℕ)) (b : Bool) → chunks_exact_steps (take_while_source s) (Some y) (take_while_source t) →
      CalledAt g (take_while_callee s) y b (take_while_callee t) →
      MatchBool b ((Some x ≡ Some y) × (take_while_done t ≡ false)) ((Some x ≡ None) × (take_while_done t ≡ true)) → Next s x t
  tested s t x y true c k m = let e : x ≡ y = cc in rw e (c, k)
  tested s t x y false c k m = cc

  came : (s t : TakeWhile (ChunksExact ℕ) F) (x : Bor (List ℕ)) (o : Option (Bor (List ℕ))) → chunks_exact_steps (take_while_source s) o (take_while_source t) →
      MatchOption o ((Some x ≡ None) × (take_while_done t ≡ false))
      (λ y. (b : Bool) × CalledAt g (take_while_callee s) y b (take_while_callee t)
      × MatchBool b ((Some x ≡ Some y) × (take_while_done t ≡ false)) ((Some x ≡ None) × (take_while_done t ≡ true))) → Next s x t
  came s t x None c m = cc
  came s t x (Some y) c m = tested s t x y m.0 c m.1 m.2

  opened : (s t : TakeWhile (ChunksExact ℕ) F) (x : Bor (List ℕ)) (d : Bool) → MatchBool d ((Some x ≡ None) × (t ≡ s))
      ((o : Option (Bor (List ℕ))) × chunks_exact_steps (take_while_source s) o (take_while_source t) × MatchOption o ((Some x ≡ None) × (take_while_done t ≡ false))
      (λ y. (b : Bool) × CalledAt g (take_while_callee s) y b (take_while_callee t)
      × MatchBool b ((Some x ≡ Some y) × (take_while_done t ≡ false)) ((Some x ≡ None) × (take_while_done t ≡ true)))) → Next s x t
  opened s t x true m = cc
  opened s t x false m = came s t x m.0 m.1 m.2

  -- THE LAW: the blocks that pass lead the list, all of them
  pub blocks_lead : (xs : List (Bor (List ℕ))) (s t : TakeWhile (ChunksExact ℕ) F) → take_while_callee s ≡ f → chunks_exact_size (take_while_source s) ≡ n →
      Yields (take_while_steps chunks_exact_steps g) s xs t → Leads p (chunks_exact_rest (take_while_source s)) (n * length xs)
  blocks_lead [] s t e z y =
      let none : n * 0 ≡ 0 = omega arith in
      rw none (record { within = omega arith; rest = omega arith })
  blocks_lead (x ∷ xs) s t e z y =
      let w = opened s y.0 x (take_while_done s) y.1 in
      let told = passes x (take_while_callee y.0) (rw e at w.1) in
      let l = blocks_lead xs y.0 t told.0 (w.0.0 ∙ z) y.2 in
      let long : length x.now ≡ n = w.0.1.1 ∙ z in
      let whole : n * suc (length xs) ≡ n + n * length xs = omega arith in
      rw (whole, w.0.1.0, ← long) (leads_behind p x.now (chunks_exact_rest (take_while_source y.0)) (length x.now * length xs) (λ k h. rw zero-add at (told.1 refl k h)) (rw (← long) at l))

  -- as a count of them says it
  pub counted_lead : (s : TakeWhile (ChunksExact ℕ) F) (r : ℕ) → take_while_callee s ≡ f → chunks_exact_size (take_while_source s) ≡ n →
      ((xs : List (Bor (List ℕ))) × Drains (take_while_steps chunks_exact_steps g) s xs × (r ≡ length xs)) → Leads p (chunks_exact_rest (take_while_source s)) (n * r)
  counted_lead s r e z d = rw d.2 (blocks_lead d.0 s d.1.1.0 e z d.1.1.1)
