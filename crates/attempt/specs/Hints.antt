-- Which serial types suit a hint (rule 4.1).
-- Assumes nothing.
use Rattle.std.specs.Prelude.{ℕ, ◌+◌, ◌%◌, Bool, cond, ◌&&◌, ◌||◌, List, [], ◌∷◌, ltb, leb, eqb, Result, Ok, Err}
use Rattle.sheet.specs.Limits.{integer_hint, real_hint, text_hint, blob_hint, null_hint, any_hint, highest_hint}
use Rattle.sheet.specs.Refusal.{refusal_number}
use Rattle.sheet.specs.declared.refusal.Refusal.{Refusal}
use Rattle.sheet.specs.declared.refusal.Refusal.TheVariants.{Malformed}

-- integers, which a NULL may stand for, as for any hint
unfoldable pub is_integer : ℕ → Bool
is_integer t = leb t 6 || (eqb t 8 || eqb t 9)

unfoldable pub is_real : ℕ → Bool
is_real t = eqb t 0 || eqb t 7

unfoldable pub is_text : ℕ → Bool
is_text t = eqb t 0 || (leb 13 t && eqb (t % 2) 1)

unfoldable pub is_blob : ℕ → Bool
is_blob t = eqb t 0 || (leb 12 t && eqb (t % 2) 0)

-- Rule 4.1: by the hint's code, Integer, Real, Text, Blob, Null and Any
unfoldable pub suits : ℕ → ℕ → Bool
suits hint t =
    cond (eqb hint integer_hint) (is_integer t)
    (cond (eqb hint real_hint) (is_real t)
    (cond (eqb hint text_hint) (is_text t)
    (cond (eqb hint blob_hint) (is_blob t)
    (cond (eqb hint null_hint) (eqb t 0)
    (eqb hint any_hint)))))

-- how many types suit the hints that they stand at
abbrev pub suited : List ℕ → List ℕ → ℕ
suited hs [] = 0
suited [] (t ∷ ts) = 0
suited (h ∷ hs) (t ∷ ts) = cond (suits h t) 1 0 + suited hs ts

-- a code above 5 is no hint: refusal 2
unfoldable pub compatible : ℕ → ℕ → Result Bool Refusal
compatible hint t = cond (ltb highest_hint hint) (Err Malformed) (Ok (suits hint t))

-- the paper's number of such an answer, and whether the type suits: 1 or 0
abbrev pub compatible_number_of : Result Bool Refusal → ℕ
compatible_number_of (Ok suits) = 0
compatible_number_of (Err r) = refusal_number r

abbrev pub compatible_word_of : Result Bool Refusal → ℕ
compatible_word_of (Ok suits) = cond suits 1 0
compatible_word_of (Err r) = 0

-- and both by the rules, with no answer between
unfoldable pub compatible_number : ℕ → ℕ
compatible_number hint = cond (ltb highest_hint hint) (refusal_number Malformed) 0

unfoldable pub compatible_word : ℕ → ℕ → ℕ
compatible_word hint t = cond (ltb highest_hint hint) 0 (cond (suits hint t) 1 0)
