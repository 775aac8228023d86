-- What the answers of reading and writing say. Which bytes a reader or a writer moves, no contract can say.
-- Assumes nothing.
use Rattle.std.specs.Prelude.{ℕ, ◌≤◌, Bool, true, List, Result, IfOk, is_none, ◌≡◌}
use Rattle.std.specs.declared.io.Error.{Error}
use Rattle.io.specs.Counts.{IsPrefixLen}
use Rattle.streams.specs.declared.Output.{Output}

-- at most n bytes were moved
abbrev pub AtMost : ℕ → Result ℕ Error → Type 0
AtMost n moved = IfOk moved (λ k. k ≤ n)

-- what was read stands at the start of the space
abbrev pub StandsIn : List ℕ → Result ℕ Error → Type 0
StandsIn space got = IfOk got (λ n. IsPrefixLen n space)

-- whether all that was said so far was taken
abbrev pub is_whole : Output → Bool
is_whole out = is_none out.failed

-- an output that is whole was whole before
abbrev pub StillWhole : Output → Output → Type 0
StillWhole before after = is_whole after ≡ true → is_whole before ≡ true
