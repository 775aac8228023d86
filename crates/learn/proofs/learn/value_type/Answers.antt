-- `learn::learn::value_type` meets its contract: each arm is a clause of the definition.
-- Assumes nothing.
use mathlib.Core.Path.{ap, ◌∙◌}
use native.Mathlib.Omega.{arith}
use mir.Syntax.{w64}
use mir.Facts.{to_z-of_z}
use Rattle.learn.specs.Types.{integer_type, value_type}
use Rattle.learn.proofs.learn.value_type.Goals as goal

pub overflow_mul-result : goal.overflow_mul-result
overflow_mul-result c = let small = rw c.in-Text.is at c.requires in omega arith

pub overflow_add-result : goal.overflow_add-result
overflow_add-result c = let small = rw c.in-Text.is at c.requires in omega arith

pub overflow_mul-result-in-Blob : goal.overflow_mul-result-in-Blob
overflow_mul-result-in-Blob c = let small = rw c.in-Blob.is at c.requires in omega arith

pub overflow_add-result-in-Blob : goal.overflow_add-result-in-Blob
overflow_add-result-in-Blob c = let small = rw c.in-Blob.is at c.requires in omega arith

pub returns-in-Null : goal.returns-in-Null
unfolding value_type
returns-in-Null c = rw c.in-Null.is

pub returns-in-Int : goal.returns-in-Int
unfolding value_type
returns-in-Int c = rw c.in-Int.is (c.integer_type.ensures ∙ ap integer_type (to_z-of_z {w = w64} (record { sfits = c.in-Int.known_told-1-own.given.0.1 })))

pub returns-in-Real : goal.returns-in-Real
unfolding value_type
returns-in-Real c = rw c.in-Real.is

pub returns-in-Text : goal.returns-in-Text
unfolding value_type
returns-in-Text c = rw c.in-Text.is

pub returns-in-Blob : goal.returns-in-Blob
unfolding value_type
returns-in-Blob c = rw c.in-Blob.is
