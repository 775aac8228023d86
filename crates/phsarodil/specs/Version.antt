-- The number of this interface: it changes with the words of a row, of a column entry or of an answer, or with what a call takes, so
-- that a program that was built for others finds out before its first call. A call that is added does not change it.
-- Assumes nothing.
use Rattle.std.specs.Prelude.{ℕ}

abbrev pub door_version : ℕ
door_version = 4
