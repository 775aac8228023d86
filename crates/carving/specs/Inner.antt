-- What the code carries between its own functions; nothing that a caller has to believe.
-- Assumes nothing.
use Rattle.std.specs.Prelude.{ℕ, ◌+◌, ◌≤◌}
use Rattle.carving.specs.Calls.{width_by}
use Rattle.carving.specs.declared.inner.Carving.{Carving}
use Rattle.hit.specs.declared.inner.Spot.{Spot}
use Rattle.sheet.specs.Limits.{most_columns, largest_region, largest_base}

-- a page of so many bytes that is carved by itself, in some way
pub record Filling (how : Carving) (len columns : ℕ) (spot : Spot) : Type 0 where
  pub inside : spot.start + len ≤ largest_region
  pub near : spot.base ≤ largest_base
  pub some : 1 ≤ columns
  pub few : columns ≤ most_columns
  pub narrow : columns ≤ width_by how
