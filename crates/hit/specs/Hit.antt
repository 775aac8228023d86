-- A row that was found on a page (rules 5.1, 5.2, 10.3 and 11.7).
-- Assumes nothing.
use Rattle.std.specs.Prelude.{ℕ, ◌+◌, Float}
use Rattle.attempt.specs.Attempt.{Found}
pub use Rattle.attempt.specs.Moved.{moved_one, moved}
use Rattle.hit.specs.declared.inner.Origin.{Origin}
use Rattle.hit.specs.declared.inner.Spot.{Spot}
use Rattle.sheet.specs.Confidence.{percent_of}
use Rattle.sheet.specs.declared.row.Mode.TheVariants.{Plain}
use Rattle.sheet.specs.declared.row.Row.{Row}
use Rattle.sheet.specs.Row.{RowId}
use Rattle.sheet.specs.declared.row.Source.TheVariants.{CarvedIntraPage}
use Rattle.sheet.specs.Hits.{Hit}

-- Rule 11.7: in the free space of a page the percent is of the row's confidence
abbrev pub intra_page : RowId → Float → Origin
intra_page id confidence = record { id = id; source = CarvedIntraPage (percent_of confidence); confidence = confidence }

-- Rule 10.3: the row at the place `place` of a page,
abbrev pub row_at : Spot → ℕ → Origin → Found → Row
row_at spot place origin x =
    record {
      offset = spot.base + place;
      consumed = x.consumed;
      id = origin.id;
      source = origin.source;
      confidence = origin.confidence;
      mode = Plain;
      table = spot.table;
      padded = x.padded;
    }

-- with its columns, which are those of the page's part that begins at `part`
abbrev pub hit_of : Spot → ℕ → ℕ → Origin → Found → Hit
hit_of spot place part origin x = record { row = row_at spot place origin x; columns = moved (spot.start + part) x.columns }
