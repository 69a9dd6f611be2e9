-- What the code knows of a place, of its marks, and of the position that it answers.
-- Assumes nothing: these are definitions.
use Rattle.std.specs.Prelude.{ℕ, ◌*◌, ◌≤◌, ◌<◌, ◌≡◌, List, min, length, get_or}
use Rattle.lines.specs.declared.spot.Spot.{Spot}
use Rattle.lines.specs.declared.walk.Position.{Position}
use Rattle.lines.specs.Ends.{ends_by, line, column, line_start}

-- The place of a spot is in the source, and its numbers are those of the place.
pub record Stands (source : List ℕ) (s : Spot) : Type 0 where
  pub within : s.at ≤ length source
  pub ends_are : s.ends ≡ length (ends_by source s.at)
  pub start_is : s.line_start ≡ line_start source s.at

abbrev pub first_spot : Spot
first_spot = record { at = 0; ends = 0; line_start = 0 }

-- Each mark is a spot of the source, and none lies behind its own place.
pub record Mark (source : List ℕ) (j : ℕ) (s : Spot) : Type 0 where
  pub stands : Stands source s
  pub before : s.at ≤ j * 2048

abbrev pub Marks : List ℕ → List Spot → Type 0
Marks source marks = (j : ℕ) → j < 512 → Mark source j (get_or marks j first_spot)

-- The position of an offset; behind the end of the source it is the end's.
pub record IsPosition (source : List ℕ) (offset : ℕ) (p : Position) : Type 0 where
  pub line_is : p.line ≡ line source (min offset (length source))
  pub column_is : p.column ≡ column source (min offset (length source))
