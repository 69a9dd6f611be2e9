-- What `masm_lines` returns and leaves. M-102: 'For each i below the shortest of the three lengths it writes the line and the column of
-- offset i; an offset above the source's length counts as that length. It returns how many it wrote, and leaves the rest as it was; of a
-- source above 1,048,576 bytes it writes nothing and returns 0.'
-- Assumes nothing: these are definitions.
use Rattle.std.specs.Prelude.{ℕ, ◌≡◌, cond, List, map, min, ltb, length}
use Rattle.room.specs.Over.{fit}
use Rattle.lexer.specs.Tokens.{MAX_SOURCE}
use Rattle.lines.specs.Ends.{line, column}

-- a number of each offset
abbrev pub at_offsets : (List ℕ → ℕ → ℕ) → List ℕ → List ℕ → List ℕ
at_offsets f source offsets = map (λ o. f source (min o (length source))) offsets

-- how many are written
abbrev pub positions_written : List ℕ → List ℕ → List ℕ → List ℕ → ℕ
positions_written source offsets lines columns =
    cond (ltb MAX_SOURCE (length source)) 0 (min (min (length offsets) (length lines)) (length columns))

pub record MasmLines (source offsets lines columns : List ℕ) (r : ℕ) (lines' columns' : List ℕ) : Type 0 where
  pub returned : r ≡ positions_written source offsets lines columns
  pub lines_are : lines' ≡ fit r (at_offsets line source offsets) lines
  pub columns_are : columns' ≡ fit r (at_offsets column source offsets) columns
