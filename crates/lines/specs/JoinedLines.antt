-- Lines and columns in a joined file. M-102: 'For a joined file, B's lines go up by the number of line ends in A.'
-- Assumes nothing: these are definitions.
use Rattle.std.specs.Prelude.{ℕ, ◌+◌, ◌≤◌, ◌≡◌, List, [], ◌∷◌, ◌++◌, map, length, take}
use Rattle.lines.specs.Ends.{ends_by}

-- how many line ends a source has
abbrev pub line_ends_in : List ℕ → ℕ
line_ends_in source = length (ends_by source (length source))

-- offsets of which none is above n
abbrev pub NoneAbove : ℕ → List ℕ → Type 0
NoneAbove n [] = Unit {0}
NoneAbove n (o ∷ os) = (o ≤ n) × NoneAbove n os

-- a call of `masm_lines` has room for all its offsets
pub record LinesFit (offsets lines columns : List ℕ) : Type 0 where
  pub for_lines : length offsets ≤ length lines
  pub for_columns : length offsets ≤ length columns

-- What three calls wrote, for places in A, for places in B, and for all these in the join: A's lines and columns, and then B's, the lines
-- gone up by the line ends in A.
pub record JoinedLines (a : List ℕ) (na nb nj : ℕ) (la ca lb cb lj cj : List ℕ) : Type 0 where
  pub number_is : nj ≡ na + nb
  pub lines_join : take nj lj ≡ take na la ++ map (λ n. n + line_ends_in a) (take nb lb)
  pub columns_join : take nj cj ≡ take na ca ++ take nb cb
