-- Well-formed UTF-8: characters one after another, each a sequence of a row of table 3-7.
use Rattle.std.specs.Prelude.{List, [], ◌∷◌, ◌++◌, ℕ, ◌≤◌}
use Rattle.utf8.specs.Table.{◌⋯◌, Row, table_3_7}

-- a sequence of a row: a byte of each range, in order
pub data Sequence : Row → List ℕ → Type 0 where
  done : Sequence [] []
  byte : {low high b : ℕ} {row : Row} {bs : List ℕ} → low ≤ b → b ≤ high → Sequence row bs → Sequence (low ⋯ high ∷ row) (b ∷ bs)

-- a sequence of one of the rows
pub data Character : List Row → List ℕ → Type 0 where
  here : {row : Row} {rows : List Row} {bs : List ℕ} → Sequence row bs → Character (row ∷ rows) bs
  there : {row : Row} {rows : List Row} {bs : List ℕ} → Character rows bs → Character (row ∷ rows) bs

-- the empty text, and a character with a well-formed text after it
pub data WellFormed : List ℕ → Type 0 where
  empty : WellFormed []
  more : {c s : List ℕ} → Character table_3_7 c → WellFormed s → WellFormed (c ++ s)
