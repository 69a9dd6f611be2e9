-- What follows of the line ends completed by an offset.
-- Assumes nothing.
use Rattle.std.specs.Prelude.{ℕ, zero, suc, ◌+◌, ◌≤◌, Bool, true, false, cond, List, ◌∷◌, length, get_or}
use Rattle.std.proofs.Common.{arith}
use Rattle.lines.specs.Ends.{completed, ends_by, line_start, line, column}

-- a line starts at or before its places
pub start_within : (source : List ℕ) (o : ℕ) → line_start source o ≤ o
start_within source zero = omega arith
start_within source (suc n) = by_end (completed source (suc n)) (start_within source n)
  where
    by_end : (u : Bool) → line_start source n ≤ n → get_or (cond u (suc n ∷ ends_by source n) (ends_by source n)) 0 0 ≤ suc n
    by_end true h = omega arith
    by_end false h = omega (arith, h)

-- no more lines than bytes, and one
pub line_few : (source : List ℕ) (o : ℕ) → line source o ≤ o + 1
line_few source zero = omega arith
line_few source (suc n) = by_end (completed source (suc n)) (line_few source n)
  where
    by_end : (u : Bool) → line source n ≤ n + 1 → 1 + length (cond u (suc n ∷ ends_by source n) (ends_by source n)) ≤ suc n + 1
    by_end true h = omega (arith, h)
    by_end false h = omega (arith, h)

-- nor is a column further than its place
pub column_few : (source : List ℕ) (o : ℕ) → column source o ≤ o + 1
column_few source o = omega arith
