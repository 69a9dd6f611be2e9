-- M-102: 'CR LF, a lone CR and LF each end a line, inside quotes too. Line is 1 plus the ends completed by the start offset, column 1 plus
-- the bytes since the last of them.' LineEnd has each of the three line ends by itself.
-- Assumes nothing: these are definitions.
use Rattle.std.specs.Prelude.{ℕ, zero, suc, ◌+◌, ◌-◌, Bool, false, cond, not, ◌&&◌, ◌||◌, eqb, List, [], ◌∷◌, length, get_or}

-- Whether a line end is completed at an offset: behind an LF, or behind a CR that no LF follows.
abbrev pub completed : List ℕ → ℕ → Bool
completed source zero = false
completed source (suc n) = eqb (get_or source n 0) 10 || (eqb (get_or source n 0) 13 && not (eqb (get_or source (suc n) 0) 10))

-- The line ends that are completed by an offset, each as the offset at which it is, the last first.
abbrev pub ends_by : List ℕ → ℕ → List ℕ
ends_by source zero = []
ends_by source (suc n) = cond (completed source (suc n)) (suc n ∷ ends_by source n) (ends_by source n)

-- where the line of an offset starts: at the last of them, or at 0
abbrev pub line_start : List ℕ → ℕ → ℕ
line_start source o = get_or (ends_by source o) 0 0

abbrev pub line : List ℕ → ℕ → ℕ
line source o = 1 + length (ends_by source o)

abbrev pub column : List ℕ → ℕ → ℕ
column source o = 1 + (o - line_start source o)
