-- Diagnostics that stand at tokens of a file, as those of the first of two joined files do: Joined in proofs/.
-- Assumes nothing: this is a definition.
use Rattle.std.specs.Prelude.{ℕ, ◌<◌}
use mathlib.Core.List.{List, [], ◌∷◌}
use Rattle.grammar.specs.Out.{Diag}

-- A's diagnostics stand at tokens of A, never at its end: so each keeps its place in bytes too.
abbrev pub DiagsBelow : ℕ → List Diag → Type 0
DiagsBelow n [] = Unit {0}
DiagsBelow n (d ∷ l) = (d.pos < n) × DiagsBelow n l
