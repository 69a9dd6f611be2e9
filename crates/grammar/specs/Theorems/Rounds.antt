-- Diagnostics with a number from 1 to 53. Rounds in proofs/ shows that every file has such alone.
-- Assumes nothing: this is a definition.
use Rattle.std.specs.Prelude.{◌≤◌, List, [], ◌∷◌}
use Rattle.grammar.specs.Out.{Diag}

-- Every diagnostic has a message of docs/MESSAGES.md.
abbrev pub AllNumbered : List Diag → Type 0
AllNumbered [] = Unit {0}
AllNumbered (d ∷ l) = (1 ≤ d.msg) × (d.msg ≤ 53) × AllNumbered l
