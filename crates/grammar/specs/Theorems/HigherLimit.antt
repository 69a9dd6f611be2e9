-- Messages without the depth diagnostic: the premise of HigherLimit in proofs/, and of the theorem about calls in answer.
-- Assumes nothing: this is a definition.
use Rattle.std.specs.Prelude.{ℕ, Bool, true, not, ◌&&◌, List, [], ◌∷◌, eqb}
use Rattle.grammar.specs.Laws.StableBlock.{m_depth}

-- None of these messages is the depth diagnostic.
abbrev pub without_depth : List ℕ → Bool
without_depth [] = true
without_depth (m ∷ ms) = not (eqb m_depth m) && without_depth ms
