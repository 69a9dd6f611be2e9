-- The number of the depth diagnostic, over which StableBlock in proofs/ states what blocks do at a higher limit.
-- Assumes nothing: this is a definition.
use Prim.Native.Nat.{ℕ}
use Rattle.grammar.specs.Message.{Message, NestingTooDeep, number}

-- The depth diagnostic.
abbrev pub m_depth : ℕ
m_depth = number (Message.Plain NestingTooDeep)
