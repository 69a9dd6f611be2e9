-- The state of the definition, with lists that never run out of room, and what a function does to it.
-- Assumes nothing: these are definitions.
use Rattle.std.specs.Prelude.{ℕ, ◌+◌, List, [], ◌∷◌, ◌++◌, length}
use Rattle.grammar.specs.Words.{Sym}
use Rattle.grammar.specs.Run.{Res, leaves, P}
use Rattle.grammar.specs.Out.{ev, Diag, dg}

-- What the parser holds: the tokens left, how many were taken, and what was written.
pub record State : Type 0 where
  pub rest : List Sym
  pub pos : ℕ
  pub evs : List ℕ
  pub dgs : List Diag

abbrev pub after : {A : Type 0} → State → Res A → State
after s x = record { rest = x.rest; pos = s.pos + length (leaves x.out); evs = s.evs ++ ev x.out; dgs = s.dgs ++ dg s.pos x.out }

-- A function's run.
unfoldable pub run : {A : Type 0} → P A → State → State
run f s = after s (f s.rest)

-- start_node, finish_node, error_here
abbrev pub write : ℕ → State → State
write e s = record { rest = s.rest; pos = s.pos; evs = s.evs ++ e ∷ []; dgs = s.dgs }

abbrev pub report : ℕ → State → State
report m s = record { rest = s.rest; pos = s.pos; evs = s.evs; dgs = s.dgs ++ record { msg = m; pos = s.pos } ∷ [] }
