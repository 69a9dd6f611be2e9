-- `parser::state::Parser::repeat`: `loop`: a round that goes on takes a token. Assumes nothing.
use mathlib.Core.Bool.{Bool}
use Prim.Native.Nat.{◌-◌}
use lib.ListN.{length}
use Rattle.grammar.specs.Run.{P, loop}
use Rattle.parser.specs.Rep.{world}
use Rattle.parser.specs.Rounds.{RoundOf}
use Rattle.parser.proofs.Kit.{Leads}
use Rattle.parser.proofs.state.Parser.repeat.Given as goal

abbrev pub invariant-loop-s : goal.invariant-loop-s
invariant-loop-s g l = (f : P Bool) → RoundOf f (goal.F-post g l.round) → Leads (loop f) (world l.initial.self l.initial.c) (loop f) (world l.self l.c)

abbrev pub decreases-loop-s : goal.decreases-loop-s
decreases-loop-s g l = length l.self.kinds.now - l.c.pos
