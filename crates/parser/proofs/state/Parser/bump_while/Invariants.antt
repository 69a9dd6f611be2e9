-- `parser::state::Parser::bump_while`: the loop is `scan`, a token at a time. Assumes nothing.
use mathlib.Core.Path.{◌≡◌}
use Prim.Native.Nat.{◌-◌}
use lib.ListN.{length}
use Rattle.grammar.specs.Bump.{bump_while}
use Rattle.lexer.specs.Syntax.{kind_number}
use Rattle.parser.specs.Sets.{trivia_to}
use Rattle.parser.specs.Rep.{world}
use Rattle.parser.proofs.Kit.{Leads}
use Rattle.parser.proofs.state.Parser.bump_while.Given as goal

abbrev pub invariant-loop-last : goal.invariant-loop-last
invariant-loop-last l =
    Leads (bump_while (trivia_to (kind_number l.last))) (world l.initial.self l.initial.c) (bump_while (trivia_to (kind_number l.last))) (world l.self l.c)
    × (l.self.messages ≡ l.initial.self.messages)
    × (l.self.starts ≡ l.initial.self.starts)

abbrev pub decreases-loop-last : goal.decreases-loop-last
decreases-loop-last l = length l.self.kinds.now - l.c.pos
