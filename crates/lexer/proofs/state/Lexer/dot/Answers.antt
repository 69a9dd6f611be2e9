-- `Lexer::dot` meets its contract. Assumes nothing.
use Rattle.lexer.specs.declared.syntax.SyntaxKind.TheVariants as kind
use Rattle.lexer.specs.Syntax.{Dot, DotDot, DotDotDot}
use Rattle.lexer.specs.Lexer.{lex_one, follow}
use Rattle.lexer.proofs.Steps.{nothing, followed, not_followed}
use Rattle.lexer.proofs.state.Lexer.dot.Goals as goal

pub returns-then-advance_if : goal.returns-then-advance_if
returns-then-advance_if c =
    followed (follow 46 (lex_one DotDotDot) (lex_one DotDot)) (lex_one Dot) c.advance_if.ensures c.if-advance_if.true c.pair.ensures

pub returns-else-advance_if : goal.returns-else-advance_if
returns-else-advance_if c =
    not_followed (follow 46 (lex_one DotDotDot) (lex_one DotDot)) (lex_one Dot) {k = kind.Dot} c.advance_if.ensures c.if-advance_if.false (nothing _ kind.Dot)
