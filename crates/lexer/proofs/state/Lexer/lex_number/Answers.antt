-- `Lexer::lex_number` meets its contract. Assumes nothing.
use borrow.Author.Tests.{ne_eqb}
use Rattle.lexer.specs.Chars.{decimal}
use Rattle.lexer.proofs.state.Lexer.lex_number.Goals as goal

pub returns-else-b-eq48 : goal.returns-else-b-eq48
returns-else-b-eq48 c = rw (ne_eqb _ _ c.if-b-eq48.false) (c.lex_while.ensures decimal (λ b r e. e))
