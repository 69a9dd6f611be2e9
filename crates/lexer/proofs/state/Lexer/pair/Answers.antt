-- `Lexer::pair` meets its contract. Assumes nothing.
use Rattle.lexer.specs.Syntax.{kind_number}
use Rattle.lexer.specs.Lexer.{lex_one}
use Rattle.lexer.proofs.Steps.{nothing, followed, not_followed}
use Rattle.lexer.proofs.state.Lexer.pair.Goals as goal

pub returns-then-advance_if : goal.returns-then-advance_if
returns-then-advance_if c =
    let a = c.args in
    followed (lex_one (kind_number a.longer)) (lex_one (kind_number a.shorter)) c.advance_if.ensures c.if-advance_if.true (nothing _ a.longer)

pub returns-else-advance_if : goal.returns-else-advance_if
returns-else-advance_if c =
    let a = c.args in
    not_followed (lex_one (kind_number a.longer)) (lex_one (kind_number a.shorter)) c.advance_if.ensures c.if-advance_if.false (nothing _ a.shorter)
