-- `Lexer::lex_while` meets its contract. Assumes nothing.
use Rattle.lexer.proofs.Steps.{run}
use Rattle.lexer.proofs.state.Lexer.lex_while.Goals as goal

pub returns : goal.returns
returns g c = λ p h. run p c.args.kind (c.advance_while.ensures p h)
