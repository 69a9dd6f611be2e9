-- `Lexer::newline` meets its contract: past an LF or not, the kind is the same. Assumes nothing.
use mathlib.Core.Path.{refl}
use Rattle.lexer.specs.declared.syntax.SyntaxKind.TheVariants.{Newline}
use Rattle.lexer.specs.Lexer.{lex_one}
use Rattle.lexer.specs.Syntax as kind
use Rattle.lexer.proofs.Steps.{nothing, passed}
use Rattle.lexer.proofs.state.Lexer.newline.Goals as goal

pub returns : goal.returns
returns c =
    passed (lex_one kind.Newline) (record { found_is = refl; source_is = refl; offset_is = c.past_byte-self.ensures.moved }) (nothing _ Newline)
