-- `Lexer::comment` meets its contract. Assumes nothing.
use Rattle.lexer.specs.declared.syntax.SyntaxKind.TheVariants as kind
use Rattle.lexer.specs.Syntax.{Comment, DocComment}
use Rattle.lexer.specs.Lexer.{lex_while, in_line}
use Rattle.lexer.proofs.Steps.{run, followed, not_followed}
use Rattle.lexer.proofs.state.Lexer.comment.Goals as goal

pub returns-then-doc : goal.returns-then-doc
returns-then-doc c =
    followed (lex_while DocComment in_line) (lex_while Comment in_line) {k = kind.DocComment} c.advance_if-doc.ensures c.if-doc.true (run in_line kind.DocComment c.line_rest.ensures)

pub returns-else-doc : goal.returns-else-doc
returns-else-doc c =
    not_followed (lex_while DocComment in_line) (lex_while Comment in_line) {k = kind.Comment} c.advance_if-doc.ensures c.if-doc.false (run in_line kind.Comment c.line_rest.ensures)
