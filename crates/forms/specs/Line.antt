-- Where line forms end. Assumes nothing: these are definitions.
use Rattle.std.specs.Prelude.{Bool, ◌&&◌, ◌||◌, List, [], ◌∷◌}
use Rattle.lexer.specs.Syntax.{Whitespace, Newline, Comment, DocComment}
use Rattle.grammar.specs.Words.{Sym}
use Rattle.grammar.specs.Look.{one_of, at, at_kind, space_before_top_level_item}
use Rattle.grammar.specs.Run.{P, pick}
use Rattle.grammar.specs.declared.message.Message.{Message}
use Rattle.grammar.specs.declared.message.PlainMessage.{PlainMessage}
use Rattle.grammar.specs.declared.nesting.Nesting.{Nesting}
use Rattle.grammar.specs.Bump.{nop, error_here}
use Rattle.grammar.specs.Nesting.{is_root}

unfoldable pub line_ends : Nesting → List Sym → Bool
line_ends n r = is_root n && at (one_of (Newline ∷ Comment ∷ DocComment ∷ [])) r

unfoldable pub expr_ends : Nesting → Bool → List Sym → Bool
expr_ends n saw r = line_ends n r || (is_root n && (saw && (at_kind Whitespace r && space_before_top_level_item r)))

-- a result type must have a token
unfoldable pub result_end : Bool → P Bool
result_end taken = pick taken nop (error_here (Message.Plain PlainMessage.ExpectedResultType))
