-- Pieces of parse_procedure's definition that are functions of their own in the code. Assumes nothing: these are definitions.
use Rattle.std.specs.Prelude.{Bool}
use Rattle.lexer.specs.Syntax.{LParen}
use Rattle.grammar.specs.Words.{PROC}
use Rattle.grammar.specs.Look.{at_kind}
use Rattle.grammar.specs.Run.{P, ◌>>◌, when◌then◌else◌, loop}
use Rattle.grammar.specs.declared.message.Message.{Message}
use Rattle.grammar.specs.declared.message.PlainMessage.TheVariants.{ExpectedProc, ExpectedProcedureName}
use Rattle.grammar.specs.Bump.{nop, bump_regular_trivia, expect_keyword, expect_name}
use Rattle.grammar.specs.Line.{parse_line_tail}
use Rattle.grammar.specs.Item.{optional_visibility, parse_signature, attribute_round}

abbrev pub optional_signature : P Bool
optional_signature = when at_kind LParen then parse_signature else nop

-- up to `proc`, and from there to the block
abbrev pub procedure_lead : P Bool
procedure_lead = loop attribute_round >> bump_regular_trivia >> optional_visibility >> bump_regular_trivia >> expect_keyword PROC (Message.Plain ExpectedProc)

abbrev pub procedure_header : P Bool
procedure_header = bump_regular_trivia >> expect_name (Message.Plain ExpectedProcedureName) >> bump_regular_trivia >> optional_signature >> parse_line_tail
