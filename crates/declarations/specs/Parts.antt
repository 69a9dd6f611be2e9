-- Pieces of the declarations' definitions that are functions of their own in the code. Assumes nothing: these are definitions.
use Rattle.std.specs.Prelude.{Bool, ◌&&◌, List, [], ◌∷◌}
use Rattle.lexer.specs.Syntax.{Newline, Equal, LParen, RParen}
use Rattle.grammar.specs.Words.{Sym, ENUM, TYPE}
use Rattle.grammar.specs.Look.{one_of, at, at_kind, line_break_starts_new_top_level_item}
use Rattle.grammar.specs.Run.{P, ◌>>◌, when◌then◌else◌}
use Rattle.grammar.specs.declared.nesting.Nesting.{Nesting}
use Rattle.grammar.specs.declared.message.Message.{Message}
use Rattle.grammar.specs.declared.message.PlainMessage.TheVariants.{ExpectedTypeOrEnum}
use Rattle.grammar.specs.Bump.{bump, error_here, nop, bump_regular_trivia, expect_kind, expect_keyword, expect_name}
use Rattle.grammar.specs.Nesting.{is_root}
use Rattle.grammar.specs.Path.{parse_balanced_group}
use Rattle.grammar.specs.Line.{parse_expr_until_line_end, parse_line_tail}
use Rattle.grammar.specs.Item.{type_name_and_body}

-- a name, behind trivia
abbrev pub name_behind : Message → P Bool
name_behind name = bump_regular_trivia >> expect_name name

-- a keyword that must be there, and a name behind it
abbrev pub keyword_and_name : Sym → Message → Message → P Bool
keyword_and_name k m name = expect_keyword k m >> name_behind name

-- a group in parentheses, where one starts here
abbrev pub optional_parens : Message → P Bool
optional_parens missing = when at_kind LParen then parse_balanced_group LParen RParen missing else nop

-- `=`, an expression and the rest of the line
abbrev pub value_line : Message → P Bool
value_line missing = expect_kind Equal missing >> parse_expr_until_line_end >> parse_line_tail

-- type_round's test
unfoldable pub type_ends : Nesting → List Sym → Bool
type_ends n r = at_kind Newline r && (is_root n && line_break_starts_new_top_level_item r)

-- parse_type_decl, behind its visibility and trivia
abbrev pub type_keyword : P Bool
type_keyword = when at (one_of (TYPE ∷ ENUM ∷ [])) then (bump >> type_name_and_body) else error_here (Message.Plain ExpectedTypeOrEnum)
