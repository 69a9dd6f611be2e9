-- The small steps: one token, a run of trivia, a token that must be there.
-- Defines: bump, error_here, error_at_eof, bump_regular_trivia, bump_non_comment_trivia, bump_inline_whitespace, expect_keyword, expect_kind.
-- Assumes nothing: these are definitions.
use Rattle.std.specs.Prelude.{Bool, true, false, cond, List}
use Rattle.lexer.specs.Syntax.{Whitespace}
use Rattle.grammar.specs.Words.{Sym, is}
use Rattle.grammar.specs.Look.{at, at_kind, at_name_like, regular_trivia, non_comment_trivia}
use Rattle.grammar.specs.Run.{Error, P, pure, in_node, ◌>>◌, when◌then◌else◌, take_token, err, Round, stop, go, scan}
use Rattle.grammar.specs.Message.{Message, number}

abbrev pub bump : P Bool
bump = take_token

-- error_at_eof is the same at the end of the file.
abbrev pub error_here : Message → P Bool
error_here m = err (number m)

-- A branch that the Rust leaves out.
abbrev pub nop : P Bool
nop = pure true

-- while the token is p { bump }
unfoldable pub while_round : (Sym → Bool) → Bool → List Sym → Round Bool
while_round p l r = cond (at p r) (go l) stop

unfoldable pub bump_while : (Sym → Bool) → P Bool
bump_while p = scan (while_round p) true

abbrev pub bump_regular_trivia : P Bool
bump_regular_trivia = bump_while regular_trivia

abbrev pub bump_non_comment_trivia : P Bool
bump_non_comment_trivia = bump_while non_comment_trivia

abbrev pub bump_inline_whitespace : P Bool
bump_inline_whitespace = bump_while (is Whitespace)

unfoldable pub expect_kind : Sym → Message → P Bool
expect_kind kind message = do
  bump_regular_trivia
  when at_kind kind then (bump >> pure true) else (error_here message >> pure false)

abbrev pub expect_keyword : Sym → Message → P Bool
expect_keyword = expect_kind

-- if at_name_like() { bump } else { error_here(message) }
unfoldable pub expect_name : Message → P Bool
expect_name message = when at_name_like then bump else error_here message

-- An Error node around one token, with a diagnostic.
unfoldable pub error_token : Message → P Bool
error_token message = in_node Error (error_here message >> bump)
