-- Paths and groups.
-- Defines: parse_path_with_message, parse_balanced_group.
-- Assumes nothing: these are definitions.
use Rattle.std.specs.Prelude.{ℕ, suc, pred, Bool, true, false, cond, not, List, eqb}
use Rattle.lexer.specs.Syntax.{ColonColon}
use Rattle.grammar.specs.Words.{Sym}
use Rattle.grammar.specs.Look.{at_kind, at_name_like, peek_after_non_comment_trivia}
use Rattle.grammar.specs.Run.{Path, P, pure, in_node, pick, ◌>>=◌, ◌>>◌, when◌then◌else◌, Round, stop, go, scan, loop}
use Rattle.grammar.specs.Message.{Message, ExpectedPathSegment}
use Rattle.grammar.specs.Bump.{bump, error_here, nop, bump_regular_trivia, bump_non_comment_trivia, expect_kind}

-- A further segment of a path, at its `::`.
unfoldable pub path_segment : P Bool
path_segment = do
  bump_non_comment_trivia
  bump
  bump_non_comment_trivia
  when at_name_like then (bump >> pure true) else (error_here (Message.Plain ExpectedPathSegment) >> pure false)

unfoldable pub path_round : P Bool
path_round = when (λ r. at_kind ColonColon (peek_after_non_comment_trivia r)) then path_segment else pure false

unfoldable pub parse_path_with_message : Message → P Bool
parse_path_with_message message = in_node Path do
  when at_kind ColonColon then bump else nop
  bump_non_comment_trivia
  when at_name_like then (bump >> loop path_round) else error_here message

-- The local is the number of open delimiters of this kind; at 0 the group is closed.
unfoldable pub group_round : Sym → Sym → ℕ → List Sym → Round ℕ
group_round opener closer depth r = cond (eqb 0 depth) stop (go (cond (at_kind opener r) (suc depth) (cond (at_kind closer r) (pred depth) depth)))

unfoldable pub parse_balanced_group : Sym → Sym → Message → P Bool
parse_balanced_group opener closer missing = do
  bump_regular_trivia
  opened ← expect_kind opener missing
  pick (not opened) nop do
    depth ← scan (group_round opener closer) 1
    pick (eqb 0 depth) nop (error_here missing)
