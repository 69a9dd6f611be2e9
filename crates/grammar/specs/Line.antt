-- Line forms: what runs to the end of a line.
-- Defines: parse_expr_until_line_end, parse_type_body, parse_line_tail, parse_signature_result_until_line_end.
-- Assumes nothing: these are definitions.
use Rattle.std.specs.Prelude.{Bool, true, false, cond, not, ◌&&◌, ◌||◌, List, [], ◌∷◌}
use Rattle.lexer.specs.Syntax.{Whitespace, Newline, Comment, DocComment}
use Rattle.grammar.specs.Words.{Sym}
use Rattle.grammar.specs.Look.{one_of, current, is_trivia, at, at_kind, line_break_starts_new_top_level_item, space_before_top_level_item}
use Rattle.grammar.specs.Run.{Expr, TypeBody, P, in_node, pick, ◌>>=◌, ◌>>◌, Round, stop, go, scan}
use Rattle.grammar.specs.Message.{Message, ExpectedResultType}
use Rattle.grammar.specs.Nesting.{Nesting, default, is_root, bump_nesting}
use Rattle.grammar.specs.Bump.{error_here, nop, bump_regular_trivia}

-- parse_expr_until_line_end's locals
pub record Expression : Type 0 where
  pub nesting : Nesting
  pub saw_significant : Bool

unfoldable pub expr_round : Expression → List Sym → Round Expression
expr_round l r =
    cond (is_root l.nesting && at (one_of (Comment ∷ DocComment ∷ [])) r) stop
    (cond (is_root l.nesting && at_kind Newline r) stop
    (cond (is_root l.nesting && (l.saw_significant && (at_kind Whitespace r && space_before_top_level_item r))) stop
    (bump_nesting l.nesting (current r) (λ n. record { nesting = n; saw_significant = l.saw_significant || not (is_trivia (current r)) }))))

abbrev pub no_token : Expression
no_token = record { nesting = default; saw_significant = false }

unfoldable pub parse_expr_until_line_end : P Expression
parse_expr_until_line_end = do
  bump_regular_trivia
  in_node Expr (scan expr_round no_token)

unfoldable pub type_round : Nesting → List Sym → Round Nesting
type_round n r = cond (at_kind Newline r && (is_root n && line_break_starts_new_top_level_item r)) stop (bump_nesting n (current r) (λ n. n))

unfoldable pub parse_type_body : P Nesting
parse_type_body = in_node TypeBody (scan type_round default)

-- The local says that no comment was taken yet.
unfoldable pub tail_round : Bool → List Sym → Round Bool
tail_round l r = cond (l && at_kind Whitespace r) (go true) (cond (l && at_kind Comment r) (go false) stop)

unfoldable pub parse_line_tail : P Bool
parse_line_tail = scan tail_round true

-- parse_signature_result_until_line_end's locals; `taken` is that a token was taken.
pub record ResultType : Type 0 where
  pub nesting : Nesting
  pub taken : Bool

unfoldable pub result_round : ResultType → List Sym → Round ResultType
result_round l r =
    cond (is_root l.nesting && at (one_of (Comment ∷ DocComment ∷ [])) r) stop
    (cond (is_root l.nesting && at_kind Newline r) stop
    (bump_nesting l.nesting (current r) (λ n. record { nesting = n; taken = true })))

unfoldable pub parse_signature_result_until_line_end : P Bool
parse_signature_result_until_line_end = do
  l ← scan result_round (record { nesting = default; taken = false })
  pick l.taken nop (error_here (Message.Plain ExpectedResultType))
