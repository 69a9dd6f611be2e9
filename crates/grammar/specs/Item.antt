-- Items, and the whole file.
-- Defines: parse_visibility, parse_attribute, parse_signature, parse_doc_form, parse_namespace, parse_submodule, parse_procedure,
-- parse_begin_block, parse_constant, parse_type_decl, parse_advice_map, parse_source_item, parse.
-- Left out, with `use` and `extern`: parse_import and its helpers, parse_extern_package.
-- Assumes nothing: these are definitions.
use Rattle.std.specs.Prelude.{ℕ, zero, suc, Bool, true, false, not, ◌||◌, List, [], ◌∷◌, length}
use Rattle.lexer.specs.Syntax.{DocComment, At, Colon, Equal, LParen, RArrow, RParen}
use Rattle.grammar.specs.Words.{Sym, ADV_MAP, BEGIN, CONST, ENUM, MOD, NAMESPACE, PACKAGE, PROC, PUB, TYPE}
use Rattle.grammar.specs.Look.{one_of, at, eof, at_kind, at_keyword, at_regular_trivia, next_relevant_top_level_token, peek_after_non_comment_trivia, at_prefixed_keyword}
use Rattle.grammar.specs.Run.{Doc, Namespace, Submodule, Constant, TypeDecl, AdviceMap, BeginBlock, Procedure, Attribute, Visibility, Signature, Forest, P, pure, in_node, pick, ◌>>=◌, ◌>>◌, when◌then◌else◌, err, m_never, loop}
use Rattle.grammar.specs.Message.{Message, UnexpectedTopLevelToken, ExpectedNamespacePath, ExpectedMod, ExpectedSubmoduleName, ExpectedConst, ExpectedConstantName, ExpectedConstantEqual, ExpectedTypeOrEnum, ExpectedTypeName, ExpectedTypeEqualOrColon, ExpectedAdviceMapName, ExpectedAdviceMapKeyEnd, ExpectedAdviceMapEqual, ExpectedProc, ExpectedProcedureName, ExpectedAttributeName, ExpectedAttributeEnd, ExpectedPackage, ExpectedPackageEnd, ExpectedParametersEnd, ExpectedResultsEnd}
use Rattle.grammar.specs.Bump.{bump, error_here, nop, bump_regular_trivia, bump_non_comment_trivia, bump_inline_whitespace, expect_keyword, expect_kind, expect_name, error_token}
use Rattle.grammar.specs.Path.{parse_path_with_message, parse_balanced_group}
use Rattle.grammar.specs.Line.{parse_expr_until_line_end, parse_type_body, parse_line_tail, parse_signature_result_until_line_end}
use Rattle.grammar.specs.Block.{BlockOwner, Terminators, Blocks, closing, parse_block}

-- parse_visibility, at its parentheses
unfoldable pub package_in_parens : P Bool
package_in_parens = do
  bump_regular_trivia
  bump
  expect_keyword PACKAGE (Message.Plain ExpectedPackage)
  expect_kind RParen (Message.Plain ExpectedPackageEnd)

unfoldable pub parse_visibility : P Bool
parse_visibility = in_node Visibility do
  expect_keyword PUB Message.Unreached
  when (λ r. at_kind LParen (next_relevant_top_level_token r)) then package_in_parens else nop

-- if at_keyword("pub") { parse_visibility }
unfoldable pub optional_visibility : P Bool
optional_visibility = when at_keyword PUB then parse_visibility else nop

unfoldable pub parse_attribute : P Bool
parse_attribute = in_node Attribute do
  expect_kind At Message.Unreached
  bump_regular_trivia
  expect_name (Message.Plain ExpectedAttributeName)
  bump_inline_whitespace
  when at_kind LParen then parse_balanced_group LParen RParen (Message.Plain ExpectedAttributeEnd) else nop

-- parse_signature, behind the arrow
unfoldable pub parse_results : P Bool
parse_results = do
  bump_non_comment_trivia
  bump
  bump_non_comment_trivia
  when at_kind LParen then parse_balanced_group LParen RParen (Message.Plain ExpectedResultsEnd) else parse_signature_result_until_line_end

unfoldable pub parse_signature : P Bool
parse_signature = in_node Signature do
  parse_balanced_group LParen RParen (Message.Plain ExpectedParametersEnd)
  when (λ r. at_kind RArrow (peek_after_non_comment_trivia r)) then parse_results else nop

abbrev pub parse_doc_form : P Bool
parse_doc_form = in_node Doc bump

unfoldable pub parse_namespace : P Bool
parse_namespace = in_node Namespace do
  expect_keyword NAMESPACE Message.Unreached
  bump_regular_trivia
  parse_path_with_message (Message.Plain ExpectedNamespacePath)
  parse_line_tail

unfoldable pub parse_submodule : P Bool
parse_submodule = in_node Submodule do
  optional_visibility
  expect_keyword MOD (Message.Plain ExpectedMod)
  bump_regular_trivia
  expect_name (Message.Plain ExpectedSubmoduleName)
  parse_line_tail

unfoldable pub attribute_round : P Bool
attribute_round = do
  bump_regular_trivia
  when at_kind At then (parse_attribute >> pure true) else pure false

-- parse_procedure, behind `proc`
unfoldable pub procedure_body : Blocks → P Bool
procedure_body block = do
  bump_regular_trivia
  expect_name (Message.Plain ExpectedProcedureName)
  bump_regular_trivia
  when at_kind LParen then parse_signature else nop
  parse_line_tail
  outcome ← block BlockOwner.Procedure Terminators.End 0
  closing BlockOwner.Procedure outcome

unfoldable pub parse_procedure : Blocks → P Bool
parse_procedure block = in_node Procedure do
  loop attribute_round
  bump_regular_trivia
  optional_visibility
  bump_regular_trivia
  declared ← expect_keyword PROC (Message.Plain ExpectedProc)
  pick (not declared) nop (procedure_body block)

unfoldable pub parse_begin_block : Blocks → P Bool
parse_begin_block block = in_node BeginBlock do
  expect_keyword BEGIN Message.Unreached
  parse_line_tail
  outcome ← block BlockOwner.Begin Terminators.End 0
  closing BlockOwner.Begin outcome

unfoldable pub parse_constant : P Bool
parse_constant = in_node Constant do
  optional_visibility
  expect_keyword CONST (Message.Plain ExpectedConst)
  bump_regular_trivia
  expect_name (Message.Plain ExpectedConstantName)
  expect_kind Equal (Message.Plain ExpectedConstantEqual)
  parse_expr_until_line_end
  parse_line_tail

-- parse_type_decl, behind `type` or `enum`
unfoldable pub type_name_and_body : P Bool
type_name_and_body = do
  bump_regular_trivia
  expect_name (Message.Plain ExpectedTypeName)
  bump_regular_trivia
  when at (one_of (Equal ∷ Colon ∷ [])) then (parse_type_body >> nop) else error_here (Message.Plain ExpectedTypeEqualOrColon)

unfoldable pub parse_type_decl : P Bool
parse_type_decl = in_node TypeDecl do
  optional_visibility
  bump_regular_trivia
  when at (one_of (TYPE ∷ ENUM ∷ [])) then (bump >> type_name_and_body) else error_here (Message.Plain ExpectedTypeOrEnum)

unfoldable pub parse_advice_map : P Bool
parse_advice_map = in_node AdviceMap do
  expect_keyword ADV_MAP Message.Unreached
  bump_regular_trivia
  expect_name (Message.Plain ExpectedAdviceMapName)
  bump_inline_whitespace
  when at_kind LParen then parse_balanced_group LParen RParen (Message.Plain ExpectedAdviceMapKeyEnd) else nop
  expect_kind Equal (Message.Plain ExpectedAdviceMapEqual)
  parse_expr_until_line_end
  parse_line_tail

-- At one of these keywords, or at `pub` with one of them behind the visibility.
unfoldable pub at_declaration : List Sym → List Sym → Bool
at_declaration ks r = at (one_of ks) r || at_prefixed_keyword ks r

unfoldable pub at_procedure : List Sym → Bool
at_procedure r = at_kind At r || at_declaration (PROC ∷ []) r

unfoldable pub parse_source_item : Blocks → P Bool
parse_source_item block =
    when at_kind DocComment then parse_doc_form else
    when at_regular_trivia then bump else
    when at_keyword NAMESPACE then parse_namespace else
    when at_declaration (MOD ∷ []) then parse_submodule else
    when at_procedure then parse_procedure block else
    when at_keyword BEGIN then parse_begin_block block else
    when at_declaration (CONST ∷ []) then parse_constant else
    when at_declaration (TYPE ∷ ENUM ∷ []) then parse_type_decl else
    when at_keyword ADV_MAP then parse_advice_map else
    error_token (Message.Plain UnexpectedTopLevelToken)

-- parse's loop, by fuel; its equation without fuel is in Theorems.NoFuel.
unfoldable pub items : ℕ → ℕ → P Bool
items zero limit r = (err m_never >> pure false) r
items (suc n) limit r = (when eof then nop else (parse_source_item (parse_block limit) >> items n limit)) r

unfoldable pub items_in : ℕ → P Bool
items_in limit r = items (suc (length r)) limit r

-- parse, inside the root node
unfoldable pub parse : ℕ → List Sym → Forest
parse limit r = (items_in limit r).out
