-- Blocks and the four control forms. A block contains the forms and each of them contains blocks: the forms are written over the blocks
-- inside them, and parse_block ties the knot.
-- Defines: parse_structured_header_suffixes, reject_excessive_control_flow_nesting, parse_if, parse_while, parse_do_while, parse_repeat,
-- parse_block. The limit on nesting is a parameter, from 1 to MAX_CONTROL_FLOW_NESTING, which is the unit's.
-- Assumes nothing: these are definitions.
use Rattle.std.specs.Prelude.{ℕ, zero, suc, Bool, true, false, ◌&&◌, List, [], ◌∷◌, leb, length}
use Rattle.lexer.specs.Syntax.{DocComment, Number, QuotedString, Dot, LBracket, RBracket}
use Rattle.grammar.specs.Words.{Sym, DO, ELSE, END, IF, REPEAT, WHILE}
use Rattle.grammar.specs.Look.{one_of, at, eof, at_kind, at_keyword, at_name_like, at_regular_trivia, at_terminator, at_stray_else, at_top_level_form_starter_in_block, at_control_flow_operation, can_start_instruction}
use Rattle.grammar.specs.Run.{Error, Block, IfOp, WhileOp, DoWhileOp, RepeatOp, P, pure, in_node, pick, ◌>>=◌, ◌>>◌, when◌then◌else◌, err, m_never, Round, go, scan, loop}
use Rattle.grammar.specs.Message.{Message, DocCommentInBlock, UnexpectedTokenInBlock, ExpectedSuffixEnd, ExpectedSuffix, NestingTooDeep}
use Rattle.grammar.specs.Bump.{bump, error_here, nop, bump_inline_whitespace, expect_keyword, error_token}
use Rattle.grammar.specs.Path.{parse_balanced_group}
use Rattle.grammar.specs.Line.{parse_line_tail}
use Rattle.grammar.specs.Instruction.{parse_instruction}
pub use Rattle.grammar.specs.declared.block.BlockOwner.{BlockOwner}
pub use Rattle.grammar.specs.declared.block.Terminators.{Terminators}
pub use Rattle.grammar.specs.declared.block.BlockRecoveryBoundary.{BlockRecoveryBoundary}
pub use Rattle.grammar.specs.declared.block.BlockParseOutcome.{BlockParseOutcome}

-- Control-flow nodes in one another.
abbrev pub MAX_CONTROL_FLOW_NESTING : ℕ
MAX_CONTROL_FLOW_NESTING = 256

-- M-104: 'from 1 to 256'.
abbrev pub limit_allowed : ℕ → Bool
limit_allowed limit = leb 1 limit && leb limit MAX_CONTROL_FLOW_NESTING

-- Behind the dot of a suffix.
unfoldable pub suffix_operand : P Bool
suffix_operand =
    when at_kind LBracket then (parse_balanced_group LBracket RBracket (Message.Plain ExpectedSuffixEnd) >> pure true) else
    when at_name_like then (bump >> pure true) else
    when at (one_of (Number ∷ QuotedString ∷ [])) then (bump >> pure true) else
    (error_here (Message.Plain ExpectedSuffix) >> pure false)

unfoldable pub suffix_round : P Bool
suffix_round = do
  bump_inline_whitespace
  when at_kind Dot then (bump >> bump_inline_whitespace >> suffix_operand) else pure false

unfoldable pub parse_structured_header_suffixes : P Bool
parse_structured_header_suffixes = loop suffix_round

-- while !self.eof() { self.bump() }
unfoldable pub all_round : Bool → List Sym → Round Bool
all_round l r = go l

-- reject_excessive_control_flow_nesting, past its test of the depth
unfoldable pub reject_excessive_control_flow_nesting : P Bool
reject_excessive_control_flow_nesting = in_node Error (error_here (Message.Plain NestingTooDeep) >> scan all_round true)

abbrev pub found_terminator : BlockParseOutcome → Bool
found_terminator BlockParseOutcome.FoundTerminator = true
found_terminator BlockParseOutcome.RecoveredImplicitEnd = false
found_terminator BlockParseOutcome.ReachedEof = false

abbrev pub reached_eof : BlockParseOutcome → Bool
reached_eof BlockParseOutcome.FoundTerminator = false
reached_eof BlockParseOutcome.RecoveredImplicitEnd = false
reached_eof BlockParseOutcome.ReachedEof = true

-- if outcome == FoundTerminator { expect_keyword("end", owner.missing_end_message()) }
unfoldable pub closing : BlockOwner → BlockParseOutcome → P Bool
closing owner outcome = pick (found_terminator outcome) (expect_keyword END (Message.MissingEnd owner)) nop

-- A block's function: its owner, its terminators, its depth.
abbrev pub Blocks : Type 0
Blocks = BlockOwner → Terminators → ℕ → P BlockParseOutcome

-- What a form does after its last block: true if the file ended in it.
unfoldable pub ended : BlockOwner → BlockParseOutcome → P Bool
ended owner outcome = pick (reached_eof outcome) (pure true) (closing owner outcome >> pure false)

unfoldable pub parse_if : Blocks → ℕ → P Bool
parse_if block depth = in_node IfOp do
  expect_keyword IF Message.Unreached
  parse_structured_header_suffixes
  parse_line_tail
  then_outcome ← block BlockOwner.If Terminators.ElseEnd depth
  pick (reached_eof then_outcome) (pure true) do
    outcome ← when at_keyword ELSE then (bump >> parse_line_tail >> block BlockOwner.If Terminators.End depth) else pure then_outcome
    ended BlockOwner.If outcome

unfoldable pub parse_while : Blocks → ℕ → P Bool
parse_while block depth = in_node WhileOp do
  expect_keyword WHILE Message.Unreached
  parse_structured_header_suffixes
  parse_line_tail
  outcome ← block BlockOwner.While Terminators.End depth
  ended BlockOwner.While outcome

-- parse_do_while, behind its body
unfoldable pub do_condition : Blocks → ℕ → BlockParseOutcome → P Bool
do_condition block depth BlockParseOutcome.ReachedEof = pure true
do_condition block depth BlockParseOutcome.RecoveredImplicitEnd = pure false
do_condition block depth BlockParseOutcome.FoundTerminator = do
  expect_keyword WHILE Message.Unreached
  parse_line_tail
  outcome ← block BlockOwner.DoWhile Terminators.End depth
  ended BlockOwner.DoWhile outcome

unfoldable pub parse_do_while : Blocks → ℕ → P Bool
parse_do_while block depth = in_node DoWhileOp do
  expect_keyword DO Message.Unreached
  parse_line_tail
  outcome ← block BlockOwner.DoWhileBody Terminators.While depth
  do_condition block depth outcome

unfoldable pub parse_repeat : Blocks → ℕ → P Bool
parse_repeat block depth = in_node RepeatOp do
  expect_keyword REPEAT Message.Unreached
  parse_structured_header_suffixes
  parse_line_tail
  outcome ← block BlockOwner.Repeat Terminators.End depth
  ended BlockOwner.Repeat outcome

-- parse_block's four calls
unfoldable pub parse_control_flow : Blocks → ℕ → P Bool
parse_control_flow block depth =
    when at_keyword IF then parse_if block depth else
    when at_keyword DO then parse_do_while block depth else
    when at_keyword WHILE then parse_while block depth else
    parse_repeat block depth

-- The empty Error node of a recovery.
unfoldable pub recover : BlockOwner → BlockRecoveryBoundary → P BlockParseOutcome
recover owner boundary = in_node Error (error_here (Message.Recovery owner boundary)) >> pure BlockParseOutcome.RecoveredImplicitEnd

-- One round of parse_block's loop. `again` is the loop from its next round; a block inside is a Block node around the loop.
unfoldable pub block_round : Blocks → ℕ → Blocks
block_round again limit owner terminators depth =
    when eof then (error_here (Message.MissingEnd owner) >> pure BlockParseOutcome.ReachedEof) else
    when at_terminator terminators then pure BlockParseOutcome.FoundTerminator else
    when at_regular_trivia then (bump >> again owner terminators depth) else
    when at_stray_else terminators then recover owner BlockRecoveryBoundary.Else else
    when at_top_level_form_starter_in_block then recover owner BlockRecoveryBoundary.TopLevelItem else
    when at_kind DocComment then (error_token (Message.Plain DocCommentInBlock) >> again owner terminators depth) else
    when at_control_flow_operation then
    pick (leb limit depth) (reject_excessive_control_flow_nesting >> pure BlockParseOutcome.ReachedEof)
    (parse_control_flow (λ o t d. in_node Block (again o t d)) (suc depth) >>= λ ended_here. pick ended_here (pure BlockParseOutcome.ReachedEof) (again owner terminators depth)) else
    when can_start_instruction then (parse_instruction >> again owner terminators depth) else
    (error_token (Message.Plain UnexpectedTokenInBlock) >> again owner terminators depth)

-- The loop by fuel. With more fuel than tokens left it does not run out (Theorems.Rounds), and is the loop without fuel (Theorems.NoFuel).
unfoldable pub block_loop : ℕ → ℕ → Blocks
block_loop zero limit owner terminators depth r = (err m_never >> pure BlockParseOutcome.ReachedEof) r
block_loop (suc n) limit owner terminators depth r = block_round (block_loop n limit) limit owner terminators depth r

unfoldable pub block_in : ℕ → Blocks
block_in limit owner terminators depth r = block_loop (suc (length r)) limit owner terminators depth r

unfoldable pub parse_block : ℕ → Blocks
parse_block limit owner terminators depth = in_node Block (block_in limit owner terminators depth)
