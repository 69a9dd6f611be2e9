-- A round of parse_block's loop by the token here: which arm it is, and what each arm does. That this is block_round is `round_is`.
-- Assumes nothing.
use Rattle.std.specs.Prelude.{ℕ, suc, ◌≡◌, refl, Bool, true, cond, List, leb}
use Rattle.std.proofs.Common.{sym, ◌∙◌, ap}
use Rattle.lexer.specs.Syntax.{DocComment}
use Rattle.grammar.specs.Words.{Sym}
use Rattle.grammar.specs.Look.{eof, at_kind, at_regular_trivia, at_terminator, at_stray_else, at_top_level_form_starter_in_block, at_control_flow_operation, can_start_instruction}
use Rattle.grammar.specs.Run.{Res, P, Block, pure, in_node, pick, ◌>>=◌, ◌>>◌}
use Rattle.grammar.specs.declared.message.Message.{Message}
use Rattle.grammar.specs.declared.message.PlainMessage.TheVariants.{DocCommentInBlock, UnexpectedTokenInBlock}
use Rattle.grammar.specs.declared.block.BlockOwner.{BlockOwner}
use Rattle.grammar.specs.declared.block.Terminators.{Terminators}
use Rattle.grammar.specs.declared.block.BlockRecoveryBoundary.{BlockRecoveryBoundary}
use Rattle.grammar.specs.declared.block.BlockParseOutcome.{BlockParseOutcome}
use Rattle.grammar.specs.Bump.{bump, error_here, error_token}
use Rattle.grammar.specs.Instruction.{parse_instruction}
use Rattle.grammar.specs.Laws.Here.{if_arm}
use Rattle.grammar.specs.Block.{Blocks, block_round, block_in, recover, reject_excessive_control_flow_nesting, parse_control_flow}
use Rattle.grammar.proofs.Theorems.NoFuel.{block_eq}
use Rattle.blocks.specs.declared.arm.Taken.{Taken}
use Rattle.blocks.specs.declared.arm.Closing.{Closing}
use Rattle.blocks.specs.declared.arm.BlockArm.{BlockArm}

-- the tests of block_round, in its order
unfoldable pub inner_arm : List Sym → BlockArm
inner_arm r =
    cond (at_top_level_form_starter_in_block r) (BlockArm.Closes Closing.Item)
    (cond (at_kind DocComment r) (BlockArm.Takes Taken.Doc)
    (cond (at_control_flow_operation r) BlockArm.Control
    (cond (can_start_instruction r) (BlockArm.Takes Taken.Instruction)
    (BlockArm.Takes Taken.Bad))))

unfoldable pub block_arm : Terminators → List Sym → BlockArm
block_arm terminators r =
    cond (eof r) (BlockArm.Closes Closing.Eof)
    (cond (at_terminator terminators r) (BlockArm.Closes Closing.Terminator)
    (cond (at_regular_trivia r) (BlockArm.Takes Taken.Trivia)
    (cond (at_stray_else terminators r) (BlockArm.Closes Closing.StrayElse)
    (inner_arm r))))

-- f, whose answer is not asked
unfoldable pub silent : {A : Type 0} → P A → P Bool
silent f r = let x = f r in record { rest = x.rest; out = x.out; val = true }

unfoldable pub taking : Taken → P Bool
taking Taken.Trivia = bump
taking Taken.Doc = error_token (Message.Plain DocCommentInBlock)
taking Taken.Instruction = silent parse_instruction
taking Taken.Bad = error_token (Message.Plain UnexpectedTokenInBlock)

unfoldable pub block_ending : Closing → BlockOwner → P BlockParseOutcome
block_ending Closing.Eof owner = error_here (Message.MissingEnd owner) >> pure BlockParseOutcome.ReachedEof
block_ending Closing.Terminator owner = pure BlockParseOutcome.FoundTerminator
block_ending Closing.StrayElse owner = recover owner BlockRecoveryBoundary.Else
block_ending Closing.Item owner = recover owner BlockRecoveryBoundary.TopLevelItem

-- what block_round does in each
unfoldable pub by_block_arm : BlockArm → Blocks → ℕ → Blocks
by_block_arm (BlockArm.Takes t) again limit owner terminators depth = taking t >> again owner terminators depth
by_block_arm (BlockArm.Closes k) again limit owner terminators depth = block_ending k owner
by_block_arm BlockArm.Control again limit owner terminators depth =
    pick (leb limit depth) (reject_excessive_control_flow_nesting >> pure BlockParseOutcome.ReachedEof)
    (parse_control_flow (λ o t d. in_node Block (again o t d)) (suc depth) >>= λ ended_here. pick ended_here (pure BlockParseOutcome.ReachedEof) (again owner terminators depth))

silent_is : {A B : Type 0} (f : P A) (g : P B) (r : List Sym) → (f >> g) r ≡ (silent f >> g) r
unfolding ◌>>=◌ silent
silent_is f g r = refl

pub round_is : (again : Blocks) (limit : ℕ) (owner : BlockOwner) (terminators : Terminators) (depth : ℕ) (r : List Sym)
    → block_round again limit owner terminators depth r ≡ by_block_arm (block_arm terminators r) again limit owner terminators depth r
unfolding block_round block_arm inner_arm by_block_arm taking block_ending
round_is again limit owner terminators depth r =
    let h : BlockArm → Res BlockParseOutcome = λ a. by_block_arm a again limit owner terminators depth r in
    if_arm h eof _ _ r refl
    (if_arm h (at_terminator terminators) _ _ r refl
    (if_arm h at_regular_trivia _ _ r refl
    (if_arm h (at_stray_else terminators) _ _ r refl
    (if_arm h at_top_level_form_starter_in_block _ _ r refl
    (if_arm h (at_kind DocComment) _ _ r refl
    (if_arm h at_control_flow_operation _ _ r refl
    (if_arm h can_start_instruction _ _ r (silent_is parse_instruction (again owner terminators depth) r) refl)))))))

-- parse_block's loop, where this is the arm: the arm, and then the loop
pub block_by : (limit : ℕ) (owner : BlockOwner) (terminators : Terminators) (depth : ℕ) (r : List Sym) (a : BlockArm) → a ≡ block_arm terminators r
    → block_in limit owner terminators depth r ≡ by_block_arm a (block_in limit) limit owner terminators depth r
block_by limit owner terminators depth r a e =
    block_eq limit owner terminators depth r ∙ round_is (block_in limit) limit owner terminators depth r ∙ ap (λ b. by_block_arm b (block_in limit) limit owner terminators depth r) (sym e)
