-- Instructions.
-- Defines: parse_instruction, should_continue_instruction_after_whitespace, should_stop_instruction_before.
-- Assumes nothing: these are definitions.
use Rattle.std.specs.Prelude.{Bool, false, cond, not, ◌&&◌, ◌||◌, List, [], ◌∷◌, Option, Some, None, is_some}
use Rattle.lexer.specs.Syntax.{Whitespace, Newline, Comment, DocComment}
use Rattle.grammar.specs.Words.{Sym}
use Rattle.grammar.specs.Look.{one_of, current, expects_continuation_operand, punctuation_continues_instruction, at, at_kind, peek_after_inline_whitespace, at_terminator, can_start_operation, at_block_recovery_boundary}
use Rattle.grammar.specs.Run.{Instruction, P, in_node, Round, stop, go, scan}
use Rattle.grammar.specs.Nesting.{Nesting, default, is_root, bump_nesting}
use Rattle.grammar.specs.declared.block.Terminators.{Terminators}

-- parse_instruction's locals
pub record Inst : Type 0 where
  pub nesting : Nesting
  pub previous : Option Sym

unfoldable pub expects_operand : Option Sym → Bool
expects_operand None = false
expects_operand (Some k) = expects_continuation_operand k

unfoldable pub should_continue_instruction_after_whitespace : Option Sym → Nesting → List Sym → Bool
should_continue_instruction_after_whitespace previous n r =
    not (is_root n)
    || (is_some previous
    && (expects_operand previous
    || at punctuation_continues_instruction (peek_after_inline_whitespace r)))

unfoldable pub should_stop_instruction_before : Option Sym → Nesting → List Sym → Bool
should_stop_instruction_before previous n r =
    is_root n
    && (not (expects_operand previous)
    && (not (at punctuation_continues_instruction r)
    && (at_terminator Terminators.ElseEnd r || (can_start_operation r || at_block_recovery_boundary r))))

unfoldable pub instruction_round : Inst → List Sym → Round Inst
instruction_round l r =
    cond (at_kind Whitespace r) (cond (should_continue_instruction_after_whitespace l.previous l.nesting r) (go l) stop)
    (cond (at (one_of (Newline ∷ Comment ∷ DocComment ∷ [])) r) (cond (is_root l.nesting) stop (go l))
    (cond (is_some l.previous && should_stop_instruction_before l.previous l.nesting r) stop
    (bump_nesting l.nesting (current r) (λ n. record { nesting = n; previous = Some (current r) }))))

abbrev pub before_first : Inst
before_first = record { nesting = default; previous = None }

unfoldable pub parse_instruction : P Inst
parse_instruction = in_node Instruction (scan instruction_round before_first)
