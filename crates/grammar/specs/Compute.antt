-- Sources written as text, and their readings computed, for examples and samples.
-- Assumes nothing: these are definitions.
use Rattle.std.specs.Prelude.{ℕ, List, [], ◌++◌}
use Prim.Native.Char.{code}
use Prim.Native.String.{String, [] as empty, ◌∷◌ as ◌before◌}
use Rattle.utf8.specs.Scalar.{encode}
use Rattle.utf8.specs.Width
use Rattle.utf8.specs.Last
use Rattle.lexer.specs.Chars
use Rattle.lexer.specs.Lexer
use Rattle.lexer.specs.Tokens
use Rattle.grammar.specs.Words
use Rattle.grammar.specs.Look
use Rattle.grammar.specs.Run
use Rattle.grammar.specs.Message
use Rattle.grammar.specs.Nesting
use Rattle.grammar.specs.Bump
use Rattle.grammar.specs.Path
use Rattle.grammar.specs.Line
use Rattle.grammar.specs.Instruction
use Rattle.grammar.specs.Block
use Rattle.grammar.specs.Item
use Rattle.grammar.specs.Out
use Rattle.grammar.specs.Out.{Place}
use Rattle.grammar.specs.Source.{Reading, reading}

-- a text's bytes
unfoldable pub bytes : String → List ℕ
bytes empty = []
bytes (c before s) = encode (code c) ++ bytes s

-- A diagnostic: the message's number, start and end.
infix 70 ◌from◌to◌
abbrev pub ◌from◌to◌ : ℕ → ℕ → ℕ → Place
m from s to e = record { msg = m; start = s; stop = e }

-- A reading with its source written as text.
abbrev pub read : String → (kinds ends events : List ℕ) → List Place → Reading
read s k e v d = record { source = bytes s; kinds = k; ends = e; events = v; diagnostics = d }

-- The reading's source, read at the reader's limit. To unfold `again` is to unfold what its line names: all that computes.
unfoldable pub again : Reading → Reading
unfolding encode bytes Last.last_from Width.width Chars.class Chars.punctuation Lexer.tokenize
    Lexer.tokens Lexer.next Lexer.arm Lexer.stray Lexer.quoted Lexer.special Lexer.lex_while Lexer.same Lexer.advance_while Lexer.follow
    Tokens.ends Out.events Out.diags Words.sym_of Words.word_of Words.number_in Words.words Item.parse Item.items_in Item.items
    Item.parse_source_item Item.at_procedure Item.at_declaration Item.parse_advice_map Item.parse_type_decl Item.type_name_and_body
    Item.parse_constant Item.parse_begin_block Item.parse_procedure Item.procedure_body Item.attribute_round Item.parse_submodule
    Item.parse_namespace Item.parse_signature Item.parse_results Item.parse_attribute Item.optional_visibility Item.parse_visibility
    Item.package_in_parens Block.parse_block Block.block_in Block.block_loop Block.block_round Block.recover Block.parse_control_flow
    Block.parse_repeat Block.parse_do_while Block.do_condition Block.parse_while Block.parse_if Block.ended Block.closing
    Block.reject_excessive_control_flow_nesting Block.all_round Block.parse_structured_header_suffixes Block.suffix_round
    Block.suffix_operand Instruction.parse_instruction Instruction.instruction_round Instruction.should_stop_instruction_before
    Instruction.should_continue_instruction_after_whitespace Instruction.expects_operand
    Line.parse_signature_result_until_line_end Line.result_round Line.parse_line_tail Line.tail_round Line.parse_type_body Line.type_round
    Line.parse_expr_until_line_end Line.expr_round Path.parse_balanced_group Path.group_round Path.parse_path_with_message Path.path_round
    Path.path_segment Bump.error_token Bump.expect_name Bump.expect_kind Bump.bump_while Bump.while_round Nesting.bump_nesting
    Nesting.counted Look.current Nesting.bump_by Nesting.is_root Message.number Look.space_before_top_level_item
    Look.line_break_starts_new_top_level_item Look.at_block_recovery_boundary Look.at_stray_else Look.at_terminator Look.at_bare_while
    Look.at_top_level_form_starter_in_block Look.is_top_level_starter Look.at_prefixed_keyword Look.next_token_after_visibility Look.past
    Look.skip Look.can_start_operation Look.starts_instruction Look.eof Look.at Look.name_like Look.one_of Run.◌>>=◌ Run.peek Run.pure
    Run.in_node Run.take_token Run.err Run.scan Run.loop Run.repeat
again r = reading Block.MAX_CONTROL_FLOW_NESTING r.source
