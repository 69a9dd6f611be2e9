-- Lookahead for the starters of items, expressions, types and instructions are Good.
-- Assumes nothing.
use Rattle.std.specs.Prelude.{ℕ, ◌≡◌, Bool, false, Option}
use Rattle.std.proofs.Math.Path.{refl}
use mathlib.Core.List.{List, [], ◌∷◌, ◌++◌}
use Rattle.lexer.specs.Syntax.{Whitespace, Newline, Comment, DocComment, RParen}
use Rattle.grammar.specs.Words.{Sym, is, ELSE}
use Rattle.grammar.specs.Look.{one_of, starts_instruction, control_flow, punctuation_continues_instruction, at, next_relevant_top_level_token, at_prefixed_keyword, at_top_level_form_starter_in_block, at_block_recovery_boundary, can_start_operation, line_break_starts_new_top_level_item, space_before_top_level_item}
use Rattle.grammar.specs.Nesting.{Nesting}
use Rattle.grammar.specs.Line.{Expression, expr_round, parse_expr_until_line_end, type_round, parse_type_body}
use Rattle.grammar.specs.Instruction.{Inst, should_continue_instruction_after_whitespace, should_stop_instruction_before, instruction_round, parse_instruction}
use Rattle.grammar.specs.declared.block.Terminators.{Terminators}
use Rattle.grammar.specs.Laws.Ahead.{Cond}
use Rattle.grammar.proofs.Laws.Ahead.{look_prefixed, look_starter_in_block, look_line_break, look_space}
use Rattle.grammar.specs.Laws.Good.{Good, good_node, good_scan}
use Rattle.grammar.specs.Laws.Stable.{test, test_at, test_current, test_terminator, test_skip, good·rules, good_while}

-- Where items may start: b's first token that is no regular trivia is no `)`.
module _ (b : List Sym) (side : at (is RParen) (next_relevant_top_level_token b) ≡ false) where
  pub test_starter : (r : List Sym) → Cond b r → at_top_level_form_starter_in_block (r ++ b) ≡ at_top_level_form_starter_in_block r
  test_starter = test _ (λ r r' h. look_starter_in_block b side h)

  pub test_prefixed : (ks : List Sym) (r : List Sym) → Cond b r → at_prefixed_keyword ks (r ++ b) ≡ at_prefixed_keyword ks r
  test_prefixed ks = test _ (λ r r' h. look_prefixed b side ks h)

  test_continue : (p : Option Sym) (n : Nesting) (r : List Sym) → Cond b r → should_continue_instruction_after_whitespace p n (r ++ b) ≡ should_continue_instruction_after_whitespace p n r
  unfolding should_continue_instruction_after_whitespace one_of
  test_continue p n r c = rw (test_skip punctuation_continues_instruction (is Whitespace) refl r c)

  test_stop : (p : Option Sym) (n : Nesting) (r : List Sym) → Cond b r → should_stop_instruction_before p n (r ++ b) ≡ should_stop_instruction_before p n r
  unfolding should_stop_instruction_before can_start_operation at_block_recovery_boundary
  test_stop p n r c = rw (test_at punctuation_continues_instruction r c, test_terminator Terminators.ElseEnd r c, test_at starts_instruction r c, test_at control_flow r c, test_at (is ELSE) r c, test_starter r c)

  test_instruction : (l : Inst) (r : List Sym) → Cond b r → instruction_round l (r ++ b) ≡ instruction_round l r
  unfolding instruction_round
  test_instruction l r c = rw (test_at (is Whitespace) r c, test_continue l.previous l.nesting r c, test_at (one_of (Newline ∷ Comment ∷ DocComment ∷ [])) r c, test_stop l.previous l.nesting r c, test_current r c)

  test_expr : (l : Expression) (r : List Sym) → Cond b r → expr_round l (r ++ b) ≡ expr_round l r
  unfolding expr_round
  test_expr l r c = rw (test_at (one_of (Comment ∷ DocComment ∷ [])) r c, test_at (is Newline) r c, test_at (is Whitespace) r c, test space_before_top_level_item (λ r r' h. look_space b side h) r c, test_current r c)

  test_type : (n : Nesting) (r : List Sym) → Cond b r → type_round n (r ++ b) ≡ type_round n r
  unfolding type_round
  test_type n r c = rw (test_at (is Newline) r c, test line_break_starts_new_top_level_item (λ r r' h. look_line_break b side h) r c, test_current r c)

  module _ {bad : ℕ → Bool} where
    pub good_instruction : Good b bad parse_instruction parse_instruction
    unfolding parse_instruction
    good_instruction = good_node _ (good_scan b bad instruction_round test_instruction _)

    pub good_expr : Good b bad parse_expr_until_line_end parse_expr_until_line_end
    unfolding parse_expr_until_line_end
    good_expr = search (good·rules, good_while, good_scan b bad expr_round test_expr)

    pub good_type_body : Good b bad parse_type_body parse_type_body
    unfolding parse_type_body
    good_type_body = good_node _ (good_scan b bad type_round test_type _)
