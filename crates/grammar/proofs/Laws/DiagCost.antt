-- Diagnostics: each token pays for 2. A token of kind Error is reported as it is taken.
-- Assumes nothing.
use Rattle.std.specs.Prelude.{ℕ, zero, suc, ◌+◌, ◌≤◌, ◌≡◌, Bool, true, false, cond, not, List, [], ◌∷◌, eqb, leb, length}
use Rattle.std.proofs.Math.Path.{refl}
use Rattle.std.proofs.Common.{lit≤, arith}
use Rattle.lexer.specs.Syntax
use Rattle.lexer.specs.Syntax.{Whitespace, Newline, Comment, DocComment, Dot, LBracket, LParen, RBracket, RParen}
use Rattle.grammar.specs.Words.{Sym, is, BEGIN, DO, ELSE, END, IF, REPEAT, WHILE}
use Rattle.grammar.specs.Look.{one_of, name_like, regular_trivia, control_flow, starts_instruction, at, at_terminator, at_stray_else, at_top_level_form_starter_in_block}
use Rattle.grammar.specs.Run.{Kind, Block, P, pure, in_node, pick, ◌>>=◌, ◌>>◌, when◌then◌else◌, take_token, err, loop}
use Rattle.grammar.specs.Message.{Message}
use Rattle.grammar.specs.Bump.{expect_kind, expect_name, error_token}
use Rattle.grammar.specs.Path.{path_segment, path_round, parse_path_with_message, parse_balanced_group}
use Rattle.grammar.specs.Line.{parse_expr_until_line_end, parse_line_tail, parse_signature_result_until_line_end}
use Rattle.grammar.specs.Instruction.{parse_instruction}
use Rattle.grammar.specs.Block.{BlockOwner, Terminators, BlockRecoveryBoundary, BlockParseOutcome, Blocks, suffix_operand, suffix_round, parse_structured_header_suffixes, reject_excessive_control_flow_nesting, found_terminator, reached_eof, closing, ended, parse_if, parse_while, do_condition, parse_do_while, parse_repeat, parse_control_flow, recover, block_round, block_loop, block_in, parse_block}
use Rattle.grammar.specs.Item.{parse_begin_block}
use Rattle.grammar.specs.Laws.Here.{is_not, none}
use Rattle.grammar.specs.Laws.Stops.{Stops, stops_node, stops_loop}
use Rattle.grammar.specs.Laws.Live.{anywhere, some}
use Rattle.grammar.specs.Laws.LiveLine.{truly_path_round, truly_suffix_round}
use Rattle.grammar.proofs.Laws.LiveBlock.{bare_while, repeat_left}
use Rattle.grammar.proofs.Laws.Cost.{Price, Cost, cost_weak, cost_any, cost_le, cost_pure, cost_err, cost_take_any, cost_take_at, cost_take, cost_said, cost_pick, cost_bind, cost_then, cost_after, cost_if, cost_case, cost_cases, cost_node, cost_eof, cost_scan, cost_while, cost_expect_at, cost_outcome, rounds_zero, rounds_if, rounds_then, rounds_true, rounds_false, rounds_end, cost_loop, cost_expect, cost_trivia}

-- 1 for a diagnostic, and for a token of kind Error.
abbrev pub errors : Sym → ℕ
errors s = cond (is Syntax.Error s) 1 0

pub fits_two : (s : Sym) → 1 + errors s ≤ 2
fits_two s = grind arith

abbrev pub diags_price : Price
diags_price = record { of_leaf = errors; of_node = 0; of_say = 1; pay = 2; fits = fits_two }

abbrev pub Cost2 : (List Sym → Bool) → ℕ → ℕ → {A : Type 0} → P A → Type 0
Cost2 q lack over f = Cost diags_price q lack over f

pub said : (m : ℕ) → Cost2 anywhere 1 0 (err m)
said m = cost_err m

-- A token of a class without Error costs nothing.
pub no_error : (t : Sym → Bool) → t Syntax.Error ≡ false → (s : Sym) → t s ≡ true → errors s + 2 ≤ 2
no_error t h s e = rw (is_not t Syntax.Error s h e) (lit≤ tt)

pub good_token : (t : Sym → Bool) → t Syntax.Error ≡ false → Cost2 (at t) 0 2 take_token
good_token t h = cost_take_at t 2 (no_error t h)

ruleset zero·rules = (cost_pure, cost_take_any, cost_pick, cost_if, cost_then, cost_while, cost_scan)

pub expects : (k : Sym) (m : Message) → Cost2 anywhere 1 0 (expect_kind k m)
expects k m = cost_expect k m

pub expects_at : (k : Sym) (m : Message) → regular_trivia k ≡ false → is k Syntax.Error ≡ false → Cost2 (at (is k)) 0 2 (expect_kind k m)
expects_at k m t x = cost_expect_at k m 2 t (no_error (is k) x)

pub cost_name : (m : Message) → Cost2 anywhere 1 0 (expect_name m)
unfolding expect_name
cost_name m = cost_if (at name_like) (cost_any cost_take_any (lit≤ tt)) (said _)

pub cost_error_token : (m : Message) → Cost2 some 0 0 (error_token m)
unfolding error_token
cost_error_token m = cost_le (cost_node _ (cost_said _ (λ a. cost_take 1 (λ s. fits_one s)))) (lit≤ tt)
  where
    fits_one : (s : Sym) → errors s + 1 ≤ 2
    fits_one s = omega (arith, fits_two s)

-- A round that goes on costs nothing; one that reports ends.
cost_segments : Cost2 anywhere 1 0 (loop path_round)
unfolding path_round path_segment
cost_segments = cost_loop
    (rounds_if _ (rounds_then (cost_while _) (λ a. rounds_then cost_take_any (λ a. rounds_then (cost_while _) (λ a. rounds_if _ (rounds_true cost_take_any) (rounds_false (said _))))))
    rounds_end) truly_path_round

pub cost_path : (m : Message) → Cost2 anywhere 1 0 (parse_path_with_message m)
unfolding parse_path_with_message
cost_path m = cost_any (cost_node _ (cost_then (search zero·rules) (λ a. cost_then (cost_while _) (λ a. cost_if _ (cost_then cost_take_any (λ a. cost_segments)) (said _))))) (lit≤ tt)

-- At its opener.
cost_group : (o k : Sym) (m : Message) → none (is o) (Whitespace ∷ Newline ∷ Comment ∷ []) ≡ true → regular_trivia o ≡ false → is o Syntax.Error ≡ false → Cost2 (at (is o)) 0 1 (parse_balanced_group o k m)
unfolding parse_balanced_group
cost_group o k m n t x = cost_trivia (is o) n _ (cost_le (cost_bind (expects_at o m t x) (λ ok. cost_pick (not ok) (cost_any (cost_pure true) (lit≤ tt)) (cost_then (cost_scan _ _) (λ d. cost_pick (eqb 0 d) (cost_any (cost_pure true) (lit≤ tt)) (said _))))) (lit≤ tt))

pub parens : (m : Message) → Cost2 (at (is LParen)) 0 1 (parse_balanced_group LParen RParen m)
unfolding none one_of
parens m = cost_group LParen RParen m refl refl refl

pub cost_tail : Cost2 anywhere 0 0 parse_line_tail
unfolding parse_line_tail
cost_tail = cost_scan _ true

pub cost_expr : Cost2 anywhere 0 0 parse_expr_until_line_end
unfolding parse_expr_until_line_end
cost_expr = cost_then (cost_while _) (λ a. cost_le (cost_node _ (cost_scan _ _)) (lit≤ tt))

pub cost_result : Cost2 anywhere 1 0 parse_signature_result_until_line_end
unfolding parse_signature_result_until_line_end
cost_result = cost_then (cost_scan _ _) (λ l. cost_pick l.taken (cost_any (cost_pure true) (lit≤ tt)) (said _))

cost_instruction : Cost2 anywhere 0 0 parse_instruction
unfolding parse_instruction
cost_instruction = cost_le (cost_node _ (cost_scan _ _)) (lit≤ tt)

cost_operand : Cost2 anywhere 1 0 suffix_operand
unfolding suffix_operand none one_of
cost_operand =
    cost_case (at (is LBracket)) (cost_le (cost_bind (cost_group LBracket RBracket _ refl refl refl) (λ a. cost_pure true)) (lit≤ tt))
    (cost_if _ (cost_any (cost_then cost_take_any (λ a. cost_pure true)) (lit≤ tt))
    (cost_if _ (cost_any (cost_then cost_take_any (λ a. cost_pure true)) (lit≤ tt))
    (cost_after (said _) (λ a. cost_pure false))))

cost_suffix_round : Cost2 anywhere 0 0 suffix_round
unfolding suffix_round
cost_suffix_round = cost_then (cost_while _) (λ a. cost_case (at (is Dot)) (cost_le (cost_bind (good_token (is Dot) refl) (λ a. cost_then (cost_while _) (λ a. cost_operand))) (lit≤ tt)) (cost_pure false))

cost_suffixes : Cost2 anywhere 0 0 parse_structured_header_suffixes
unfolding parse_structured_header_suffixes
cost_suffixes = cost_loop (rounds_zero cost_suffix_round) truly_suffix_round

cost_reject : Cost2 anywhere 1 0 reject_excessive_control_flow_nesting
unfolding reject_excessive_control_flow_nesting
cost_reject = cost_any (cost_node _ (cost_after (said _) (λ a. cost_scan _ _))) (lit≤ tt)

cost_closing : (w : BlockOwner) (o : BlockParseOutcome) → Cost2 anywhere 1 0 (closing w o)
unfolding closing
cost_closing w o = cost_pick (found_terminator o) (expects END (Message.MissingEnd w)) (cost_any (cost_pure true) (lit≤ tt))

cost_ended : (w : BlockOwner) (o : BlockParseOutcome) → Cost2 anywhere 1 0 (ended w o)
unfolding ended
cost_ended w o = cost_pick (reached_eof o) (cost_any (cost_pure true) (lit≤ tt)) (cost_after (cost_closing w o) (λ a. cost_pure false))

cost_recover : (w : BlockOwner) (x : BlockRecoveryBoundary) → Cost2 anywhere 1 0 (recover w x)
unfolding recover
cost_recover w x = cost_after (cost_any (cost_node _ (said _)) (lit≤ tt)) (λ a. cost_pure _)

-- A node that begins at its keyword, around what lacks 2.
pub cost_key : (k : Sym) → regular_trivia k ≡ false → is k Syntax.Error ≡ false → (j : Kind) (m : Message) {A : Type 0} {g : Bool → P A} → ((a : Bool) → Cost2 anywhere 2 0 (g a)) → Cost2 (at (is k)) 0 0 (in_node j (expect_kind k m >>= g))
cost_key k t x j m G = cost_le (cost_node j (cost_bind (expects_at k m t x) G)) (lit≤ tt)

module _ {blk : Blocks} (h : (w : BlockOwner) (t : Terminators) (d : ℕ) → Cost2 anywhere 1 0 (blk w t d)) (s : (w : BlockOwner) (t : Terminators) (d : ℕ) → Stops t (blk w t d)) where
  -- A block and its `end`: only one of them is reported.
  pub cost_closed : (w : BlockOwner) (d : ℕ) → Cost2 anywhere 1 0 (blk w Terminators.End d >>= closing w)
  unfolding closing at_terminator one_of
  cost_closed w d = cost_outcome (closing w) (h w Terminators.End d) (s w Terminators.End d) (cost_le (expects_at END _ refl refl) (lit≤ tt)) (cost_pure true) (cost_pure true)

  cost_else : (d : ℕ) (o : BlockParseOutcome) → Cost2 anywhere 0 0 (when at (is ELSE) then (take_token >> parse_line_tail >> blk BlockOwner.If Terminators.End d) else pure o)
  cost_else d o = cost_case (at (is ELSE)) (cost_le (cost_bind (good_token (is ELSE) refl) (λ a. cost_then cost_tail (λ a. h BlockOwner.If Terminators.End d))) (lit≤ tt)) (cost_pure o)

  -- A form's last block.
  cost_last : (w : BlockOwner) (d : ℕ) → Cost2 anywhere 2 0 (parse_line_tail >> blk w Terminators.End d >>= ended w)
  cost_last w d = cost_then cost_tail (λ a. cost_any (cost_bind (h w Terminators.End d) (cost_ended w)) (lit≤ tt))

  cost_if_form : (d : ℕ) → Cost2 (at (is IF)) 0 0 (parse_if blk d)
  unfolding parse_if one_of
  cost_if_form d = cost_key IF refl refl _ _ (λ a. cost_then cost_suffixes (λ a. cost_then cost_tail (λ a. cost_any (cost_bind (h _ _ d) (λ o. cost_pick (reached_eof o) (cost_any (cost_pure true) (lit≤ tt)) (cost_then (cost_else d o) (λ o. cost_ended _ o)))) (lit≤ tt))))

  cost_while_form : (d : ℕ) → Cost2 (at (is WHILE)) 0 0 (parse_while blk d)
  unfolding parse_while one_of
  cost_while_form d = cost_key WHILE refl refl _ _ (λ a. cost_then cost_suffixes (λ a. cost_last BlockOwner.While d))

  cost_repeat_form : (d : ℕ) → Cost2 (at (is REPEAT)) 0 0 (parse_repeat blk d)
  unfolding parse_repeat one_of
  cost_repeat_form d = cost_key REPEAT refl refl _ _ (λ a. cost_then cost_suffixes (λ a. cost_last BlockOwner.Repeat d))

  -- The body's closer is a `while`, which expect takes.
  cost_condition : (d : ℕ) → Cost2 (at_terminator Terminators.While) 0 0 (do_condition blk d BlockParseOutcome.FoundTerminator)
  unfolding do_condition one_of
  cost_condition d = cost_weak (cost_bind (expects_at WHILE _ refl refl) (λ a. cost_last BlockOwner.DoWhile d)) bare_while (lit≤ tt)

  cost_do_form : (d : ℕ) → Cost2 (at (is DO)) 0 0 (parse_do_while blk d)
  unfolding parse_do_while one_of do_condition
  cost_do_form d = cost_key DO refl refl _ _ (λ a. cost_then cost_tail (λ a. cost_any (cost_outcome (do_condition blk d) (h _ _ d) (s _ _ d) (cost_condition d) (cost_pure false) (cost_pure true)) (lit≤ tt)))

  cost_control_flow : (d : ℕ) → Cost2 (at control_flow) 0 0 (parse_control_flow blk d)
  unfolding parse_control_flow
  cost_control_flow d =
      cost_cases (at (is IF)) (cost_if_form d)
      (cost_cases (at (is DO)) (cost_do_form d)
      (cost_cases (at (is WHILE)) (cost_while_form d)
      (cost_weak (cost_repeat_form d) repeat_left (lit≤ tt))))

  pub cost_begin : Cost2 (at (is BEGIN)) 0 0 (parse_begin_block blk)
  unfolding parse_begin_block one_of
  cost_begin = cost_key BEGIN refl refl _ _ (λ a. cost_then cost_tail (λ a. cost_any (cost_closed BlockOwner.Begin 0) (lit≤ tt)))

module _ {again : Blocks} (h : (w : BlockOwner) (t : Terminators) (d : ℕ) → Cost2 anywhere 1 0 (again w t d)) (s : (w : BlockOwner) (t : Terminators) (d : ℕ) → Stops t (again w t d)) where
  cost_round : (lim : ℕ) (w : BlockOwner) (t : Terminators) (d : ℕ) → Cost2 anywhere 1 0 (block_round again lim w t d)
  unfolding block_round
  cost_round lim w t d =
      cost_eof (cost_after (said _) (λ a. cost_pure _))
      (cost_if (at_terminator t) (cost_any (cost_pure _) (lit≤ tt))
      (cost_if (at regular_trivia) (cost_any (cost_then cost_take_any (λ a. h w t d)) (lit≤ tt))
      (cost_if (at_stray_else t) (cost_any (cost_recover w _) (lit≤ tt))
      (cost_if at_top_level_form_starter_in_block (cost_any (cost_recover w _) (lit≤ tt))
      (cost_if (at (is DocComment)) (cost_le (cost_bind (cost_error_token _) (λ a. h w t d)) (lit≤ tt))
      (cost_case (at control_flow) (cost_pick (leb lim d) (cost_any (cost_after cost_reject (λ a. cost_pure _)) (lit≤ tt)) (cost_le (cost_bind (cost_control_flow inside (λ w t d. stops_node Block (s w t d)) _) next) (lit≤ tt)))
      (cost_if (at starts_instruction) (cost_any (cost_then cost_instruction (λ a. h w t d)) (lit≤ tt))
      (cost_le (cost_bind (cost_error_token _) (λ a. h w t d)) (lit≤ tt)))))))))
    where
      inside : (w : BlockOwner) (t : Terminators) (d : ℕ) → Cost2 anywhere 1 0 (in_node Block (again w t d))
      inside w t d = cost_any (cost_node Block (h w t d)) (lit≤ tt)

      next : (e : Bool) → Cost2 anywhere 1 0 (pick e (pure BlockParseOutcome.ReachedEof) (again w t d))
      next e = cost_pick e (cost_any (cost_pure _) (lit≤ tt)) (h w t d)

cost_blocks : (n lim : ℕ) (w : BlockOwner) (t : Terminators) (d : ℕ) → Cost2 anywhere 1 0 (block_loop n lim w t d)
unfolding block_loop
cost_blocks zero lim w t d = cost_after (said _) (λ a. cost_pure _)
cost_blocks (suc n) lim w t d = cost_round (cost_blocks n lim) (stops_loop n lim) lim w t d

pub cost_block : (lim : ℕ) (w : BlockOwner) (t : Terminators) (d : ℕ) → Cost2 anywhere 1 0 (parse_block lim w t d)
unfolding parse_block block_in
cost_block lim w t d = cost_any (cost_node Block (record { cost = λ r k. (cost_blocks (suc (length r)) lim w t d).cost r k })) (lit≤ tt)
