-- Events: each token pays for 7.
-- Assumes nothing.
use Rattle.std.specs.Prelude.{ℕ, zero, suc, ◌+◌, ◌*◌, ◌≤◌, ◌≡◌, true, false, not, ◌||◌, List, [], ◌∷◌, leb, length}
use Rattle.std.proofs.Math.Path.{refl}
use Rattle.std.proofs.Math.Bool.{Bool}
use Rattle.std.proofs.Math.Dec.{lit≤}
use Rattle.std.proofs.Common.{arith}
use Rattle.lexer.specs.Syntax.{DocComment, At, LParen, RParen}
use Rattle.grammar.specs.Words.{Sym, is, ADV_MAP, BEGIN, CONST, DO, ELSE, ENUM, IF, MOD, NAMESPACE, PROC, PUB, REPEAT, TYPE, WHILE}
use Rattle.grammar.specs.Look.{one_of, regular_trivia, control_flow, starts_instruction, at, at_terminator, at_stray_else, at_top_level_form_starter_in_block}
use Rattle.grammar.specs.Run.{Kind, Block, SourceFile, nil, node, P, pure, in_node, pick, ◌>>=◌, ◌>>◌, when◌then◌else◌, take_token, err, loop}
use Rattle.grammar.specs.Message.{Message, ExpectedProc}
use Rattle.grammar.specs.Bump.{bump_while, expect_kind, expect_name, error_token}
use Rattle.grammar.specs.Path.{path_segment, path_round, parse_path_with_message, parse_balanced_group}
use Rattle.grammar.specs.Line.{parse_expr_until_line_end, parse_type_body, parse_line_tail, parse_signature_result_until_line_end}
use Rattle.grammar.specs.Instruction.{instruction_round, before_first, parse_instruction}
use Rattle.grammar.specs.Block.{BlockOwner, Terminators, BlockRecoveryBoundary, BlockParseOutcome, Blocks, suffix_operand, suffix_round, parse_structured_header_suffixes, reject_excessive_control_flow_nesting, closing, ended, parse_if, parse_while, do_condition, parse_do_while, parse_repeat, parse_control_flow, recover, block_round, block_loop, block_in, parse_block}
use Rattle.grammar.specs.Item.{package_in_parens, parse_visibility, optional_visibility, parse_attribute, parse_results, parse_signature, parse_namespace, parse_submodule, attribute_round, procedure_body, parse_procedure, parse_begin_block, parse_constant, type_name_and_body, parse_type_decl, parse_advice_map, at_declaration, at_procedure, parse_source_item, items, items_in, parse}
use Rattle.grammar.specs.Laws.Here.{none, one_of_one}
use Rattle.grammar.specs.Laws.Stops.{Stops, stops_node, stops_loop, stops_block}
use Rattle.grammar.specs.Laws.Live.{anywhere, some}
use Rattle.grammar.specs.Laws.LiveLine.{truly_path_round, truly_suffix_round, instruction_first}
use Rattle.grammar.proofs.Laws.LiveBlock.{bare_while, repeat_left}
use Rattle.grammar.proofs.Laws.LiveItem.{truly_attribute_round, after_attributes, opens, declaration_key, no_attributes}
use Rattle.grammar.proofs.Laws.Cost.{constant_name, Price, weigh, Cost, cost_weak, cost_any, cost_le, cost_pure, cost_err, cost_take_any, cost_take_at, cost_take, cost_said, cost_pick, cost_bind, cost_then, cost_after, cost_nothing, cost_if, cost_case, cost_cases, cost_yes, cost_node, cost_eof, cost_scan, cost_while, cost_scan_first, cost_expect_at, cost_outcome, rounds_zero, cost_loop, cost_loop_first, cost_expect, cost_ok, cost_declared, cost_trivia}

-- 1 for a token, 2 for a node.
abbrev pub events_price : Price
events_price = record { of_leaf = λ s. 1; of_node = 2; of_say = 0; pay = 7; fits = λ s. lit≤ tt }

abbrev Cost7 : (List Sym → Bool) → ℕ → ℕ → {A : Type 0} → P A → Type 0
Cost7 q lack over f = Cost events_price q lack over f

quiet : (m : ℕ) → Cost7 anywhere 0 0 (err m)
quiet m = cost_err m

one_token : (t : Sym → Bool) → Cost7 (at t) 0 6 take_token
one_token t = cost_take_at t 6 (λ s e. lit≤ tt)

ruleset zero·rules = (cost_pure, quiet, cost_take_any, cost_pick, cost_if, cost_then, cost_while, cost_scan)

cost_expects : (k : Sym) (m : Message) → Cost7 anywhere 0 0 (expect_kind k m)
cost_expects k m = cost_expect k m

expects_at : (k : Sym) (m : Message) → regular_trivia k ≡ false → Cost7 (at (is k)) 0 6 (expect_kind k m)
expects_at k m t = cost_expect_at k m 6 t (λ s e. lit≤ tt)

cost_name : (m : Message) → Cost7 anywhere 0 0 (expect_name m)
unfolding expect_name
cost_name m = search zero·rules

cost_error_token : (m : Message) → Cost7 some 0 4 (error_token m)
unfolding error_token
cost_error_token m = cost_le (cost_node _ (cost_said _ (λ a. cost_take 6 (λ s. lit≤ tt)))) (lit≤ tt)

cost_segments : Cost7 anywhere 0 0 (loop path_round)
unfolding path_round path_segment
cost_segments = cost_loop (rounds_zero (search zero·rules depth 12)) truly_path_round

cost_path : (m : Message) → Cost7 anywhere 2 0 (parse_path_with_message m)
unfolding parse_path_with_message
cost_path m = cost_node {c = 0} _ (search (zero·rules, cost_segments) depth 12)

cost_group : (o k : Sym) (m : Message) → Cost7 anywhere 0 0 (parse_balanced_group o k m)
unfolding parse_balanced_group
cost_group o k m = search (zero·rules, cost_expects) depth 9

cost_tail : Cost7 anywhere 0 0 parse_line_tail
unfolding parse_line_tail
cost_tail = cost_scan _ true

cost_expr : Cost7 anywhere 2 0 parse_expr_until_line_end
unfolding parse_expr_until_line_end
cost_expr = cost_then (cost_while _) (λ a. cost_node _ (cost_scan _ _))

cost_result : Cost7 anywhere 0 0 parse_signature_result_until_line_end
unfolding parse_signature_result_until_line_end
cost_result = search zero·rules

cost_instruction : Cost7 (at starts_instruction) 0 4 parse_instruction
unfolding parse_instruction
cost_instruction = cost_le (cost_node _ (cost_scan_first starts_instruction instruction_round before_first 6 (λ s. lit≤ tt) instruction_first)) (lit≤ tt)

cost_suffixes : Cost7 anywhere 0 0 parse_structured_header_suffixes
unfolding parse_structured_header_suffixes suffix_round suffix_operand
cost_suffixes = cost_loop (rounds_zero (search (zero·rules, cost_group) depth 12)) truly_suffix_round

cost_reject : Cost7 anywhere 2 0 reject_excessive_control_flow_nesting
unfolding reject_excessive_control_flow_nesting
cost_reject = cost_node {c = 0} _ (search zero·rules)

cost_closing : (w : BlockOwner) (o : BlockParseOutcome) → Cost7 anywhere 0 0 (closing w o)
unfolding closing
cost_closing w o = search (zero·rules, cost_expects)

cost_ended : (w : BlockOwner) (o : BlockParseOutcome) → Cost7 anywhere 0 0 (ended w o)
unfolding ended
cost_ended w o = search (zero·rules, cost_closing)

cost_recover : (w : BlockOwner) (x : BlockRecoveryBoundary) → Cost7 anywhere 2 0 (recover w x)
unfolding recover
cost_recover w x = cost_after (cost_node _ (quiet _)) (λ a. cost_pure _)

-- A node that begins at its keyword, around what lacks 4.
cost_key : (k : Sym) → regular_trivia k ≡ false → (j : Kind) (m : Message) {A : Type 0} {g : Bool → P A} → ((a : Bool) → Cost7 anywhere 4 0 (g a)) → Cost7 (at (is k)) 0 0 (in_node j (expect_kind k m >>= g))
cost_key k t j m G = cost_le (cost_node j (cost_bind (expects_at k m t) G)) (lit≤ tt)

module _ {blk : Blocks} (h : (w : BlockOwner) (t : Terminators) (d : ℕ) → Cost7 anywhere 4 0 (blk w t d)) (s : (w : BlockOwner) (t : Terminators) (d : ℕ) → Stops t (blk w t d)) where
  cost_else : (d : ℕ) (o : BlockParseOutcome) → Cost7 anywhere 0 0 (when at (is ELSE) then (take_token >> parse_line_tail >> blk BlockOwner.If Terminators.End d) else pure o)
  cost_else d o = cost_case (at (is ELSE)) (cost_le (cost_bind (one_token (is ELSE)) (λ a. cost_then cost_tail (λ a. h BlockOwner.If Terminators.End d))) (lit≤ tt)) (cost_pure o)

  cost_if_form : (d : ℕ) → Cost7 (at (is IF)) 0 0 (parse_if blk d)
  unfolding parse_if one_of
  cost_if_form d = cost_key IF refl _ _ (λ a. cost_then cost_suffixes (λ a. cost_then cost_tail (λ a. cost_after (h _ _ d) (λ o. search (zero·rules, cost_else, cost_ended) depth 12))))

  cost_while_form : (d : ℕ) → Cost7 (at (is WHILE)) 0 0 (parse_while blk d)
  unfolding parse_while one_of
  cost_while_form d = cost_key WHILE refl _ _ (λ a. cost_then cost_suffixes (λ a. cost_then cost_tail (λ a. cost_after (h _ _ d) (cost_ended _))))

  cost_repeat_form : (d : ℕ) → Cost7 (at (is REPEAT)) 0 0 (parse_repeat blk d)
  unfolding parse_repeat one_of
  cost_repeat_form d = cost_key REPEAT refl _ _ (λ a. cost_then cost_suffixes (λ a. cost_then cost_tail (λ a. cost_after (h _ _ d) (cost_ended _))))

  -- The body's closer is a `while`, which expect takes.
  cost_condition : (d : ℕ) → Cost7 (at_terminator Terminators.While) 0 0 (do_condition blk d BlockParseOutcome.FoundTerminator)
  unfolding do_condition one_of
  cost_condition d = cost_weak (cost_bind (expects_at WHILE _ refl) (λ a. cost_then cost_tail (λ a. cost_after (h _ _ d) (cost_ended _)))) bare_while (lit≤ tt)

  cost_do_form : (d : ℕ) → Cost7 (at (is DO)) 0 0 (parse_do_while blk d)
  unfolding parse_do_while one_of do_condition
  cost_do_form d = cost_key DO refl _ _ (λ a. cost_then cost_tail (λ a. cost_outcome (do_condition blk d) (h _ _ d) (s _ _ d) (cost_condition d) (cost_pure false) (cost_pure true)))

  cost_control_flow : (d : ℕ) → Cost7 (at control_flow) 0 0 (parse_control_flow blk d)
  unfolding parse_control_flow
  cost_control_flow d =
      cost_cases (at (is IF)) (cost_if_form d)
      (cost_cases (at (is DO)) (cost_do_form d)
      (cost_cases (at (is WHILE)) (cost_while_form d)
      (cost_weak (cost_repeat_form d) repeat_left (lit≤ tt))))

  cost_begin : Cost7 (at (is BEGIN)) 0 0 (parse_begin_block blk)
  unfolding parse_begin_block one_of
  cost_begin = cost_key BEGIN refl _ _ (λ a. cost_then cost_tail (λ a. cost_after (h _ _ 0) (cost_closing _)))

module _ {again : Blocks} (h : (w : BlockOwner) (t : Terminators) (d : ℕ) → Cost7 anywhere 2 0 (again w t d)) (s : (w : BlockOwner) (t : Terminators) (d : ℕ) → Stops t (again w t d)) where
  cost_round : (lim : ℕ) (w : BlockOwner) (t : Terminators) (d : ℕ) → Cost7 anywhere 2 0 (block_round again lim w t d)
  unfolding block_round
  cost_round lim w t d =
      cost_eof (cost_any (cost_then (quiet _) (λ a. cost_pure _)) (lit≤ tt))
      (cost_if (at_terminator t) (cost_any (cost_pure _) (lit≤ tt))
      (cost_case (at regular_trivia) (cost_le (cost_bind (one_token _) (λ a. h w t d)) (lit≤ tt))
      (cost_if (at_stray_else t) (cost_any (cost_recover w _) (lit≤ tt))
      (cost_if at_top_level_form_starter_in_block (cost_any (cost_recover w _) (lit≤ tt))
      (cost_if (at (is DocComment)) (cost_le (cost_bind (cost_error_token _) (λ a. h w t d)) (lit≤ tt))
      (cost_case (at control_flow) (cost_pick (leb lim d) (cost_any (cost_after cost_reject (λ a. cost_pure _)) (lit≤ tt)) (cost_le (cost_bind (cost_control_flow inside (λ w t d. stops_node Block (s w t d)) _) next) (lit≤ tt)))
      (cost_case (at starts_instruction) (cost_le (cost_bind cost_instruction (λ a. h w t d)) (lit≤ tt))
      (cost_le (cost_bind (cost_error_token _) (λ a. h w t d)) (lit≤ tt)))))))))
    where
      inside : (w : BlockOwner) (t : Terminators) (d : ℕ) → Cost7 anywhere 4 0 (in_node Block (again w t d))
      inside w t d = cost_node Block (h w t d)

      next : (e : Bool) → Cost7 anywhere 2 0 (pick e (pure BlockParseOutcome.ReachedEof) (again w t d))
      next e = cost_pick e (cost_any (cost_pure _) (lit≤ tt)) (h w t d)

cost_blocks : (n lim : ℕ) (w : BlockOwner) (t : Terminators) (d : ℕ) → Cost7 anywhere 2 0 (block_loop n lim w t d)
unfolding block_loop
cost_blocks zero lim w t d = cost_any (cost_then (quiet _) (λ a. cost_pure _)) (lit≤ tt)
cost_blocks (suc n) lim w t d = cost_round (cost_blocks n lim) (stops_loop n lim) lim w t d

cost_block : (lim : ℕ) (w : BlockOwner) (t : Terminators) (d : ℕ) → Cost7 anywhere 4 0 (parse_block lim w t d)
unfolding parse_block block_in
cost_block lim w t d = cost_node Block (record { cost = λ r k. (cost_blocks (suc (length r)) lim w t d).cost r k })

-- ---- Items.
cost_package : Cost7 anywhere 0 0 package_in_parens
unfolding package_in_parens
cost_package = search (zero·rules, cost_expects) depth 9

cost_visibility : Cost7 (at (is PUB)) 0 4 parse_visibility
unfolding parse_visibility one_of
cost_visibility = cost_le (cost_node _ (cost_bind {c' = 0} {e' = 0} (expects_at PUB _ refl) (λ a. search (zero·rules, cost_package)))) (lit≤ tt)

cost_optional : Cost7 anywhere 0 0 optional_visibility
unfolding optional_visibility
cost_optional = cost_case (at (is PUB)) (cost_le cost_visibility (lit≤ tt)) (cost_pure true)

cost_attribute : Cost7 (at (is At)) 0 4 parse_attribute
unfolding parse_attribute one_of
cost_attribute = cost_le (cost_node _ (cost_bind {c' = 0} {e' = 0} (expects_at At _ refl) (λ a. search (zero·rules, cost_name, cost_group) depth 9))) (lit≤ tt)

-- At `@`, and anywhere.
cost_attribute_round : Cost7 (at (is At)) 0 4 attribute_round
unfolding attribute_round none one_of
cost_attribute_round = cost_trivia (is At) refl _ (cost_yes (at (is At)) _ (cost_le (cost_bind cost_attribute (λ a. cost_pure true)) (lit≤ tt)))

cost_attribute_rounds : Cost7 anywhere 0 0 attribute_round
unfolding attribute_round
cost_attribute_rounds = cost_then (cost_while _) (λ a. cost_case (at (is At)) (cost_le (cost_bind cost_attribute (λ a. cost_pure true)) (lit≤ tt)) (cost_pure false))

cost_params : (m : Message) → Cost7 (at (is LParen)) 0 6 (parse_balanced_group LParen RParen m)
unfolding parse_balanced_group none one_of
cost_params m = cost_trivia (is LParen) refl _ (cost_le (cost_bind {c' = 0} {e' = 0} (expects_at LParen m refl) (λ ok. search zero·rules depth 9)) (lit≤ tt))

cost_signature : Cost7 (at (is LParen)) 0 4 parse_signature
unfolding parse_signature parse_results
cost_signature = cost_le (cost_node _ (cost_bind {c' = 0} {e' = 0} (cost_params _) (λ a. search (zero·rules, cost_group, cost_result) depth 9))) (lit≤ tt)

cost_namespace : Cost7 (at (is NAMESPACE)) 0 0 parse_namespace
unfolding parse_namespace one_of
cost_namespace = cost_key NAMESPACE refl _ _ (λ a. cost_then (cost_while _) (λ a. cost_any (cost_after (cost_path _) (λ a. cost_tail)) (lit≤ tt)))

cost_submodule : Cost7 (at (opens (MOD ∷ []))) 0 0 parse_submodule
unfolding parse_submodule one_of
cost_submodule = cost_le (cost_node _ (cost_declared (MOD ∷ []) {b = 0} {c = 0} {o = 2} cost_visibility (λ a. search (zero·rules, cost_expects, cost_name, cost_tail) depth 9)
    (cost_weak (cost_bind {c' = 0} {e' = 0} (expects_at MOD _ refl) (λ a. search (zero·rules, cost_name, cost_tail) depth 9)) (one_of_one MOD) (lit≤ tt)) (lit≤ tt))) (lit≤ tt)

cost_constant_name : Cost7 anywhere 2 0 constant_name
cost_constant_name = cost_then (cost_while _) (λ a. cost_then (cost_name _) (λ a. cost_then (cost_expects _ _) (λ a. cost_after cost_expr (λ a. cost_tail))))

cost_constant : Cost7 (at (opens (CONST ∷ []))) 0 0 parse_constant
unfolding parse_constant one_of
cost_constant = cost_le (cost_node _ (cost_declared (CONST ∷ []) {b = 2} {c = 0} {o = 2} cost_visibility (λ a. cost_then (cost_expects _ _) (λ a. cost_constant_name))
    (cost_weak (cost_bind (expects_at CONST _ refl) (λ a. cost_constant_name)) (one_of_one CONST) (lit≤ tt)) (lit≤ tt))) (lit≤ tt)

cost_type_name : Cost7 anywhere 2 0 type_name_and_body
unfolding type_name_and_body parse_type_body
cost_type_name = cost_then (cost_while _) (λ a. cost_then (cost_name _) (λ a. cost_then (cost_while _) (λ a. cost_if _ (cost_after (cost_node {c = 0} _ (cost_scan _ _)) (λ a. cost_pure true)) (cost_any (quiet _) (lit≤ tt)))))

-- parse_type_decl, behind its visibility.
cost_type_key : Cost7 (at (one_of (TYPE ∷ ENUM ∷ []))) 0 4 (take_token >> type_name_and_body)
cost_type_key = cost_le (cost_bind (one_token _) (λ a. cost_type_name)) (lit≤ tt)

cost_type : Cost7 (at (opens (TYPE ∷ ENUM ∷ []))) 0 0 parse_type_decl
unfolding parse_type_decl none one_of
cost_type = cost_le (cost_node _ (cost_declared (TYPE ∷ ENUM ∷ []) {b = 0} {c = 0} {o = 2} cost_visibility
    (λ a. cost_then (cost_while _) (λ a. cost_case (at (one_of (TYPE ∷ ENUM ∷ []))) (cost_le cost_type_key (lit≤ tt)) (quiet _)))
    (cost_trivia (one_of (TYPE ∷ ENUM ∷ [])) refl _ (cost_yes (at (one_of (TYPE ∷ ENUM ∷ []))) _ (cost_le cost_type_key (lit≤ tt)))) (lit≤ tt))) (lit≤ tt)

cost_advice_map : Cost7 (at (is ADV_MAP)) 0 0 parse_advice_map
unfolding parse_advice_map one_of
cost_advice_map = cost_key ADV_MAP refl _ _ (λ a. cost_then (cost_while _) (λ a. cost_then (cost_name _) (λ a. cost_then (cost_while _) (λ a. cost_then (search (zero·rules, cost_group)) (λ a. cost_then (cost_expects _ _) (λ a. cost_any (cost_after cost_expr (λ a. cost_tail)) (lit≤ tt)))))))

module _ {blk : Blocks} (h : (w : BlockOwner) (t : Terminators) (d : ℕ) → Cost7 anywhere 4 0 (blk w t d)) where
  cost_body : Cost7 anywhere 4 0 (procedure_body blk)
  unfolding procedure_body
  cost_body = cost_then (cost_while _) (λ a. cost_then (cost_name _) (λ a. cost_then (cost_while _) (λ a. cost_then (cost_case (at (is LParen)) (cost_le cost_signature (lit≤ tt)) (cost_pure true)) (λ a. cost_then cost_tail (λ a. cost_after (h _ _ 0) (cost_closing _))))))

  cost_proc : Cost7 anywhere 0 0 (expect_kind PROC (Message.Plain ExpectedProc) >>= λ declared. pick (not declared) (pure true) (procedure_body blk))
  cost_proc = cost_ok PROC _ 6 (λ s e. lit≤ tt) (cost_pure true) cost_body (lit≤ tt) (lit≤ tt)

  cost_after_attributes : Cost7 anywhere 0 0 (after_attributes blk)
  cost_after_attributes = cost_then (cost_while _) (λ a. cost_then cost_optional (λ a. cost_then (cost_while _) (λ a. cost_proc)))

  cost_at_proc : Cost7 (at (one_of (PROC ∷ []))) 0 2 (bump_while regular_trivia >> expect_kind PROC (Message.Plain ExpectedProc) >>= λ declared. pick (not declared) (pure true) (procedure_body blk))
  unfolding none one_of
  cost_at_proc = cost_trivia (one_of (PROC ∷ [])) refl _ (cost_weak (cost_bind (expects_at PROC _ refl) (λ ok. cost_pick (not ok) (cost_any (cost_pure true) (lit≤ tt)) cost_body)) (one_of_one PROC) (lit≤ tt))

  cost_from_key : Cost7 (at (opens (PROC ∷ []))) 0 2 (after_attributes blk)
  unfolding none one_of
  cost_from_key = cost_trivia (opens (PROC ∷ [])) refl _ (cost_declared (PROC ∷ []) cost_visibility (λ a. cost_then (cost_while _) (λ a. cost_proc)) cost_at_proc (lit≤ tt))

  cost_procedure : Cost7 at_procedure 0 0 (parse_procedure blk)
  unfolding parse_procedure at_procedure
  cost_procedure = cost_le (cost_node _ (record { cost = λ r k. d (at (is At) r) r refl k })) (lit≤ tt)
    where
      X : P Bool
      X = loop attribute_round >> after_attributes blk

      d : (u : Bool) (r : List Sym) → at (is At) r ≡ u → (u || at_declaration (PROC ∷ []) r) ≡ true → weigh events_price (X r).out + 7 * length (X r).rest + 2 ≤ 7 * length r + 0
      d true r i k = omega (arith, (cost_bind (cost_loop_first (rounds_zero cost_attribute_rounds) truly_attribute_round cost_attribute_round) (λ a. cost_after_attributes)).cost r i)
      d false r i k = (cost_nothing (λ a. after_attributes blk) false no_attributes cost_from_key).cost r (declaration_key (PROC ∷ []) r k)

module _ {blk : Blocks} (h : (w : BlockOwner) (t : Terminators) (d : ℕ) → Cost7 anywhere 4 0 (blk w t d)) (s : (w : BlockOwner) (t : Terminators) (d : ℕ) → Stops t (blk w t d)) where
  cost_item : Cost7 some 0 0 (parse_source_item blk)
  unfolding parse_source_item
  cost_item =
      cost_if (at (is DocComment)) (cost_le (cost_node _ (cost_take 6 (λ s. lit≤ tt))) (lit≤ tt))
      (cost_if (at regular_trivia) (cost_any cost_take_any (lit≤ tt))
      (cost_case (at (is NAMESPACE)) cost_namespace
      (cost_case (at_declaration (MOD ∷ [])) (cost_weak cost_submodule (declaration_key _) (lit≤ tt))
      (cost_case at_procedure (cost_procedure h)
      (cost_case (at (is BEGIN)) (cost_begin h s)
      (cost_case (at_declaration (CONST ∷ [])) (cost_weak cost_constant (declaration_key _) (lit≤ tt))
      (cost_case (at_declaration (TYPE ∷ ENUM ∷ [])) (cost_weak cost_type (declaration_key _) (lit≤ tt))
      (cost_case (at (is ADV_MAP)) cost_advice_map
      (cost_le (cost_error_token _) (lit≤ tt))))))))))

cost_items : (n lim : ℕ) → Cost7 anywhere 0 0 (items n lim)
unfolding items
cost_items zero lim = cost_then (quiet _) (λ a. cost_pure false)
cost_items (suc n) lim = cost_eof (cost_pure true) (cost_le (cost_bind (cost_item (cost_block lim) (stops_block lim)) (λ a. cost_items n lim)) (lit≤ tt))

pub seven : (lim : ℕ) (a : List Sym) → weigh events_price (node SourceFile (parse lim a) nil) ≤ 7 * length a + 2
unfolding parse items_in
seven lim a = omega (arith, (cost_items (suc (length a)) lim).cost a refl)
