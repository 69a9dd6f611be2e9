-- High: how many nodes are open inside a function.
-- Assumes nothing.
use Prim.Native.Nat.{ℕ, zero, suc, ◌*◌, ◌-◌, ◌+◌, ◌≤◌, max}
use Rattle.std.specs.Prelude.{◌≡◌, refl, Bool, not, leb, T, length}
use Rattle.std.proofs.Common.{sym, subst}
use Rattle.std.proofs.Math.Bool.{true, false}
use mathlib.Core.List.{List, [], ◌∷◌}
use Rattle.std.proofs.Math.Dec.{nleb→lt}
use native.Mathlib.Omega.{arith}
use Rattle.lexer.specs.Syntax.{DocComment}
use Rattle.grammar.specs.Words.{Sym, is}
use Rattle.grammar.specs.Look.{regular_trivia, control_flow, starts_instruction, at, eof, at_terminator, at_stray_else, at_top_level_form_starter_in_block}
use Rattle.grammar.specs.Run.{Kind, Block, SourceFile, Forest, nil, leaf, node, say, ◌<>◌, Res, P, pure, peek, in_node, pick, ◌>>=◌, ◌>>◌, when◌then◌else◌, take_token, err, Round, stop, go, warn, turn, scan, m_never, repeat, loop}
use Rattle.grammar.specs.Message.{Message}
use Rattle.grammar.specs.Bump.{bump_while, expect_kind, expect_name, error_token}
use Rattle.grammar.specs.Path.{path_segment, path_round, parse_path_with_message, parse_balanced_group}
use Rattle.grammar.specs.Line.{parse_expr_until_line_end, parse_type_body, parse_line_tail, parse_signature_result_until_line_end}
use Rattle.grammar.specs.Instruction.{parse_instruction}
use Rattle.grammar.specs.Block.{BlockOwner, Terminators, BlockRecoveryBoundary, BlockParseOutcome, Blocks, suffix_operand, suffix_round, parse_structured_header_suffixes, reject_excessive_control_flow_nesting, closing, ended, parse_if, parse_while, do_condition, parse_do_while, parse_repeat, parse_control_flow, recover, block_round, block_loop, block_in, parse_block}
use Rattle.grammar.specs.Item.{package_in_parens, parse_visibility, optional_visibility, parse_attribute, parse_results, parse_signature, parse_namespace, parse_submodule, attribute_round, procedure_body, parse_procedure, parse_begin_block, parse_constant, type_name_and_body, parse_type_decl, parse_advice_map, parse_source_item, items, items_in, parse}

abbrev pub height : Forest → ℕ
height nil = 0
height (leaf s x) = height x
height (node k c x) = max (suc (height c)) (height x)
height (say m x) = height x

-- Inside f at most h nodes are open at once.
pub record High (h : ℕ) {A : Type 0} (f : P A) : Type 0 where
  pub high : (r : List Sym) → height (f r).out ≤ h

high_app : (h : ℕ) (x y : Forest) → height x ≤ h → height y ≤ h → height (x <> y) ≤ h
high_app h nil y p q = q
high_app h (leaf s x) y p q = high_app h x y p q
high_app h (node k c x) y p q = omega (arith, high_app h x y (omega arith) q)
high_app h (say m x) y p q = high_app h x y p q

high_le : {h h' : ℕ} {A : Type 0} {f : P A} → High h f → h ≤ h' → High h' f
high_le H l = record { high = λ r. omega (arith, H.high r) }

module _ {h : ℕ} where
  high_pure : {A : Type 0} (a : A) → High h (pure a)
  unfolding pure
  high_pure a = record { high = λ r. omega arith }

  high_err : (m : ℕ) → High h (err m)
  unfolding err
  high_err m = record { high = λ r. omega arith }

  high_take : High h take_token
  unfolding take_token
  high_take = record { high = c }
    where
      c : (r : List Sym) → height (take_token r).out ≤ h
      c [] = omega arith
      c (s ∷ r) = omega arith

  high_pick : (u : Bool) {A : Type 0} {f g : P A} → High h f → High h g → High h (pick u f g)
  high_pick true F G = F
  high_pick false F G = G

  high_bind : {A B : Type 0} {f : P A} {g : A → P B} → High h f → ((a : A) → High h (g a)) → High h (f >>= g)
  unfolding ◌>>=◌
  high_bind {A} {B} {f} {g} F G = record { high = λ r. high_app h (f r).out (g (f r).val (f r).rest).out (F.high r) ((G (f r).val).high (f r).rest) }

  high_if : {A : Type 0} (t : List Sym → Bool) {f g : P A} → High h f → High h g → High h (when t then f else g)
  unfolding ◌>>=◌ peek
  high_if t F G = record { high = λ r. (high_pick (t r) F G).high r }

  high_node : (k : Kind) {A : Type 0} {f : P A} → High h f → High (suc h) (in_node k f)
  unfolding in_node
  high_node k {A} {f} F = record { high = λ r. omega (arith, F.high r) }

  module _ {L : Type 0} where
    high_turn : (u : Round L) (l : L) (s : Sym) (r : List Sym) (k : L → Res L) → ((l' : L) → height (k l').out ≤ h) → height (turn u l s r k).out ≤ h
    high_turn stop l s r k e = omega arith
    high_turn (go l') l s r k e = e l'
    high_turn (warn m l') l s r k e = e l'

    scan_high : (step : L → List Sym → Round L) (l : L) (r : List Sym) → height (scan step l r).out ≤ h
    unfolding scan
    scan_high step l [] = omega arith
    scan_high step l (s ∷ r) = high_turn (step l (s ∷ r)) l s r (λ l'. scan step l' r) (λ l'. scan_high step l' r)

    high_scan : (step : L → List Sym → Round L) (l : L) → High h (scan step l)
    high_scan step l = record { high = scan_high step l }

  repeat_high : {f : P Bool} → High h f → (n : ℕ) → High h (repeat n f)
  unfolding repeat
  repeat_high F zero = high_bind (high_err m_never) (λ a. high_pure false)
  repeat_high F (suc n) = high_bind F (λ c. high_pick c (repeat_high F n) (high_pure false))

  high_loop : {f : P Bool} → High h f → High h (loop f)
  unfolding loop
  high_loop F = record { high = λ r. (repeat_high F (suc (length r))).high r }

ruleset high·rules = (high_pure, high_err, high_take, high_node, high_pick, high_if, high_bind, high_scan)

module _ {h : ℕ} where
  high_while : (p : Sym → Bool) → High h (bump_while p)
  unfolding bump_while
  high_while p = high_scan _ true

module _ {h : ℕ} where
  high_expect : (k : Sym) (m : Message) → High h (expect_kind k m)
  unfolding expect_kind
  high_expect k m = search (high·rules, high_while)

  high_name : (m : Message) → High h (expect_name m)
  unfolding expect_name
  high_name m = search high·rules

  high_error_token : (m : Message) → High (suc h) (error_token m)
  unfolding error_token
  high_error_token m = search high·rules

  high_segments : High h (loop path_round)
  unfolding path_round path_segment
  high_segments = high_loop (search (high·rules, high_while) depth 12)

  high_path : (m : Message) → High (suc h) (parse_path_with_message m)
  unfolding parse_path_with_message
  high_path m = search (high·rules, high_while, high_segments) depth 12

  high_group : (o k : Sym) (m : Message) → High h (parse_balanced_group o k m)
  unfolding parse_balanced_group
  high_group o k m = search (high·rules, high_while, high_expect) depth 9

  high_tail : High h parse_line_tail
  unfolding parse_line_tail
  high_tail = high_scan _ true

  high_expr : High (suc h) parse_expr_until_line_end
  unfolding parse_expr_until_line_end
  high_expr = search (high·rules, high_while)

  high_type_body : High (suc h) parse_type_body
  unfolding parse_type_body
  high_type_body = search high·rules

  high_result : High h parse_signature_result_until_line_end
  unfolding parse_signature_result_until_line_end
  high_result = search high·rules

  high_instruction : High (suc h) parse_instruction
  unfolding parse_instruction
  high_instruction = search high·rules

  high_suffixes : High h parse_structured_header_suffixes
  unfolding parse_structured_header_suffixes suffix_round suffix_operand
  high_suffixes = high_loop (search (high·rules, high_while, high_group) depth 12)

  high_reject : High (suc h) reject_excessive_control_flow_nesting
  unfolding reject_excessive_control_flow_nesting
  high_reject = search high·rules

  high_closing : (w : BlockOwner) (o : BlockParseOutcome) → High h (closing w o)
  unfolding closing
  high_closing w o = search (high·rules, high_expect)

  high_ended : (w : BlockOwner) (o : BlockParseOutcome) → High h (ended w o)
  unfolding ended
  high_ended w o = search (high·rules, high_closing)

  high_recover : (w : BlockOwner) (x : BlockRecoveryBoundary) → High (suc h) (recover w x)
  unfolding recover
  high_recover w x = search high·rules

module _ {h : ℕ} (blk : Blocks) (d : ℕ) (b : (w : BlockOwner) (t : Terminators) → High h (blk w t d)) where
  high_if_form : High (suc h) (parse_if blk d)
  unfolding parse_if
  high_if_form = search (high·rules, high_suffixes, high_expect, high_tail, high_ended, b) depth 20

  high_while_form : High (suc h) (parse_while blk d)
  unfolding parse_while
  high_while_form = search (high·rules, high_suffixes, high_expect, high_tail, high_ended, b) depth 20

  high_condition : (o : BlockParseOutcome) → High h (do_condition blk d o)
  unfolding do_condition
  high_condition BlockParseOutcome.FoundTerminator = search (high·rules, high_expect, high_tail, high_ended, b) depth 20
  high_condition BlockParseOutcome.RecoveredImplicitEnd = high_pure false
  high_condition BlockParseOutcome.ReachedEof = high_pure true

  high_do_form : High (suc h) (parse_do_while blk d)
  unfolding parse_do_while
  high_do_form = search (high·rules, high_expect, high_tail, high_condition, b) depth 20

  high_repeat_form : High (suc h) (parse_repeat blk d)
  unfolding parse_repeat
  high_repeat_form = search (high·rules, high_suffixes, high_expect, high_tail, high_ended, b) depth 20

  high_control_flow : High (suc h) (parse_control_flow blk d)
  unfolding parse_control_flow
  high_control_flow = search (high·rules, high_if_form, high_do_form, high_while_form, high_repeat_form) depth 12

-- In a block at depth d, its own node aside.
abbrev room : ℕ → ℕ → ℕ
room lim d = suc (2 * (lim - d))

module _ (lim : ℕ) {again : Blocks} (h : (w : BlockOwner) (t : Terminators) (d : ℕ) → High (room lim d) (again w t d)) where
  -- One level down there are two nodes fewer.
  high_inside : (d : ℕ) → leb lim d ≡ false → (w : BlockOwner) (t : Terminators) → High (2 * (lim - d)) (in_node Block (again w t (suc d)))
  high_inside d e w t = high_le (high_node Block (h w t (suc d))) (omega (arith, nleb→lt lim d (subst (λ u. T (not u)) (sym e) tt)))

  high_limit : (d : ℕ) {g : P BlockParseOutcome} → (leb lim d ≡ false → High (room lim d) g) → High (room lim d) (pick (leb lim d) (reject_excessive_control_flow_nesting >> pure BlockParseOutcome.ReachedEof) g)
  high_limit d {g} G = c (leb lim d) refl
    where
      c : (u : Bool) → leb lim d ≡ u → High (room lim d) (pick u (reject_excessive_control_flow_nesting >> pure BlockParseOutcome.ReachedEof) g)
      c true e = search (high·rules, high_reject)
      c false e = G e

  high_round : (w : BlockOwner) (t : Terminators) (d : ℕ) → High (room lim d) (block_round again lim w t d)
  unfolding block_round
  high_round w t d =
      high_if eof (search high·rules)
      (high_if (at_terminator t) (high_pure _)
      (high_if (at regular_trivia) (high_bind high_take (λ a. h w t d))
      (high_if (at_stray_else t) (high_recover w _)
      (high_if at_top_level_form_starter_in_block (high_recover w _)
      (high_if (at (is DocComment)) (high_bind (high_error_token _) (λ a. h w t d))
      (high_if (at control_flow) (high_limit d (λ e. high_bind (high_control_flow _ _ (high_inside d e)) next))
      (high_if (at starts_instruction) (high_bind high_instruction (λ a. h w t d))
      (high_bind (high_error_token _) (λ a. h w t d)))))))))
    where
      next : (e : Bool) → High (room lim d) (pick e (pure BlockParseOutcome.ReachedEof) (again w t d))
      next e = high_pick e (high_pure BlockParseOutcome.ReachedEof) (h w t d)

high_blocks : (n lim : ℕ) (w : BlockOwner) (t : Terminators) (d : ℕ) → High (room lim d) (block_loop n lim w t d)
unfolding block_loop
high_blocks zero lim w t d = high_bind (high_err _) (λ a. high_pure _)
high_blocks (suc n) lim w t d = high_round lim (high_blocks n lim) w t d

high_block : (lim : ℕ) (w : BlockOwner) (t : Terminators) → High (suc (room lim 0)) (parse_block lim w t 0)
unfolding parse_block block_in
high_block lim w t = high_node Block (record { high = λ r. (high_blocks (suc (length r)) lim w t 0).high r })

-- ---- Items.
module _ {h : ℕ} where
  high_visibility : High (suc h) optional_visibility
  unfolding optional_visibility parse_visibility package_in_parens
  high_visibility = search (high·rules, high_while, high_expect) depth 12

  high_attributes : High (suc h) (loop attribute_round)
  unfolding attribute_round parse_attribute
  high_attributes = high_loop (search (high·rules, high_while, high_expect, high_name, high_group) depth 12)

  high_signature : High (suc h) parse_signature
  unfolding parse_signature parse_results
  high_signature = search (high·rules, high_while, high_group, high_result) depth 12

  high_namespace : High (suc (suc h)) parse_namespace
  unfolding parse_namespace
  high_namespace = search (high·rules, high_while, high_expect, high_path, high_tail) depth 12

  high_submodule : High (suc (suc h)) parse_submodule
  unfolding parse_submodule
  high_submodule = search (high·rules, high_visibility, high_while, high_expect, high_name, high_tail) depth 12

  high_constant : High (suc (suc h)) parse_constant
  unfolding parse_constant
  high_constant = search (high·rules, high_visibility, high_while, high_expect, high_name, high_expr, high_tail) depth 12

  high_type : High (suc (suc h)) parse_type_decl
  unfolding parse_type_decl type_name_and_body
  high_type = search (high·rules, high_visibility, high_while, high_name, high_type_body) depth 12

  high_advice_map : High (suc (suc h)) parse_advice_map
  unfolding parse_advice_map
  high_advice_map = search (high·rules, high_while, high_expect, high_name, high_group, high_expr, high_tail) depth 12

high_procedure : (lim : ℕ) → High (suc (suc (room lim 0))) (parse_procedure (parse_block lim))
unfolding parse_procedure procedure_body
high_procedure lim = search (high·rules, high_attributes, high_visibility, high_while, high_expect, high_name, high_signature, high_tail, high_closing, high_block) depth 20

high_begin : (lim : ℕ) → High (suc (suc (room lim 0))) (parse_begin_block (parse_block lim))
unfolding parse_begin_block
high_begin lim = search (high·rules, high_expect, high_tail, high_closing, high_block) depth 12

high_item : (lim : ℕ) → High (suc (suc (room lim 0))) (parse_source_item (parse_block lim))
unfolding parse_source_item
high_item lim = search (high·rules, high_error_token, high_namespace, high_submodule, high_procedure, high_begin, high_constant, high_type, high_advice_map) depth 20

high_items : (n lim : ℕ) → High (suc (suc (room lim 0))) (items n lim)
unfolding items
high_items zero lim = high_bind (high_err _) (λ a. high_pure false)
high_items (suc n) lim = high_if eof (high_pure true) (high_bind (high_item lim) (λ a. high_items n lim))

pub deep : (lim : ℕ) (a : List Sym) → height (node SourceFile (parse lim a) nil) ≤ 2 * lim + 4
unfolding parse items_in
deep lim a = omega (arith, (high_items (suc (length a)) lim).high a)
