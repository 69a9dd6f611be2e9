-- Diagnostics of the items: each token pays for 2. What is left is a constant behind `pub` (DiagConstant).
-- Assumes nothing.
use Rattle.std.specs.Prelude.{ℕ, ◌+◌, ◌*◌, ◌≤◌, ◌≡◌, true, false, not, ◌||◌, List, [], ◌∷◌, length}
use Rattle.std.proofs.Math.Path.{refl}
use Rattle.std.proofs.Math.Bool.{Bool}
use Rattle.std.proofs.Common.{lit≤, arith}
use Rattle.lexer.specs.Syntax.{At, LParen}
use Rattle.grammar.specs.Words.{Sym, is, ADV_MAP, CONST, ENUM, MOD, NAMESPACE, PROC, PUB, TYPE}
use Rattle.grammar.specs.Look.{one_of, regular_trivia, at, next_relevant_top_level_token}
use Rattle.grammar.specs.Run.{P, pure, peek, pick, ◌>>=◌, ◌>>◌, take_token, loop}
use Rattle.grammar.specs.Message.{Message, ExpectedProc}
use Rattle.grammar.specs.Bump.{bump_while, expect_kind, expect_name}
use Rattle.grammar.specs.Line.{parse_type_body, parse_line_tail}
use Rattle.grammar.specs.Block.{BlockOwner, Terminators, Blocks}
use Rattle.grammar.specs.Item.{package_in_parens, parse_visibility, optional_visibility, parse_attribute, parse_results, parse_signature, parse_namespace, parse_submodule, attribute_round, procedure_body, parse_procedure, parse_constant, type_name_and_body, parse_type_decl, parse_advice_map, at_declaration, at_procedure}
use Rattle.grammar.specs.Laws.Here.{at_not_one, none, one_of_one}
use Rattle.grammar.specs.Laws.Stops.{Stops}
use Rattle.grammar.specs.Laws.Live.{anywhere}
use Rattle.grammar.proofs.Laws.LiveItem.{truly_attribute_round, after_attributes, opens, declaration_key, no_attributes}
use Rattle.grammar.proofs.Laws.DiagCost.{diags_price, Cost2, said, no_error, good_token, expects, expects_at, cost_name, cost_path, parens, cost_tail, cost_expr, cost_result, cost_key, cost_closed}
use Rattle.grammar.proofs.Laws.Cost.{constant_value, constant_equal, constant_name, cost_skip, weigh, cost_weak, cost_any, cost_le, cost_pure, cost_take_any, cost_pick, cost_bind, cost_then, cost_after, cost_nothing, cost_if, cost_case, cost_yes, cost_node, cost_scan, cost_while, rounds_zero, cost_loop_first, cost_ok, cost_declared, cost_trivia}

ruleset zero·rules = (cost_pure, cost_take_any, cost_pick, cost_if, cost_then, cost_while, cost_scan)

cost_package : Cost2 (λ r. at (is LParen) (next_relevant_top_level_token r)) 0 0 package_in_parens
unfolding package_in_parens
cost_package = cost_skip regular_trivia (is LParen) (λ a. cost_le (cost_bind (good_token (is LParen) refl) (λ a. cost_bind (expects _ _) (λ a. expects _ _))) (lit≤ tt))

pub cost_visibility : Cost2 (at (is PUB)) 0 2 parse_visibility
unfolding parse_visibility one_of
cost_visibility = cost_le (cost_node _ (cost_bind (expects_at PUB _ refl refl) (λ a. cost_case _ cost_package (cost_pure true)))) (lit≤ tt)

cost_optional : Cost2 anywhere 0 0 optional_visibility
unfolding optional_visibility
cost_optional = cost_case (at (is PUB)) (cost_le cost_visibility (lit≤ tt)) (cost_pure true)

cost_attribute : Cost2 (at (is At)) 0 1 parse_attribute
unfolding parse_attribute one_of
cost_attribute = cost_le (cost_node _ (cost_bind (expects_at At _ refl refl) (λ a. cost_then (cost_while _) (λ a. cost_after (cost_name _) (λ a. cost_then (cost_while _) (λ a. cost_case (at (is LParen)) (cost_le (parens _) (lit≤ tt)) (cost_pure true))))))) (lit≤ tt)

-- At `@`, and anywhere.
cost_attribute_round : Cost2 (at (is At)) 0 1 attribute_round
unfolding attribute_round none one_of
cost_attribute_round = cost_trivia (is At) refl _ (cost_yes (at (is At)) _ (cost_le (cost_bind cost_attribute (λ a. cost_pure true)) (lit≤ tt)))

cost_attribute_rounds : Cost2 anywhere 0 0 attribute_round
unfolding attribute_round
cost_attribute_rounds = cost_then (cost_while _) (λ a. cost_case (at (is At)) (cost_le (cost_bind cost_attribute (λ a. cost_pure true)) (lit≤ tt)) (cost_pure false))

cost_results : Cost2 anywhere 1 0 parse_results
unfolding parse_results
cost_results = cost_then (cost_while _) (λ a. cost_then cost_take_any (λ a. cost_then (cost_while _) (λ a. cost_case (at (is LParen)) (cost_le (parens _) (lit≤ tt)) cost_result)))

cost_signature : Cost2 (at (is LParen)) 0 0 parse_signature
unfolding parse_signature
cost_signature = cost_le (cost_node _ (cost_bind (parens _) (λ a. cost_if _ cost_results (cost_any (cost_pure true) (lit≤ tt))))) (lit≤ tt)

pub cost_namespace : Cost2 (at (is NAMESPACE)) 0 0 parse_namespace
unfolding parse_namespace one_of
cost_namespace = cost_key NAMESPACE refl refl _ _ (λ a. cost_then (cost_while _) (λ a. cost_any (cost_after (cost_path _) (λ a. cost_tail)) (lit≤ tt)))

-- A name and the end of the line.
cost_named : (m : Message) → Cost2 anywhere 1 0 (bump_while regular_trivia >> expect_name m >> parse_line_tail)
cost_named m = cost_then (cost_while _) (λ a. cost_after (cost_name _) (λ a. cost_tail))

pub cost_submodule : Cost2 (at (opens (MOD ∷ []))) 0 0 parse_submodule
unfolding parse_submodule one_of
cost_submodule = cost_le (cost_node _ (cost_declared (MOD ∷ []) {b = 2} {c = 0} {o = 0} cost_visibility (λ a. cost_any (cost_bind (expects _ _) (λ a. cost_named _)) (lit≤ tt))
    (cost_weak (cost_bind (expects_at MOD _ refl refl) (λ a. cost_named _)) (one_of_one MOD) (lit≤ tt)) (lit≤ tt))) (lit≤ tt)

pub cost_value : Cost2 anywhere 0 0 constant_value
cost_value = cost_then cost_expr (λ a. cost_tail)

pub cost_equal : Cost2 anywhere 1 0 constant_equal
cost_equal = cost_after (expects _ _) (λ a. cost_value)

pub cost_constant_name : Cost2 anywhere 2 0 constant_name
cost_constant_name = cost_then (cost_while _) (λ a. cost_any (cost_bind (cost_name _) (λ a. cost_equal)) (lit≤ tt))

-- At `const`: there is no visibility.
no_visibility : (r : List Sym) → at (one_of (CONST ∷ [])) r ≡ true → optional_visibility r ≡ pure true r
unfolding optional_visibility ◌>>=◌ peek pure one_of
no_visibility r e = rw (at_not_one (one_of (CONST ∷ [])) PUB refl r e)

pub cost_constant : Cost2 (at (one_of (CONST ∷ []))) 0 0 parse_constant
unfolding parse_constant one_of
cost_constant = cost_le (cost_node {c = 0} {e = 0} _ (cost_nothing _ true no_visibility (cost_weak (cost_bind (expects_at CONST _ refl refl) (λ a. cost_constant_name)) (one_of_one CONST) (lit≤ tt)))) (lit≤ tt)

cost_type_name : Cost2 anywhere 2 0 type_name_and_body
unfolding type_name_and_body parse_type_body
cost_type_name = cost_then (cost_while _) (λ a. cost_any (cost_bind (cost_name _) (λ a. cost_then (cost_while _) (λ a. cost_if _ (cost_any (cost_after (cost_node {c = 0} _ (cost_scan _ _)) (λ a. cost_pure true)) (lit≤ tt)) (said _)))) (lit≤ tt))

cost_type_key : Cost2 (at (one_of (TYPE ∷ ENUM ∷ []))) 0 0 (take_token >> type_name_and_body)
unfolding one_of
cost_type_key = cost_le (cost_bind (good_token (one_of (TYPE ∷ ENUM ∷ [])) refl) (λ a. cost_type_name)) (lit≤ tt)

pub cost_type : Cost2 (at (opens (TYPE ∷ ENUM ∷ []))) 0 0 parse_type_decl
unfolding parse_type_decl none one_of
cost_type = cost_le (cost_node _ (cost_declared (TYPE ∷ ENUM ∷ []) {b = 1} {c = 0} {o = 0} cost_visibility
    (λ a. cost_then (cost_while _) (λ a. cost_case (at (one_of (TYPE ∷ ENUM ∷ []))) (cost_le cost_type_key (lit≤ tt)) (said _)))
    (cost_trivia (one_of (TYPE ∷ ENUM ∷ [])) refl _ (cost_yes (at (one_of (TYPE ∷ ENUM ∷ []))) _ cost_type_key)) (lit≤ tt))) (lit≤ tt)

pub cost_advice_map : Cost2 (at (is ADV_MAP)) 0 0 parse_advice_map
unfolding parse_advice_map one_of
cost_advice_map = cost_key ADV_MAP refl refl _ _ (λ a. cost_then (cost_while _) (λ a. cost_any (cost_bind (cost_name _) (λ a. cost_then (cost_while _) (λ a. cost_then (cost_case (at (is LParen)) (cost_le (parens _) (lit≤ tt)) (cost_pure true)) (λ a. cost_after (expects _ _) (λ a. cost_value))))) (lit≤ tt)))

module _ {blk : Blocks} (h : (w : BlockOwner) (t : Terminators) (d : ℕ) → Cost2 anywhere 1 0 (blk w t d)) (s : (w : BlockOwner) (t : Terminators) (d : ℕ) → Stops t (blk w t d)) where
  cost_body : Cost2 anywhere 2 0 (procedure_body blk)
  unfolding procedure_body
  cost_body = cost_then (cost_while _) (λ a. cost_any (cost_bind (cost_name _) (λ a. cost_then (cost_while _) (λ a. cost_then (cost_case (at (is LParen)) cost_signature (cost_pure true)) (λ a. cost_then cost_tail (λ a. cost_closed h s BlockOwner.Procedure 0))))) (lit≤ tt))

  cost_proc : Cost2 anywhere 1 0 (expect_kind PROC (Message.Plain ExpectedProc) >>= λ declared. pick (not declared) (pure true) (procedure_body blk))
  cost_proc = cost_ok PROC _ 2 (no_error (is PROC) refl) (cost_pure true) cost_body (lit≤ tt) (lit≤ tt)

  cost_after_attributes : Cost2 anywhere 1 0 (after_attributes blk)
  cost_after_attributes = cost_then (cost_while _) (λ a. cost_then cost_optional (λ a. cost_then (cost_while _) (λ a. cost_proc)))

  cost_at_proc : Cost2 (at (one_of (PROC ∷ []))) 0 0 (bump_while regular_trivia >> expect_kind PROC (Message.Plain ExpectedProc) >>= λ declared. pick (not declared) (pure true) (procedure_body blk))
  unfolding none one_of
  cost_at_proc = cost_trivia (one_of (PROC ∷ [])) refl _ (cost_weak (cost_bind (expects_at PROC _ refl refl) (λ ok. cost_pick (not ok) (cost_any (cost_pure true) (lit≤ tt)) cost_body)) (one_of_one PROC) (lit≤ tt))

  cost_from_key : Cost2 (at (opens (PROC ∷ []))) 0 0 (after_attributes blk)
  unfolding none one_of
  cost_from_key = cost_trivia (opens (PROC ∷ [])) refl _ (cost_declared (PROC ∷ []) cost_visibility (λ a. cost_then (cost_while _) (λ a. cost_proc)) cost_at_proc (lit≤ tt))

  pub cost_procedure : Cost2 at_procedure 0 0 (parse_procedure blk)
  unfolding parse_procedure at_procedure
  cost_procedure = cost_le (cost_node _ (record { cost = λ r k. d (at (is At) r) r refl k })) (lit≤ tt)
    where
      X : P Bool
      X = loop attribute_round >> after_attributes blk

      d : (u : Bool) (r : List Sym) → at (is At) r ≡ u → (u || at_declaration (PROC ∷ []) r) ≡ true → weigh diags_price (X r).out + 2 * length (X r).rest + 0 ≤ 2 * length r + 0
      d true r i k = omega (arith, (cost_bind (cost_loop_first (rounds_zero cost_attribute_rounds) truly_attribute_round cost_attribute_round) (λ a. cost_after_attributes)).cost r i)
      d false r i k = (cost_nothing (λ a. after_attributes blk) false no_attributes cost_from_key).cost r (declaration_key (PROC ∷ []) r k)
