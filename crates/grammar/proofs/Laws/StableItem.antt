-- Items are Good, and the item loop with more fuel.
-- Assumes nothing.
use Prim.Native.Nat.{ℕ, zero, suc, ◌≤◌}
use Rattle.std.specs.Prelude.{◌≡◌, Bool, true, List, [], ◌∷◌, ◌++◌}
use Rattle.std.proofs.Math.Path.{ap₂}
use Rattle.std.proofs.Math.Bool.{false, ◌||◌}
use Rattle.std.proofs.Common.{arith}
use Rattle.lexer.specs.Syntax.{At, RParen}
use Rattle.grammar.specs.Words.{Sym, is, PROC}
use Rattle.grammar.specs.Look.{one_of, at, eof, next_relevant_top_level_token}
use Rattle.grammar.specs.Run.{m_never, loop}
use Rattle.grammar.specs.Block.{BlockOwner, Terminators, Blocks, parse_block}
use Rattle.grammar.specs.Item.{package_in_parens, parse_visibility, optional_visibility, parse_attribute, parse_results, parse_signature, parse_namespace, parse_submodule, attribute_round, procedure_body, parse_procedure, parse_begin_block, parse_constant, type_name_and_body, parse_type_decl, parse_advice_map, at_declaration, at_procedure, parse_source_item, items}
use Rattle.grammar.specs.Laws.Ahead.{Cond}
use Rattle.grammar.specs.Laws.Good.{Good, good_pure, good_bind, good_if, good_fuel, good_loop}
use Rattle.grammar.specs.Laws.Stable.{test_at, test_eof, good·rules, good_while, good_expect, good_name, good_error_token, good_path, good_group, good_tail, good_result}
use Rattle.grammar.proofs.Laws.Stable.{test_prefixed, good_expr, good_type_body}
use Rattle.grammar.proofs.Laws.StableBlock.{good_closing, Limits, good_block}

module _ {b : List Sym} {bad : ℕ → Bool} where
  good_package : Good b bad package_in_parens package_in_parens
  unfolding package_in_parens
  good_package = search (good·rules, good_while, good_expect) depth 9

  pub good_visibility : Good b bad optional_visibility optional_visibility
  unfolding optional_visibility parse_visibility
  good_visibility = search (good·rules, good_expect, good_package) depth 9

  good_attribute : Good b bad parse_attribute parse_attribute
  unfolding parse_attribute
  good_attribute = search (good·rules, good_while, good_expect, good_name, good_group) depth 12

  pub good_attributes : bad m_never ≡ true → Good b bad (loop attribute_round) (loop attribute_round)
  unfolding attribute_round
  good_attributes fuel = good_loop fuel (search (good·rules, good_while, good_attribute) depth 9)

  good_results : Good b bad parse_results parse_results
  unfolding parse_results
  good_results = search (good·rules, good_while, good_group, good_result) depth 9

  pub good_signature : Good b bad parse_signature parse_signature
  unfolding parse_signature
  good_signature = search (good·rules, good_group, good_results) depth 9

  pub good_namespace : bad m_never ≡ true → Good b bad parse_namespace parse_namespace
  unfolding parse_namespace
  good_namespace fuel = search (good·rules, good_expect, good_while, good_path, good_tail) depth 9

  pub good_submodule : Good b bad parse_submodule parse_submodule
  unfolding parse_submodule
  good_submodule = search (good·rules, good_visibility, good_expect, good_while, good_name, good_tail) depth 9

  module _ (fuel : bad m_never ≡ true) {blk blk' : Blocks} (h : (w : BlockOwner) (t : Terminators) (d : ℕ) → Good b bad (blk w t d) (blk' w t d)) where
    good_begin : Good b bad (parse_begin_block blk) (parse_begin_block blk')
    unfolding parse_begin_block
    good_begin = search (good·rules, good_expect, good_tail, good_closing, h) depth 9

    good_body : Good b bad (procedure_body blk) (procedure_body blk')
    unfolding procedure_body
    good_body = search (good·rules, good_while, good_name, good_signature, good_tail, good_closing, h) depth 12

    good_procedure : Good b bad (parse_procedure blk) (parse_procedure blk')
    unfolding parse_procedure
    good_procedure = search (good·rules, good_attributes, good_while, good_visibility, good_expect, good_body) depth 12

module _ (b : List Sym) (side : at (is RParen) (next_relevant_top_level_token b) ≡ false) where
  pub test_declaration : (ks : List Sym) (r : List Sym) → Cond b r → at_declaration ks (r ++ b) ≡ at_declaration ks r
  unfolding at_declaration
  test_declaration ks r c = ap₂ ◌||◌ (test_at (one_of ks) r c) (test_prefixed b side ks r c)

  pub test_procedure : (r : List Sym) → Cond b r → at_procedure (r ++ b) ≡ at_procedure r
  unfolding at_procedure
  test_procedure r c = ap₂ ◌||◌ (test_at (is At) r c) (test_declaration (PROC ∷ []) r c)

  module _ {bad : ℕ → Bool} where
    pub good_constant : Good b bad parse_constant parse_constant
    unfolding parse_constant
    good_constant = search (good·rules, good_visibility, good_expect, good_while, good_name, good_expr b side, good_tail) depth 12

    good_type_name : Good b bad type_name_and_body type_name_and_body
    unfolding type_name_and_body
    good_type_name = search (good·rules, good_while, good_name, good_type_body b side) depth 12

    pub good_type : Good b bad parse_type_decl parse_type_decl
    unfolding parse_type_decl
    good_type = search (good·rules, good_visibility, good_while, good_type_name) depth 12

    pub good_advice_map : Good b bad parse_advice_map parse_advice_map
    unfolding parse_advice_map
    good_advice_map = search (good·rules, good_expect, good_while, good_name, good_group, good_expr b side, good_tail) depth 12

  module _ (bad : ℕ → Bool) (fuel : bad m_never ≡ true) (lim lim' : ℕ) (lims : Limits bad lim lim') where
    pub good_item : Good b bad (parse_source_item (parse_block lim)) (parse_source_item (parse_block lim'))
    unfolding parse_source_item
    good_item = search (good·rules, good_error_token, test_declaration, test_procedure, good_namespace, good_submodule, good_procedure, good_begin, good_constant, good_type, good_advice_map, good_block b side bad fuel lim lim' lims) depth 30

    pub good_items : (n m : ℕ) → n ≤ m → Good b bad (items n lim) (items m lim')
    unfolding items
    good_items zero m h = good_fuel fuel false
    good_items (suc n) zero h = absurd (omega arith)
    good_items (suc n) (suc m) h = good_if eof test_eof (good_pure true) (good_bind good_item (λ a. good_items n m (omega arith)))
