-- Items: behind one that the file ended in there is none.
-- Assumes nothing.
use Rattle.std.specs.Prelude.{ℕ, zero, suc, ◌<◌, ◌≡◌, refl, Bool, true, not, List, [], ◌∷◌, length}
use Rattle.std.proofs.Common.{◌∙◌, ap, arith}
use Rattle.lexer.specs.Syntax.{DocComment, LParen}
use Rattle.grammar.specs.Words.{Sym, is, ADV_MAP, BEGIN, CONST, ENUM, MOD, NAMESPACE, TYPE}
use Rattle.grammar.specs.Look.{regular_trivia, at, eof}
use Rattle.grammar.specs.Run.{BeginBlock, Procedure, ◌<>◌, Res, pure, peek, ◌>>=◌}
use Rattle.grammar.specs.Message.{number}
use Rattle.grammar.specs.Block.{BlockOwner, Terminators, Blocks, parse_block}
use Rattle.grammar.specs.Item.{procedure_body, parse_procedure, parse_begin_block, at_declaration, at_procedure, parse_source_item, items}
use Rattle.grammar.specs.Endings.{Unclosed}
use Rattle.grammar.specs.Laws.Stops.{Stops, stops_block}
use Rattle.grammar.specs.Laws.Live.{some}
use Rattle.grammar.proofs.Laws.LiveBlock.{live_block}
use Rattle.grammar.proofs.Laws.LiveItem.{eats_item}
use Rattle.grammar.specs.Laws.Tame.{tame_pure, tame_take, tame_node, tame_if, tame_while, tame_tail, tame_expect, tame_name, tame_error_token, tame_visibility, tame_attributes, tame_signature, tame_namespace, tame_submodule, tame_constant, tame_type, tame_advice_map}
use Rattle.grammar.specs.Laws.Finish.{Final, silent, met_end, Finishes, app_nil, final_after, finishes_tame, finishes_pick, finishes_if, finishes_after, finishes_closing}
use Rattle.grammar.proofs.Laws.FinishBlock.{LastBlock, EndsNode, form_node, finishes_block}

module _ {blk : Blocks} (h : (w : BlockOwner) (t : Terminators) (d : ℕ) → EndsNode w (blk w t d)) (s : (w : BlockOwner) (t : Terminators) (d : ℕ) → Stops t (blk w t d)) where
  begin_item : Finishes Unclosed true (parse_begin_block blk)
  unfolding parse_begin_block number
  begin_item = form_node BeginBlock (finishes_after (tame_expect _ _ refl) (λ a. finishes_after tame_tail (λ a. finishes_closing BlockOwner.Begin (h BlockOwner.Begin Terminators.End 0) (s BlockOwner.Begin Terminators.End 0))))

  body : Finishes (LastBlock Procedure) true (procedure_body blk)
  unfolding procedure_body number
  body = finishes_after (tame_while _) (λ a. finishes_after (tame_name _ refl) (λ a. finishes_after (tame_while _) (λ a. finishes_after (tame_if (at (is LParen)) tame_signature (tame_pure true)) (λ a.
      finishes_after tame_tail (λ a. finishes_closing BlockOwner.Procedure (h BlockOwner.Procedure Terminators.End 0) (s BlockOwner.Procedure Terminators.End 0))))))

  procedure_item : Finishes Unclosed true (parse_procedure blk)
  unfolding parse_procedure number
  procedure_item = form_node Procedure (finishes_after tame_attributes (λ a. finishes_after (tame_while _) (λ a. finishes_after tame_visibility (λ a. finishes_after (tame_while _) (λ a.
      finishes_after (tame_expect _ _ refl) (λ declared. finishes_pick (not declared) (finishes_tame (tame_pure true)) body))))))

  finishes_item : Finishes Unclosed true (parse_source_item blk)
  unfolding parse_source_item number
  finishes_item =
      finishes_if (at (is DocComment)) (finishes_tame (tame_node _ tame_take))
      (finishes_if (at regular_trivia) (finishes_tame tame_take)
      (finishes_if (at (is NAMESPACE)) (finishes_tame tame_namespace)
      (finishes_if (at_declaration (MOD ∷ [])) (finishes_tame tame_submodule)
      (finishes_if at_procedure procedure_item
      (finishes_if (at (is BEGIN)) begin_item
      (finishes_if (at_declaration (CONST ∷ [])) (finishes_tame tame_constant)
      (finishes_if (at_declaration (TYPE ∷ ENUM ∷ [])) (finishes_tame tame_type)
      (finishes_if (at (is ADV_MAP)) (finishes_tame tame_advice_map)
      (finishes_tame (tame_error_token _ refl))))))))))

items_nothing : (n lim : ℕ) → 0 < n → items n lim [] ≡ pure true []
unfolding items ◌>>=◌ peek eof pure
items_nothing zero lim h = absurd (omega arith)
items_nothing (suc n) lim h = refl

pub finishes_items : (n lim : ℕ) (r : List Sym) → length r < n → Final Unclosed true (items n lim r)
unfolding items ◌>>=◌ peek eof pure some
finishes_items zero lim r h = absurd (omega arith)
finishes_items (suc n) lim [] h = silent tt
finishes_items (suc n) lim (s ∷ r) h = c ((finishes_item (finishes_block lim) (stops_block lim)).finish (s ∷ r)) (finishes_items n lim x.rest less)
  where
    x : Res Bool
    x = parse_source_item (parse_block lim) (s ∷ r)

    less : length x.rest < n
    less = omega (arith, (eats_item {n = 0} (live_block lim)).eats (s ∷ r) refl)

    c : Final Unclosed true x → Final Unclosed true (items n lim x.rest) → Final Unclosed true (items (suc n) lim (s ∷ r))
    c (silent k) f = final_after x.out k f
    c (met_end y z k q e l v) f =
        let p : items n lim x.rest ≡ pure true [] = ap (items n lim) l ∙ items_nothing n lim (omega arith) in
        met_end y z k q (ap (λ (w : Res Bool). x.out <> w.out) p ∙ app_nil x.out ∙ e) (ap (λ (w : Res Bool). w.rest) p) (ap (λ (w : Res Bool). w.val) p)
