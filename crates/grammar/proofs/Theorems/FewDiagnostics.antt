-- A file of T tokens has at most 2 * T diagnostics. `@$` over and over reaches it.
-- Assumes nothing.
use Rattle.std.specs.Prelude.{ℕ, zero, suc, ◌+◌, ◌*◌, ◌≤◌, ◌<◌, ◌≡◌, refl, Bool, true, false, cond, List, [], ◌∷◌, length}
use Rattle.std.proofs.Common.{length-append, arith, lit≤}
use Rattle.lexer.specs.Syntax.{DocComment}
use Rattle.grammar.specs.Words.{Sym, is, ADV_MAP, BEGIN, CONST, ENUM, MOD, NAMESPACE, TYPE}
use Rattle.grammar.specs.Look.{regular_trivia, at, eof}
use Rattle.grammar.specs.Run.{Forest, nil, leaf, node, say, leaves, P, pure, peek, pick, ◌>>=◌, when◌then◌else◌}
use Rattle.grammar.specs.Laws.Here.{both_branches}
use Rattle.grammar.specs.Block.{BlockOwner, Terminators, Blocks, parse_block}
use Rattle.grammar.specs.Item.{at_declaration, at_procedure, parse_source_item, items, items_in, parse}
use Rattle.grammar.specs.Out.{dg, diags}
use Rattle.grammar.specs.Laws.Stops.{Stops, stops_block}
use Rattle.grammar.specs.Laws.Live.{anywhere, some}
use Rattle.grammar.proofs.Laws.LiveItem.{declaration_key}
use Rattle.grammar.proofs.Laws.Cost.{weigh, weigh_app, cost_weak, cost_any, cost_le, cost_node, cost_take_any}
use Rattle.grammar.proofs.Laws.DiagCost.{diags_price, Cost2, good_token, cost_error_token, cost_begin, cost_block}
use Rattle.grammar.proofs.Laws.DiagItem.{cost_namespace, cost_submodule, cost_type, cost_advice_map, cost_procedure}
use Rattle.grammar.proofs.Laws.DiagConstant.{credit, Owes, owes_cost, owes_constant}
use Rattle.grammar.proofs.Theorems.Rounds.{round_takes}

owes_case : {q : List Sym → Bool} {c e : ℕ} {A : Type 0} (t : List Sym → Bool) {f g : P A} → Owes t c e f → Owes q c e g → Owes q c e (when t then f else g)
unfolding ◌>>=◌ peek
owes_case {c} {e} t F G = record { owes = λ r k. both_branches (λ x. weigh diags_price x.out + 2 * length x.rest + e ≤ 2 * length r + c + credit x.rest) (t r) _ _ (F.owes r) (λ i. G.owes r k) }

-- A doc comment pays for one diagnostic before it.
split : {f g : P Bool} → Cost2 (at (is DocComment)) 0 1 f → Owes some 0 0 g → (r : List Sym) → some r ≡ true →
    weigh diags_price ((when at (is DocComment) then f else g) r).out + 2 * length ((when at (is DocComment) then f else g) r).rest + credit r ≤ 2 * length r + credit ((when at (is DocComment) then f else g) r).rest
unfolding ◌>>=◌ peek
split {f} {g} F G r e = c (at (is DocComment) r) refl
  where
    c : (u : Bool) → at (is DocComment) r ≡ u → weigh diags_price (pick u f g r).out + 2 * length (pick u f g r).rest + cond u 1 0 ≤ 2 * length r + credit (pick u f g r).rest
    c true i = omega (arith, F.cost r i)
    c false i = omega (arith, G.owes r e)

module _ {blk : Blocks} (h : (w : BlockOwner) (t : Terminators) (d : ℕ) → Cost2 anywhere 1 0 (blk w t d)) (s : (w : BlockOwner) (t : Terminators) (d : ℕ) → Stops t (blk w t d)) where
  item_owes : (r : List Sym) → some r ≡ true → weigh diags_price (parse_source_item blk r).out + 2 * length (parse_source_item blk r).rest + credit r ≤ 2 * length r + credit (parse_source_item blk r).rest
  unfolding parse_source_item
  item_owes = split (cost_le (cost_node _ (good_token (is DocComment) refl)) (lit≤ tt))
      (owes_case (at regular_trivia) (owes_cost (cost_any cost_take_any (lit≤ tt)))
      (owes_case (at (is NAMESPACE)) (owes_cost cost_namespace)
      (owes_case (at_declaration (MOD ∷ [])) (owes_cost (cost_weak cost_submodule (declaration_key _) (lit≤ tt)))
      (owes_case at_procedure (owes_cost (cost_procedure h s))
      (owes_case (at (is BEGIN)) (owes_cost (cost_begin h s))
      (owes_case (at_declaration (CONST ∷ [])) owes_constant
      (owes_case (at_declaration (TYPE ∷ ENUM ∷ [])) (owes_cost (cost_weak cost_type (declaration_key _) (lit≤ tt)))
      (owes_case (at (is ADV_MAP)) (owes_cost cost_advice_map)
      (owes_cost (cost_error_token _))))))))))

items_owe : (n limit : ℕ) (r : List Sym) → length r < n → weigh diags_price (items n limit r).out + credit r ≤ 2 * length r
unfolding items ◌>>=◌ peek eof pure some at
items_owe zero limit r h = absurd (omega arith)
items_owe (suc n) limit [] h = omega arith
items_owe (suc n) limit (x ∷ r) h =
    let y = parse_source_item (parse_block limit) (x ∷ r) in
    omega (arith, item_owes (cost_block limit) (stops_block limit) (x ∷ r) refl, items_owe n limit y.rest (omega (arith, round_takes limit x r)), weigh_app diags_price y.out (items n limit y.rest).out)

weigh_dg : (i : ℕ) (x : Forest) → length (dg i x) ≡ weigh diags_price x
weigh_dg i nil = refl
weigh_dg i (leaf s x) = grind (arith, weigh_dg (suc i) x)
weigh_dg i (node k c x) = omega (arith, length-append (dg i c) (dg (i + length (leaves c)) x), weigh_dg i c, weigh_dg (i + length (leaves c)) x)
weigh_dg i (say m x) = omega (arith, weigh_dg i x)

pub few_diagnostics : (limit : ℕ) (a : List Sym) → length (diags limit a) ≤ 2 * length a
unfolding diags parse items_in
few_diagnostics limit a = omega (arith, weigh_dg 0 (parse limit a), items_owe (suc (length a)) limit a (omega arith))
