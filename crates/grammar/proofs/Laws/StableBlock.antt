-- Blocks and control forms are Good: with more fuel, and at the same or a higher limit.
-- Assumes nothing.
use Prim.Native.Nat.{ℕ, zero, suc, ◌≤◌}
use Rattle.std.specs.Prelude.{◌≡◌, refl, Bool, List, ◌++◌, leb, length}
use Rattle.std.proofs.lemmas.Bool.{leb-false, leb-true}
use Rattle.std.proofs.Common.{sym, ◌∙◌, true≢false, arith}
use Rattle.std.proofs.Math.Bool.{true, false}
use Rattle.std.proofs.Math.ListN.{length-append}
use Rattle.lexer.specs.Syntax.{RParen}
use Rattle.grammar.specs.Words.{Sym, is}
use Rattle.grammar.specs.Look.{at, next_relevant_top_level_token}
use Rattle.grammar.specs.Run.{P, pure, in_node, pick, ◌>>=◌, ◌>>◌, err, m_never}
use Rattle.grammar.specs.Block.{BlockOwner, Terminators, BlockRecoveryBoundary, BlockParseOutcome, Blocks, suffix_operand, suffix_round, parse_structured_header_suffixes, all_round, reject_excessive_control_flow_nesting, closing, ended, parse_if, parse_while, do_condition, parse_do_while, parse_repeat, parse_control_flow, recover, block_round, block_loop, block_in, parse_block}
use Rattle.grammar.specs.Laws.Ahead.{Cond}
use Rattle.grammar.specs.Laws.Good.{Good, good_pure, good_node, good_pick, good_bind, good_scan, good_fuel, good_loop}
use Rattle.grammar.specs.Laws.Stable.{good·rules, good_while, good_expect, good_error_token, good_group, good_tail}
use Rattle.grammar.proofs.Laws.Stable.{test_starter, good_instruction}
use Rattle.grammar.specs.Laws.StableBlock.{m_depth}

test_all : {b : List Sym} (l : Bool) (r : List Sym) → Cond b r → all_round l (r ++ b) ≡ all_round l r
unfolding all_round
test_all l r c = refl

module _ {b : List Sym} {bad : ℕ → Bool} where
  good_operand : Good b bad suffix_operand suffix_operand
  unfolding suffix_operand
  good_operand = search (good·rules, good_group) depth 12

  pub good_suffixes : bad m_never ≡ true → Good b bad parse_structured_header_suffixes parse_structured_header_suffixes
  unfolding parse_structured_header_suffixes suffix_round
  good_suffixes fuel = good_loop fuel (search (good·rules, good_while, good_operand) depth 12)

  good_reject : Good b bad reject_excessive_control_flow_nesting reject_excessive_control_flow_nesting
  unfolding reject_excessive_control_flow_nesting
  good_reject = search (good·rules, good_scan b bad all_round test_all)

  pub good_closing : (w : BlockOwner) (o : BlockParseOutcome) → Good b bad (closing w o) (closing w o)
  unfolding closing
  good_closing w o = search (good·rules, good_expect)

  good_ended : (w : BlockOwner) (o : BlockParseOutcome) → Good b bad (ended w o) (ended w o)
  unfolding ended
  good_ended w o = search (good·rules, good_closing)

  good_recover : (w : BlockOwner) (x : BlockRecoveryBoundary) → Good b bad (recover w x) (recover w x)
  unfolding recover
  good_recover w x = search good·rules

  -- The cycle: over blocks that are Good, at any depth.
  module _ (fuel : bad m_never ≡ true) {blk blk' : Blocks} (h : (w : BlockOwner) (t : Terminators) (d : ℕ) → Good b bad (blk w t d) (blk' w t d)) where
    good_if_form : (d : ℕ) → Good b bad (parse_if blk d) (parse_if blk' d)
    unfolding parse_if
    good_if_form d = search (good·rules, good_expect, good_suffixes, good_tail, good_ended, h) depth 20

    good_while_form : (d : ℕ) → Good b bad (parse_while blk d) (parse_while blk' d)
    unfolding parse_while
    good_while_form d = search (good·rules, good_expect, good_suffixes, good_tail, good_ended, h) depth 20

    good_condition : (d : ℕ) (o : BlockParseOutcome) → Good b bad (do_condition blk d o) (do_condition blk' d o)
    unfolding do_condition
    good_condition d BlockParseOutcome.FoundTerminator = search (good·rules, good_expect, good_tail, good_ended, h) depth 20
    good_condition d BlockParseOutcome.RecoveredImplicitEnd = good_pure false
    good_condition d BlockParseOutcome.ReachedEof = good_pure true

    good_do_form : (d : ℕ) → Good b bad (parse_do_while blk d) (parse_do_while blk' d)
    unfolding parse_do_while
    good_do_form d = search (good·rules, good_expect, good_tail, good_condition, h) depth 20

    good_repeat_form : (d : ℕ) → Good b bad (parse_repeat blk d) (parse_repeat blk' d)
    unfolding parse_repeat
    good_repeat_form d = search (good·rules, good_expect, good_suffixes, good_tail, good_ended, h) depth 20

    good_control_flow : (d : ℕ) → Good b bad (parse_control_flow blk d) (parse_control_flow blk' d)
    unfolding parse_control_flow
    good_control_flow d = search (good·rules, good_if_form, good_do_form, good_while_form, good_repeat_form) depth 12

abbrev Rejects : P BlockParseOutcome
Rejects = reject_excessive_control_flow_nesting >> pure BlockParseOutcome.ReachedEof

-- Two runs: at one limit, or at a higher one in the second where the depth diagnostic is bad.
pub data Limits (bad : ℕ → Bool) (lim lim' : ℕ) : Type 0 where
  equal : lim ≡ lim' → Limits bad lim lim'
  higher : bad m_depth ≡ true → lim ≤ lim' → Limits bad lim lim'

leb_false : (lim lim' d : ℕ) → lim ≤ lim' → leb lim d ≡ false → leb lim' d ≡ true → ⊥
leb_false lim lim' d h e e' = omega (arith, h, leb-false lim d e, leb-true lim' d e')

module _ (b : List Sym) (side : at (is RParen) (next_relevant_top_level_token b) ≡ false) (bad : ℕ → Bool) (fuel : bad m_never ≡ true)
    (lim lim' : ℕ) (lims : Limits bad lim lim') where
  good_limit : (d : ℕ) {g g' : P BlockParseOutcome} → Good b bad g g' → Good b bad (pick (leb lim d) Rejects g) (pick (leb lim' d) Rejects g')
  unfolding reject_excessive_control_flow_nesting ◌>>=◌ in_node err
  good_limit d {g} {g'} G = at_limits lims
    where
      R : Good b bad Rejects Rejects
      R = good_bind good_reject (λ a. good_pure BlockParseOutcome.ReachedEof)

      cases : bad m_depth ≡ true → (u v : Bool) → (u ≡ false → v ≡ true → ⊥) → Good b bad (pick u Rejects g) (pick v Rejects g')
      cases e true true h = R
      cases e true false h = record { split = R.split; goes = λ r c k. absurd (true≢false (sym e ∙ k.0.0)) }
      cases e false true h = absurd (h refl refl)
      cases e false false h = G

      at_limits : Limits bad lim lim' → Good b bad (pick (leb lim d) Rejects g) (pick (leb lim' d) Rejects g')
      at_limits (equal e) = rw (← e) (good_pick (leb lim d) R G)
      at_limits (higher e h) = cases e (leb lim d) (leb lim' d) (leb_false lim lim' d h)

  pub good_round : {blk blk' : Blocks} → ((w : BlockOwner) (t : Terminators) (d : ℕ) → Good b bad (blk w t d) (blk' w t d)) → (w : BlockOwner) (t : Terminators) (d : ℕ) → Good b bad (block_round blk lim w t d) (block_round blk' lim' w t d)
  unfolding block_round
  good_round h w t d = search (good·rules, good_limit, good_error_token, good_recover, test_starter b side, good_instruction b side, good_control_flow, h) depth 40 fits 5000

  pub good_blocks : (n m : ℕ) → n ≤ m → (w : BlockOwner) (t : Terminators) (d : ℕ) → Good b bad (block_loop n lim w t d) (block_loop m lim' w t d)
  unfolding block_loop
  good_blocks zero m h w t d = good_fuel fuel BlockParseOutcome.ReachedEof
  good_blocks (suc n) zero h w t d = absurd (omega arith)
  good_blocks (suc n) (suc m) h w t d = good_round (good_blocks n m (omega arith)) w t d

  pub good_in : (w : BlockOwner) (t : Terminators) (d : ℕ) → Good b bad (block_in lim w t d) (block_in lim' w t d)
  unfolding block_in
  good_in w t d = record {
    split = λ r. (good_blocks (suc (length r)) (suc (length r)) (omega arith) w t d).split r;
    goes = λ r. (good_blocks (suc (length r)) (suc (length (r ++ b))) (omega (arith, length-append r b)) w t d).goes r;
  }

  pub good_block : (w : BlockOwner) (t : Terminators) (d : ℕ) → Good b bad (parse_block lim w t d) (parse_block lim' w t d)
  unfolding parse_block
  good_block w t d = good_node _ (good_in w t d)
