-- Blocks and control forms are Live, and take their first token.
-- Assumes nothing.
use Rattle.std.specs.Prelude.{ℕ, zero, suc, ◌≤◌, ◌<◌, ◌≡◌, Bool, true, false, not, ◌&&◌, leb}
use Rattle.std.proofs.Math.Path.{refl}
use mathlib.Core.List.{List, [], ◌∷◌}
use Rattle.std.proofs.Math.ListN.{length}
use Rattle.std.proofs.Common.{arith}
use Rattle.lexer.specs.Syntax.{DocComment}
use Rattle.grammar.specs.Words.{Sym, is, DO, IF, REPEAT, WHILE}
use Rattle.grammar.specs.Look.{one_of, regular_trivia, control_flow, starts_instruction, at, at_terminator, at_stray_else, at_bare_while, at_top_level_form_starter_in_block}
use Rattle.grammar.specs.Run.{Block, P, pure, in_node, pick, ◌>>=◌, err}
use Rattle.grammar.specs.Message.{Message}
use Rattle.grammar.specs.Block.{BlockOwner, Terminators, BlockRecoveryBoundary, BlockParseOutcome, Blocks, all_round, reject_excessive_control_flow_nesting, closing, ended, parse_if, parse_while, do_condition, parse_do_while, parse_repeat, parse_control_flow, recover, block_round, block_loop, block_in, parse_block}
use Rattle.grammar.specs.Laws.Good.{Calm}
use Rattle.grammar.specs.Laws.Numbers.{no_message, quiet_plain}
use Rattle.std.proofs.lemmas.Bool.{and_parts}
use Rattle.grammar.specs.Laws.Stops.{Stops, stops_node, stops_loop}
use Rattle.grammar.specs.Laws.Live.{Live, Eats, anywhere, calm_join, live_pure, live_take, live_pick, live_node, live_weak, live_all, live_bind, live_if, live_case, live_cases, live_eof, live_eat, eats_weak, at_some, eats_cases, live_scan}
use Rattle.grammar.specs.Laws.LiveLine.{live_tail, live_expect, live_error_token, live_instruction, eats_at, live_suffixes, eats_error_token, eats_instruction, live_expect_at, live_eats_key, live·rules}
use Rattle.grammar.specs.Laws.Hush.{hush_all}

module _ {n : ℕ} where
  live_reject : Live anywhere n reject_excessive_control_flow_nesting
  unfolding reject_excessive_control_flow_nesting
  live_reject = search (live·rules, live_scan all_round {n = n} hush_all)

  pub live_closing : (w : BlockOwner) (o : BlockParseOutcome) → Live anywhere n (closing w o)
  unfolding closing
  live_closing w o = search (live·rules, live_expect)

  live_ended : (w : BlockOwner) (o : BlockParseOutcome) → Live anywhere n (ended w o)
  unfolding ended
  live_ended w o = search (live·rules, live_closing)

  live_recover : (w : BlockOwner) (x : BlockRecoveryBoundary) → Live anywhere n (recover w x)
  unfolding recover
  live_recover w x = search live·rules

  -- What comes behind a block knows how the block ended.
  live_outcome : {t : Terminators} {q : List Sym → Bool} {B : Type 0} {f : P BlockParseOutcome} (g : BlockParseOutcome → P B) → Live q n f → Stops t f →
      Live (at_terminator t) n (g BlockParseOutcome.FoundTerminator) → Live anywhere n (g BlockParseOutcome.RecoveredImplicitEnd) → Live anywhere n (g BlockParseOutcome.ReachedEof) → Live q n (f >>= g)
  unfolding ◌>>=◌
  live_outcome {t} {q} {B} {f} g F S G R E = record {
    calm = λ r e h. calm_join no_message (f r).out (g (f r).val (f r).rest).out (F.calm r e h) (c (f r).val (f r).rest (S.stops r) (omega (arith, F.less r)));
    less = λ r. omega (arith, F.less r, l (f r).val (f r).rest);
  }
    where
      c : (o : BlockParseOutcome) (l : List Sym) → (o ≡ BlockParseOutcome.FoundTerminator → at_terminator t l ≡ true) → length l < n → Calm no_message (g o l).out
      c BlockParseOutcome.FoundTerminator l s h = G.calm l (s refl) h
      c BlockParseOutcome.RecoveredImplicitEnd l s h = R.calm l refl h
      c BlockParseOutcome.ReachedEof l s h = E.calm l refl h

      l : (o : BlockParseOutcome) (r : List Sym) → length (g o r).rest ≤ length r
      l BlockParseOutcome.FoundTerminator r = G.less r
      l BlockParseOutcome.RecoveredImplicitEnd r = R.less r
      l BlockParseOutcome.ReachedEof r = E.less r

pub bare_while : (r : List Sym) → at_terminator Terminators.While r ≡ true → at (is WHILE) r ≡ true
unfolding at_terminator at_bare_while
bare_while r e = (and_parts (at (is WHILE) r) _ e).0

-- The last of the four forms.
pub repeat_left : (r : List Sym) → (((at control_flow r && not (at (is IF) r)) && not (at (is DO) r)) && not (at (is WHILE) r)) ≡ true → at (is REPEAT) r ≡ true
unfolding at one_of
repeat_left [] e = e
repeat_left (s ∷ r) e = grind (arith, e)

module _ {n : ℕ} {blk : Blocks} (h : (w : BlockOwner) (t : Terminators) (d : ℕ) → Live anywhere n (blk w t d)) (s : (w : BlockOwner) (t : Terminators) (d : ℕ) → Stops t (blk w t d)) where
  live_if_form : (d : ℕ) → Live (at (is IF)) (suc n) (parse_if blk d) × Eats (at (is IF)) (parse_if blk d)
  unfolding parse_if one_of
  live_if_form d = live_eats_key IF refl _ _ (λ a. search (live·rules, live_suffixes, live_ended, h) depth 20)

  live_while_form : (d : ℕ) → Live (at (is WHILE)) (suc n) (parse_while blk d) × Eats (at (is WHILE)) (parse_while blk d)
  unfolding parse_while one_of
  live_while_form d = live_eats_key WHILE refl _ _ (λ a. search (live·rules, live_suffixes, live_ended, h) depth 20)

  live_repeat_form : (d : ℕ) → Live (at (is REPEAT)) (suc n) (parse_repeat blk d) × Eats (at (is REPEAT)) (parse_repeat blk d)
  unfolding parse_repeat one_of
  live_repeat_form d = live_eats_key REPEAT refl _ _ (λ a. search (live·rules, live_suffixes, live_ended, h) depth 20)

  -- The body's closer is a `while`, which expect takes.
  live_condition : (d : ℕ) → Live (at_terminator Terminators.While) n (do_condition blk d BlockParseOutcome.FoundTerminator)
  unfolding do_condition one_of
  live_condition d = live_bind (live_weak bare_while (live_expect_at WHILE refl Message.Unreached)) (λ a. search (live·rules, live_ended, h) depth 20)

  live_do_form : (d : ℕ) → Live (at (is DO)) (suc n) (parse_do_while blk d) × Eats (at (is DO)) (parse_do_while blk d)
  unfolding parse_do_while one_of do_condition
  live_do_form d = live_eats_key DO refl _ _ (λ a. live_bind live_tail (λ a. live_outcome (do_condition blk d) (h BlockOwner.DoWhileBody Terminators.While d) (s BlockOwner.DoWhileBody Terminators.While d) (live_condition d) (live_pure false) (live_pure true)))

  live_control_flow : (d : ℕ) → Live (at control_flow) (suc n) (parse_control_flow blk d)
  unfolding parse_control_flow
  live_control_flow d =
      live_cases (at (is IF)) (live_if_form d).0
      (live_cases (at (is DO)) (live_do_form d).0
      (live_cases (at (is WHILE)) (live_while_form d).0
      (live_weak repeat_left (live_repeat_form d).0)))

  eats_control_flow : (d : ℕ) → Eats (at control_flow) (parse_control_flow blk d)
  unfolding parse_control_flow
  eats_control_flow d =
      eats_cases (at (is IF)) (live_if_form d).1
      (eats_cases (at (is DO)) (live_do_form d).1
      (eats_cases (at (is WHILE)) (live_while_form d).1
      (eats_weak repeat_left (live_repeat_form d).1)))

module _ {n : ℕ} {again : Blocks} (h : (w : BlockOwner) (t : Terminators) (d : ℕ) → Live anywhere n (again w t d)) (s : (w : BlockOwner) (t : Terminators) (d : ℕ) → Stops t (again w t d)) where
  live_round : (lim : ℕ) (w : BlockOwner) (t : Terminators) (d : ℕ) → Live anywhere (suc n) (block_round again lim w t d)
  unfolding block_round
  live_round lim w t d =
      live_eof (search live·rules)
      (live_if (at_terminator t) (live_all (live_pure _))
      (live_case (at regular_trivia) (live_eat (live_all live_take) (eats_at regular_trivia) (λ a. h w t d))
      (live_if (at_stray_else t) (live_all (live_recover w _))
      (live_if at_top_level_form_starter_in_block (live_all (live_recover w _))
      (live_case (at (is DocComment)) (live_eat (live_all (live_error_token _ (quiet_plain _))) (eats_weak (at_some (is DocComment)) (eats_error_token _)) (λ a. h w t d))
      (live_case (at control_flow) (live_pick (leb lim d) (live_all (search (live·rules, live_reject))) (live_eat (live_control_flow inside stop _) (eats_control_flow inside stop _) next))
      (live_case (at starts_instruction) (live_eat (live_all live_instruction) eats_instruction (λ a. h w t d))
      (live_eat (live_all (live_error_token _ (quiet_plain _))) (eats_error_token _) (λ a. h w t d)))))))))
    where
      inside : (w : BlockOwner) (t : Terminators) (d : ℕ) → Live anywhere n (in_node Block (again w t d))
      inside w t d = live_node Block (h w t d)

      stop : (w : BlockOwner) (t : Terminators) (d : ℕ) → Stops t (in_node Block (again w t d))
      stop w t d = stops_node Block (s w t d)

      next : (e : Bool) → Live anywhere n (pick e (pure BlockParseOutcome.ReachedEof) (again w t d))
      next e = live_pick e (live_pure _) (h w t d)

pub live_blocks : (n lim : ℕ) (w : BlockOwner) (t : Terminators) (d : ℕ) → Live anywhere n (block_loop n lim w t d)
unfolding block_loop ◌>>=◌ err pure
live_blocks zero lim w t d = record { calm = λ r e h. absurd (omega arith); less = λ r. omega arith }
live_blocks (suc n) lim w t d = live_round (live_blocks n lim) (stops_loop n lim) lim w t d

pub live_in : {n : ℕ} (lim : ℕ) (w : BlockOwner) (t : Terminators) (d : ℕ) → Live anywhere n (block_in lim w t d)
unfolding block_in
live_in lim w t d = record { calm = λ r e h. (live_blocks (suc (length r)) lim w t d).calm r refl (omega arith); less = λ r. (live_blocks (suc (length r)) lim w t d).less r }

pub live_block : {n : ℕ} (lim : ℕ) (w : BlockOwner) (t : Terminators) (d : ℕ) → Live anywhere n (parse_block lim w t d)
unfolding parse_block
live_block lim w t d = live_node Block (live_in lim w t d)
