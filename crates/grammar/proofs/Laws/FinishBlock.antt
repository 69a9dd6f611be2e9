-- Blocks and control forms: where the file ends in one, its innermost block reports, and the forms around it do nothing more.
-- Assumes nothing.
use Rattle.std.specs.Prelude.{ℕ, zero, suc, ◌≡◌, Bool, true, false, leb, length}
use Rattle.std.proofs.Math.Path.{refl, sym}
use Rattle.std.proofs.Common.{◌∙◌, ap}
use Rattle.std.proofs.Math.Bool.{or-false}
use mathlib.Core.List.{List, [], ◌∷◌}
use Rattle.lexer.specs.Syntax.{DocComment}
use Rattle.grammar.specs.Words.{Sym, is, ELSE, END, DO, IF, WHILE}
use Rattle.grammar.specs.Look.{one_of, regular_trivia, control_flow, starts_instruction, at, eof, at_terminator, at_stray_else, at_top_level_form_starter_in_block}
use Rattle.grammar.specs.Run.{Kind, Block, IfOp, WhileOp, DoWhileOp, RepeatOp, Forest, nil, node, say, ◌<>◌, P, pure, peek, in_node, pick, ◌>>=◌, ◌>>◌, when◌then◌else◌, take_token, err, scan}
use Rattle.grammar.specs.Message.{Message, number, missing_end_number}
use Rattle.grammar.specs.Line.{parse_line_tail}
use Rattle.grammar.specs.Block.{BlockOwner, Terminators, BlockParseOutcome, Blocks, all_round, reject_excessive_control_flow_nesting, reached_eof, ended, parse_if, parse_while, do_condition, parse_do_while, parse_repeat, parse_control_flow, block_round, block_loop, block_in, parse_block}
use Rattle.grammar.specs.Endings.{ending, holder, Unclosed}
use Rattle.grammar.specs.Laws.Good.{Calm}
use Rattle.grammar.specs.Laws.Stops.{Stops, stops_node, stops_bind, stops_loop}
use Rattle.grammar.specs.Laws.Hush.{hush_all, scan_calm}
use Rattle.grammar.specs.Laws.Tame.{tame_pure, tame_take, tame_err, tame_bind, tame_tail, tame_expect, tame_error_token, tame_instruction, tame_suffixes, tame_recover}
use Rattle.grammar.specs.Laws.Finish.{Final, silent, met_end, Finishes, finishes_tame, finishes_pick, finishes_if, finishes_after, finishes_then, finishes_outcome, finishes_map, ended_calm, tame_recovered, finishes_ended}

-- What a block whose file ended puts out last: its report, or a tree that the file ended in.
pub data BlockFinish (w : BlockOwner) : Forest → Type 0 where
  own_report : BlockFinish w (say (missing_end_number w) nil)
  inner_tree : {z : Forest} → Unclosed z → BlockFinish w z

-- What the node k puts out last.
pub data LastBlock : Kind → Forest → Type 0 where
  of_block : (w : BlockOwner) (y z : Forest) → Calm ending y → BlockFinish w z → LastBlock (holder w) (node Block (y <> z) nil)

-- A block of w, and the Block node around it.
abbrev pub EndsBlock : BlockOwner → P BlockParseOutcome → Type 0
EndsBlock w f = Finishes (BlockFinish w) BlockParseOutcome.ReachedEof f

abbrev pub EndsNode : BlockOwner → P BlockParseOutcome → Type 0
EndsNode w f = Finishes (LastBlock (holder w)) BlockParseOutcome.ReachedEof f

block_node : (w : BlockOwner) {f : P BlockParseOutcome} → EndsBlock w f → EndsNode w (in_node Block f)
unfolding in_node
block_node w {f} F = record { finish = λ r. c r (F.finish r) }
  where
    c : (r : List Sym) → Final (BlockFinish w) BlockParseOutcome.ReachedEof (f r) → Final (LastBlock (holder w)) BlockParseOutcome.ReachedEof (in_node Block f r)
    c r (silent k) = silent (k, tt)
    c r (met_end y z k q e l v) = met_end nil (node Block (y <> z) nil) tt (of_block w y z k q) (ap (λ x. node Block x nil) e) l v

in_node_lem : (k : Kind) (x z : Forest) → Calm ending x → LastBlock k z → Unclosed (node k (x <> z) nil)
in_node_lem k x z c (of_block w y s d own_report) = Unclosed.reports w x y c d
in_node_lem k x z c (of_block w y s d (inner_tree u)) = Unclosed.in_last _ x _ c (Unclosed.in_last Block y s d u)

pub form_node : (k : Kind) {f : P Bool} → Finishes (LastBlock k) true f → Finishes Unclosed true (in_node k f)
unfolding in_node
form_node k {f} F = record { finish = λ r. c r (F.finish r) }
  where
    c : (r : List Sym) → Final (LastBlock k) true (f r) → Final Unclosed true (in_node k f r)
    c r (silent h) = silent (h, tt)
    c r (met_end y z h q e l v) = met_end nil (node k (y <> z) nil) tt (in_node_lem k y z h q) (ap (λ x. node k x nil) e) l v

module _ {blk : Blocks} (h : (w : BlockOwner) (t : Terminators) (d : ℕ) → EndsNode w (blk w t d)) (s : (w : BlockOwner) (t : Terminators) (d : ℕ) → Stops t (blk w t d)) where
  -- A form's last block.
  last_of : (w : BlockOwner) (d : ℕ) → Finishes (LastBlock (holder w)) true (parse_line_tail >> blk w Terminators.End d >>= ended w)
  last_of w d = finishes_after tame_tail (λ a. finishes_ended w (h w Terminators.End d) (s w Terminators.End d))

  while_form : (d : ℕ) → Finishes Unclosed true (parse_while blk d)
  unfolding parse_while number
  while_form d = form_node WhileOp (finishes_after (tame_expect _ _ refl) (λ a. finishes_after tame_suffixes (λ a. last_of BlockOwner.While d)))

  repeat_form : (d : ℕ) → Finishes Unclosed true (parse_repeat blk d)
  unfolding parse_repeat number
  repeat_form d = form_node RepeatOp (finishes_after (tame_expect _ _ refl) (λ a. finishes_after tame_suffixes (λ a. last_of BlockOwner.Repeat d)))

  do_form : (d : ℕ) → Finishes Unclosed true (parse_do_while blk d)
  unfolding parse_do_while do_condition number
  do_form d = form_node DoWhileOp (finishes_after (tame_expect _ _ refl) (λ a. finishes_after tame_tail (λ a.
      finishes_outcome (do_condition blk d) (h BlockOwner.DoWhileBody Terminators.While d) (s BlockOwner.DoWhileBody Terminators.While d) refl
      (λ r e. (finishes_after (tame_expect _ _ refl) (λ a. last_of BlockOwner.DoWhile d)).finish r) (finishes_tame (tame_pure false)))))

  -- The then-block's outcome, where no `else` follows; else that of the block behind it.
  else_part : ℕ → BlockParseOutcome → P Bool
  else_part d o = (when at (is ELSE) then (take_token >> parse_line_tail >> blk BlockOwner.If Terminators.End d) else pure o) >>= ended BlockOwner.If

  else_finish : (d : ℕ) (o : BlockParseOutcome) (r : List Sym) → (at (is ELSE) r ≡ false → Final (LastBlock IfOp) true (ended BlockOwner.If o r)) → Final (LastBlock IfOp) true (else_part d o r)
  unfolding else_part ◌>>=◌ peek pure
  else_finish d o r n = c (at (is ELSE) r) refl
    where
      else_block : P BlockParseOutcome
      else_block = take_token >> parse_line_tail >> blk BlockOwner.If Terminators.End d

      c : (u : Bool) → at (is ELSE) r ≡ u → Final (LastBlock IfOp) true ((pick u else_block (pure o) >>= ended BlockOwner.If) r)
      c true e = (finishes_ended BlockOwner.If (finishes_after tame_take (λ a. finishes_after tame_tail (λ a. h BlockOwner.If Terminators.End d)))
          (stops_bind take_token (λ a. stops_bind parse_line_tail (λ a. s BlockOwner.If Terminators.End d)))).finish r
      c false e = n e

  -- An `else` or `end` that is no `else`.
  end_here : (r : List Sym) → at_terminator Terminators.ElseEnd r ≡ true → at (is ELSE) r ≡ false → at (is END) r ≡ true
  unfolding at_terminator at one_of
  end_here [] e n = e
  end_here (x ∷ r) e n = sym (or-false (is END x)) ∙ (rw n at e)

  if_form : (d : ℕ) → Finishes Unclosed true (parse_if blk d)
  unfolding parse_if else_part number
  if_form d = form_node IfOp (finishes_after (tame_expect _ _ refl) (λ a. finishes_after tame_suffixes (λ a. finishes_after tame_tail (λ a.
      finishes_outcome (λ o. pick (reached_eof o) (pure true) (else_part d o)) (h BlockOwner.If Terminators.ElseEnd d) (s BlockOwner.If Terminators.ElseEnd d) refl
      (λ r e. else_finish d BlockParseOutcome.FoundTerminator r (λ n. silent (ended_calm BlockOwner.If r (end_here r e n))))
      (record { finish = λ r. else_finish d BlockParseOutcome.RecoveredImplicitEnd r (λ n. silent ((tame_recovered BlockOwner.If).tame r)) })))))

  control_flow_form : (d : ℕ) → Finishes Unclosed true (parse_control_flow blk d)
  unfolding parse_control_flow
  control_flow_form d = finishes_if (at (is IF)) (if_form d) (finishes_if (at (is DO)) (do_form d) (finishes_if (at (is WHILE)) (while_form d) (repeat_form d)))

-- The depth limit: the rest of the file, and nothing is left.
rejected : (r : List Sym) → (scan all_round true r).rest ≡ []
unfolding scan all_round
rejected [] = refl
rejected (s ∷ r) = rejected r

finishes_reject : Finishes Unclosed BlockParseOutcome.ReachedEof (reject_excessive_control_flow_nesting >> pure BlockParseOutcome.ReachedEof)
unfolding reject_excessive_control_flow_nesting ◌>>=◌ in_node err pure number
finishes_reject = record { finish = λ r. met_end nil _ tt (Unclosed.rest_of_file (scan all_round true r).out (scan_calm all_round hush_all true r)) refl (rejected r) refl }

-- The end of the file.
finishes_eof : (w : BlockOwner) {g : P BlockParseOutcome} → EndsBlock w g →
    EndsBlock w (when eof then (err (number (Message.MissingEnd w)) >> pure BlockParseOutcome.ReachedEof) else g)
unfolding ◌>>=◌ peek eof err pure number
finishes_eof w {g} G = record { finish = c }
  where
    c : (r : List Sym) → Final (BlockFinish w) BlockParseOutcome.ReachedEof ((when eof then (err (number (Message.MissingEnd w)) >> pure BlockParseOutcome.ReachedEof) else g) r)
    c [] = met_end nil (say (missing_end_number w) nil) tt own_report refl refl refl
    c (s ∷ r) = G.finish (s ∷ r)

module _ {again : Blocks} (h : (w : BlockOwner) (t : Terminators) (d : ℕ) → EndsBlock w (again w t d)) (s : (w : BlockOwner) (t : Terminators) (d : ℕ) → Stops t (again w t d)) where
  finishes_round : (lim : ℕ) (w : BlockOwner) (t : Terminators) (d : ℕ) → EndsBlock w (block_round again lim w t d)
  unfolding block_round number
  finishes_round lim w t d =
      finishes_eof w
      (finishes_if (at_terminator t) (finishes_tame (tame_pure _))
      (finishes_if (at regular_trivia) (finishes_after tame_take (λ a. h w t d))
      (finishes_if (at_stray_else t) (finishes_tame (tame_recover w _))
      (finishes_if at_top_level_form_starter_in_block (finishes_tame (tame_recover w _))
      (finishes_if (at (is DocComment)) (finishes_after (tame_error_token _ refl) (λ a. h w t d))
      (finishes_if (at control_flow) (finishes_pick (leb lim d) (finishes_map (λ z. inner_tree) finishes_reject) (finishes_then next (finishes_map (λ z. inner_tree) (control_flow_form inner stop (suc d))) refl into))
      (finishes_if (at starts_instruction) (finishes_after tame_instruction (λ a. h w t d))
      (finishes_after (tame_error_token _ refl) (λ a. h w t d)))))))))
    where
      inner : (w : BlockOwner) (t : Terminators) (d : ℕ) → EndsNode w (in_node Block (again w t d))
      inner w t d = block_node w (h w t d)

      stop : (w : BlockOwner) (t : Terminators) (d : ℕ) → Stops t (in_node Block (again w t d))
      stop w t d = stops_node Block (s w t d)

      next : Bool → P BlockParseOutcome
      next e = pick e (pure BlockParseOutcome.ReachedEof) (again w t d)

      into : (e : Bool) → EndsBlock w (next e)
      into e = finishes_pick e (finishes_tame (tame_pure _)) (h w t d)

finishes_loop : (n lim : ℕ) (w : BlockOwner) (t : Terminators) (d : ℕ) → EndsBlock w (block_loop n lim w t d)
unfolding block_loop
finishes_loop zero lim w t d = finishes_tame (tame_bind (tame_err 0 refl) (λ a. tame_pure _))
finishes_loop (suc n) lim w t d = finishes_round (finishes_loop n lim) (stops_loop n lim) lim w t d

pub finishes_block : (lim : ℕ) (w : BlockOwner) (t : Terminators) (d : ℕ) → EndsNode w (parse_block lim w t d)
unfolding parse_block block_in
finishes_block lim w t d = block_node w (record { finish = λ r. (finishes_loop (suc (length r)) lim w t d).finish r })
