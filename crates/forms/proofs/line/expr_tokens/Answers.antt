-- `forms::line::expr_tokens`: `scan`, a token at a time; the counts are no more than the tokens taken. Assumes nothing.
use mathlib.Core.Bool.{false}
use Rattle.grammar.specs.Line.{expr_round}
use Rattle.forms.proofs.Rounds.{expr_locals, expr_saw, expr_next, expr_stops, expr_counts}
use Rattle.parser.proofs.Counts.{loop_begins, loop_counts, none_open}
use Rattle.parser.proofs.Kit.{loop_stops, loop_ends}
use Rattle.forms.proofs.line.expr_tokens.Goals as goal
use Rattle.forms.proofs.line.expr_tokens.Goals.{then-saw_significant, else-saw_significant, then-loop-parser-test+else-not-at_expr_end, else-loop-parser-test}

pub loop-parser-init : goal.loop-parser-init
loop-parser-init c = (loop_begins expr_round (λ n. record { nesting = n; saw_significant = false }) c.default.ensures, none_open _ c.default.ensures)

pub loop-parser-preserved : goal.loop-parser-preserved
loop-parser-preserved c =
    let goes = expr_counts _ _ c.at_expr_end.ensures c.if-not-at_expr_end.true in
    let e = c.bump_nested-at.ensures in (
      loop_counts expr_round (expr_locals _ _) c.loop-parser.invariant.0 c.eof.ensures c.loop-parser-test.true goes e (elim c.if-saw_significant.branch [
        | then-saw_significant w ↦ expr_saw _ w.saw_significant-is w.if-saw_significant.true
        | else-saw_significant w ↦ expr_next _ w.saw_significant-is w.if-saw_significant.false w.is_trivia.ensures w.current.ensures
      ]),
      e.below,
    )

pub returns : goal.returns
returns c = elim c.loop-parser-test.branch [
  | then-loop-parser-test+else-not-at_expr_end w ↦
      (loop_stops expr_round c.loop-parser.invariant.0 (expr_stops _ _ w.at_expr_end.ensures w.if-not-at_expr_end.false)).ran
  | else-loop-parser-test w ↦ (loop_ends expr_round c.loop-parser.invariant.0 c.eof.ensures w.loop-parser-test.false).ran
]
