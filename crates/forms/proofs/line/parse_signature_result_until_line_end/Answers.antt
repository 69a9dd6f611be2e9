-- `forms::line::parse_signature_result_until_line_end`: `scan`, a token at a time; the counts are no more than the tokens taken. Assumes nothing.
use mathlib.Core.Bool.{false}
use mathlib.Core.Path.{refl}
use Rattle.forms.specs.Line.{result_end}
use Rattle.grammar.specs.Line.{result_round, parse_signature_result_until_line_end}
use Rattle.forms.proofs.Rounds.{result_locals, result_stops, result_counts}
use Rattle.parser.proofs.Counts.{loop_begins, loop_counts, none_open}
use Rattle.parser.proofs.Kit.{bind, loop_stops, loop_ends}
use Rattle.forms.proofs.line.parse_signature_result_until_line_end.Goals as goal
use Rattle.forms.proofs.line.parse_signature_result_until_line_end.Goals.{then-loop-parser-test+else-not-at_line_end, else-loop-parser-test}

pub loop-parser-init : goal.loop-parser-init
loop-parser-init c = (loop_begins result_round (λ n. record { nesting = n; taken = false }) c.default.ensures, none_open _ c.default.ensures)

pub loop-parser-preserved : goal.loop-parser-preserved
loop-parser-preserved c =
    let goes = result_counts _ _ c.at_line_end.ensures c.if-not-at_line_end.true in
    let e = c.bump_nested-at.ensures in
    (loop_counts result_round result_locals c.loop-parser.invariant.0 c.eof.ensures c.loop-parser-test.true goes e refl, e.below)

pub returns : goal.returns
unfolding parse_signature_result_until_line_end result_end
returns c = elim c.loop-parser-test.branch [
  | then-loop-parser-test+else-not-at_line_end w ↦
      bind _ (loop_stops result_round c.loop-parser.invariant.0 (result_stops _ _ w.at_line_end.ensures w.if-not-at_line_end.false)) c.result_end.ensures
  | else-loop-parser-test w ↦ bind _ (loop_ends result_round c.loop-parser.invariant.0 c.eof.ensures w.loop-parser-test.false) c.result_end.ensures
]
