-- `forms::instruction::further_tokens`: `scan`, a token at a time; the counts are no more than the tokens taken. Assumes nothing.
use mathlib.Core.Path.{refl, sym, ◌∙◌}
use native.Mathlib.Omega.{arith}
use Rattle.grammar.specs.Instruction.{instruction_round}
use Rattle.grammar.specs.Look.{one_of, is_trivia}
use Rattle.forms.proofs.Rounds.{instruction_locals, instruction_next, instruction_stops, instruction_takes, instruction_counts}
use Rattle.parser.proofs.Counts.{loop_begins, loop_counts, none_open, below_le}
use Rattle.parser.proofs.Kit.{loop_stops, loop_ends, loop_takes}
use Rattle.parser.proofs.Laws.{eof_within, at_by}
use Rattle.forms.proofs.instruction.further_tokens.Goals as goal
use Rattle.forms.proofs.instruction.further_tokens.Goals.{then-loop-parser-test+else-not-at_instruction_end, else-loop-parser-test}

pub loop-parser-init : goal.loop-parser-init
loop-parser-init c = (loop_begins instruction_round (λ n. record { nesting = n; previous = c.args.previous0 }) c.default.ensures, none_open _ c.default.ensures)

pub loop-parser-smaller-then-is_trivia : goal.loop-parser-smaller-then-is_trivia
loop-parser-smaller-then-is_trivia c =
    let h = eof_within c.loop-parser.parser.kinds.now c.loop-parser.at.c.pos c.eof.ensures c.loop-parser-test.true in
    omega (arith, h, c.bump-at.ensures.moved h)

pub loop-parser-preserved-then-is_trivia : goal.loop-parser-preserved-then-is_trivia
unfolding one_of
loop-parser-preserved-then-is_trivia c =
    let i = c.loop-parser.invariant in
    let m = c.bump-at.ensures.moved (eof_within c.loop-parser.parser.kinds.now c.loop-parser.at.c.pos c.eof.ensures c.loop-parser-test.true) in
    let t = at_by is_trivia _ refl c.is_trivia.ensures c.current-k.ensures in
    let e = instruction_takes _ _ c.at_instruction_end.ensures c.if-not-at_instruction_end.true (sym t ∙ c.if-is_trivia.true) in
    (loop_takes instruction_round i.0 (sym c.eof.ensures ∙ c.loop-parser-test.true) e c.bump-at.ensures.ran, below_le (omega (arith, m)) i.1)

pub loop-parser-preserved : goal.loop-parser-preserved
unfolding one_of
loop-parser-preserved c =
    let t = at_by is_trivia _ refl c.is_trivia.ensures c.current-k.ensures in
    let goes = instruction_counts _ _ c.at_instruction_end.ensures c.if-not-at_instruction_end.true (sym t ∙ c.if-is_trivia.false) in
    let next = instruction_next _ c.current-k.ensures in
    let e = c.bump_nested-at.ensures in
    (loop_counts instruction_round (instruction_locals _) c.loop-parser.invariant.0 c.eof.ensures c.loop-parser-test.true goes e next, e.below)

pub returns : goal.returns
returns c = elim c.loop-parser-test.branch [
  | then-loop-parser-test+else-not-at_instruction_end w ↦
      (loop_stops instruction_round c.loop-parser.invariant.0 (instruction_stops _ _ w.at_instruction_end.ensures w.if-not-at_instruction_end.false)).ran
  | else-loop-parser-test w ↦ (loop_ends instruction_round c.loop-parser.invariant.0 c.eof.ensures w.loop-parser-test.false).ran
]
