-- `forms::instruction::instruction_tokens`: the plain tokens, and what goes on behind them, if anything does. Assumes nothing.
use mathlib.Core.Path.{refl}
use Rattle.grammar.specs.Instruction.{instruction_round}
use Rattle.parser.proofs.Kit.{scan_stop}
use Rattle.forms.specs.Instruction.{behind}
use Rattle.forms.proofs.Rounds.{instruction_stops}
use Rattle.forms.proofs.instruction.instruction_tokens.Goals as goal

pub returns-then-ends_plainly : goal.returns-then-ends_plainly
returns-then-ends_plainly c =
    let p = c.plain_tokens-lead in
    let l = behind p.result.previous in
    (p.ensures.leads _ _ (scan_stop instruction_round l (instruction_stops l _ refl (c.ends_plainly.ensures c.if-ends_plainly.true)))).ran

pub returns : goal.returns
returns c =
    let f = c.further_tokens.ensures in
    let l = c.plain_tokens-lead.ensures in
    (l.leads _ _ (record { ran = f; val = refl })).ran
