-- `forms::instruction::further_tokens`: `scan`, a token at a time; the counts are no more than the tokens taken. Assumes nothing.
use Prim.Native.Nat.{◌+◌, ◌-◌}
use lib.ListN.{length}
use Rattle.grammar.specs.Instruction.{instruction_round}
use Rattle.grammar.specs.Nesting.{NestingBelow}
use Rattle.grammar.specs.Run.{scan}
use Rattle.parser.specs.Rep.{world}
use Rattle.forms.specs.Instruction.{behind}
use Rattle.parser.proofs.Kit.{Leads}
use Rattle.forms.proofs.instruction.further_tokens.Given as goal

abbrev pub invariant-loop-parser : goal.invariant-loop-parser
invariant-loop-parser l =
    Leads (scan instruction_round (behind l.initial.previous)) (world l.initial.parser l.initial.at.c)
    (scan instruction_round (record { nesting = l.at.nesting; previous = l.previous })) (world l.parser l.at.c)
    × NestingBelow (l.at.c.pos + 1) l.at.nesting

abbrev pub decreases-loop-parser : goal.decreases-loop-parser
decreases-loop-parser l = length l.parser.kinds.now - l.at.c.pos
