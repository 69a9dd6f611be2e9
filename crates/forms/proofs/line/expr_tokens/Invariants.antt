-- `forms::line::expr_tokens`: `scan`, a token at a time; the counts are no more than the tokens taken. Assumes nothing.
use Prim.Native.Nat.{◌+◌, ◌-◌}
use lib.ListN.{length}
use Rattle.grammar.specs.Line.{expr_round, no_token}
use Rattle.grammar.specs.Nesting.{NestingBelow}
use Rattle.grammar.specs.Run.{scan}
use Rattle.parser.specs.Rep.{world}
use Rattle.parser.proofs.Kit.{Leads}
use Rattle.forms.proofs.line.expr_tokens.Given as goal

abbrev pub invariant-loop-parser : goal.invariant-loop-parser
invariant-loop-parser l =
    Leads (scan expr_round no_token) (world l.initial.parser l.initial.at.c)
    (scan expr_round (record { nesting = l.at.nesting; saw_significant = l.saw_significant })) (world l.parser l.at.c)
    × NestingBelow (l.at.c.pos + 1) l.at.nesting

abbrev pub decreases-loop-parser : goal.decreases-loop-parser
decreases-loop-parser l = length l.parser.kinds.now - l.at.c.pos
