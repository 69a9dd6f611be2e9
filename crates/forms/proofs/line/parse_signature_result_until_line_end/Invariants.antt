-- `forms::line::parse_signature_result_until_line_end`: `scan`, a token at a time; the counts are no more than the tokens taken. Assumes nothing.
use mathlib.Core.Bool.{false}
use Prim.Native.Nat.{◌+◌, ◌-◌}
use lib.ListN.{length}
use Rattle.grammar.specs.Line.{ResultType, result_round}
use Rattle.grammar.specs.Nesting.{default, NestingBelow}
use Rattle.grammar.specs.Run.{scan}
use Rattle.parser.specs.Rep.{world}
use Rattle.parser.proofs.Kit.{Leads}
use Rattle.forms.proofs.line.parse_signature_result_until_line_end.Given as goal

abbrev pub first : ResultType
first = record { nesting = default; taken = false }

abbrev pub invariant-loop-parser : goal.invariant-loop-parser
invariant-loop-parser l =
    Leads (scan result_round first) (world l.initial.parser l.initial.at.c) (scan result_round (record { nesting = l.at.nesting; taken = l.taken })) (world l.parser l.at.c)
    × NestingBelow (l.at.c.pos + 1) l.at.nesting

abbrev pub decreases-loop-parser : goal.decreases-loop-parser
decreases-loop-parser l = length l.parser.kinds.now - l.at.c.pos
