-- `declarations::type_decl::type_tokens`: `scan`, a token at a time; the counts are no more than the tokens taken. Assumes nothing.
use Prim.Native.Nat.{◌+◌, ◌-◌}
use lib.ListN.{length}
use Rattle.grammar.specs.Line.{type_round}
use Rattle.grammar.specs.Nesting.{default, NestingBelow}
use Rattle.grammar.specs.Run.{scan}
use Rattle.parser.specs.Ahead.{BreakKnown}
use Rattle.parser.specs.Rep.{world}
use Rattle.parser.proofs.Kit.{Leads}
use Rattle.declarations.proofs.type_decl.type_tokens.Given as goal

abbrev pub invariant-loop-known : goal.invariant-loop-known
invariant-loop-known l = Leads (scan type_round default) (world l.initial.parser l.initial.at.c) (scan type_round l.at.nesting) (world l.parser l.at.c) × NestingBelow (l.at.c.pos + 1) l.at.nesting × BreakKnown l.parser.kinds.now l.at.c.pos l.known

abbrev pub decreases-loop-known : goal.decreases-loop-known
decreases-loop-known l = length l.parser.kinds.now - l.at.c.pos
