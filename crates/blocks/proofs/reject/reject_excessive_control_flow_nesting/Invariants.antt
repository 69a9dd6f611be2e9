-- `blocks::reject::reject_excessive_control_flow_nesting`: the rest of the tokens, one at a time. Assumes nothing.
use mathlib.Core.Bool.{true}
use Prim.Native.Nat.{◌-◌}
use lib.ListN.{length}
use Rattle.grammar.specs.Block.{all_round}
use Rattle.grammar.specs.Run.{scan}
use Rattle.parser.specs.Rep.{world}
use Rattle.parser.proofs.Kit.{Leads}
use Rattle.blocks.proofs.reject.reject_excessive_control_flow_nesting.Given as goal

abbrev pub invariant-loop-parser : goal.invariant-loop-parser
invariant-loop-parser l = Leads (scan all_round true) (world l.initial.parser l.initial.c) (scan all_round true) (world l.parser l.c)

abbrev pub decreases-loop-parser : goal.decreases-loop-parser
decreases-loop-parser l = length l.parser.kinds.now - l.c.pos
