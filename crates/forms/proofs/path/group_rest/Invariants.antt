-- `forms::path::group_rest`: `scan` with a local, the number of open delimiters, which is no more than the tokens taken and 1. Assumes nothing.
use Prim.Native.Nat.{◌+◌, ◌-◌, ◌≤◌}
use lib.ListN.{length}
use Rattle.grammar.specs.Path.{group_round}
use Rattle.grammar.specs.Run.{scan}
use Rattle.parser.specs.Rep.{world}
use Rattle.parser.proofs.Kit.{Leads}
use Rattle.forms.proofs.path.group_rest.Given as goal

abbrev pub invariant-loop-depth : goal.invariant-loop-depth
invariant-loop-depth l =
    Leads (scan (group_round l.opener l.closer) 1) (world l.initial.parser l.initial.c) (scan (group_round l.opener l.closer) l.depth) (world l.parser l.c)
    × (l.depth ≤ l.c.pos + 1)

abbrev pub decreases-loop-depth : goal.decreases-loop-depth
decreases-loop-depth l = length l.parser.kinds.now - l.c.pos
