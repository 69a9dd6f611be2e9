-- `blocks::rounds::rounds`: its loop, round by round. Assumes nothing.
use lib.ListN.{length}
use Rattle.parser.proofs.Kit.{Leads}
use Prim.Native.Nat.{◌-◌}
use Rattle.parser.specs.Rep.{Onward, world}
use Rattle.parser.specs.Ahead.{DocKnown}
use Rattle.blocks.specs.Shapes.{ItemAt, rest_at}
use Rattle.blocks.proofs.rounds.rounds.Given as goal

abbrev pub invariant-loop-t : goal.invariant-loop-t
invariant-loop-t l =
    Leads (rest_at l.place) (world l.initial.parser l.initial.c) (rest_at l.place) (world l.parser l.c)
    × Onward (world l.initial.parser l.initial.c) (world l.parser l.c) × DocKnown l.parser.kinds.now l.c.pos l.known × ItemAt l.parser.kinds.now l.c.pos l.item

abbrev pub decreases-loop-t : goal.decreases-loop-t
decreases-loop-t l = length l.parser.kinds.now - l.c.pos
