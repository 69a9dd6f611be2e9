-- What falls is the tokens left; a loop's rounds up to where it began are rounds up to where it is. Assumes nothing.
use Prim.Native.Nat.{◌+◌, ◌-◌, ◌*◌}
use lib.ListN.{length}
use Rattle.parser.specs.Rep.{world}
use Rattle.blocks.specs.Shapes.{any_place, stop}
use Rattle.blocks.proofs.Laws.{Going}
use Rattle.blocks.proofs.block.+forms.Given as goal

abbrev pub decreases-block_from : goal.decreases-block_from
decreases-block_from l = 4 * (length l.parser.now.kinds.now - l.start.c.pos) + 2

abbrev pub decreases-inner_block : goal.decreases-inner_block
decreases-inner_block l = 4 * (length l.parser.now.kinds.now - l.c0.pos) + 3

abbrev pub decreases-parse_control_flow : goal.decreases-parse_control_flow
decreases-parse_control_flow l = 4 * (length l.parser.now.kinds.now - l.c0.pos) + 1

abbrev pub decreases-parse_do_while : goal.decreases-parse_do_while
decreases-parse_do_while l = 4 * (length l.parser.now.kinds.now - l.c0.pos)

abbrev pub decreases-parse_if : goal.decreases-parse_if
decreases-parse_if l = 4 * (length l.parser.now.kinds.now - l.c0.pos)

abbrev pub decreases-parse_repeat : goal.decreases-parse_repeat
decreases-parse_repeat l = 4 * (length l.parser.now.kinds.now - l.c0.pos)

abbrev pub decreases-parse_while : goal.decreases-parse_while
decreases-parse_while l = 4 * (length l.parser.now.kinds.now - l.c0.pos)

abbrev pub invariant-block_from-loop-s : goal.invariant-block_from-loop-s
invariant-block_from-loop-s l =
    Going (any_place l.place) (world l.initial.parser (stop l.initial.s)) l.initial.s (world l.parser (stop l.s)) l.s

abbrev pub decreases-block_from-loop-s : goal.decreases-block_from-loop-s
decreases-block_from-loop-s l = length l.parser.kinds.now - (stop l.s).pos
