-- `forms::instruction::plain_tokens`: each round is one of `scan`'s that takes the token and leaves the counts. Assumes nothing.
use mathlib.Core.Path.{◌≡◌}
use Prim.Native.Nat.{◌-◌}
use lib.ListN.{length}
use Rattle.parser.specs.Rep.{world}
use Rattle.forms.specs.Instruction.{open_behind, PlainTokens}
use Rattle.forms.proofs.instruction.plain_tokens.Given as goal

abbrev pub invariant-loop-c : goal.invariant-loop-c
invariant-loop-c l = PlainTokens (world l.initial.parser l.initial.c) (world l.parser l.c) l.previous × (l.mask ≡ open_behind l.previous)

abbrev pub decreases-loop-c : goal.decreases-loop-c
decreases-loop-c l = length l.parser.kinds.now - l.c.pos
