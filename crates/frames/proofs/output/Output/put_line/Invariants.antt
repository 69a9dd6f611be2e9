-- `Output::put_line`: the buffer stays as long as it was. Assumes nothing.
use Rattle.std.proofs.Common.{◌≡◌}
use Rattle.frames.proofs.output.Output.put_line.Given as goal

abbrev pub invariant-loop-i : goal.invariant-loop-i
invariant-loop-i g l = l.self.capacity ≡ l.fn.self.capacity
