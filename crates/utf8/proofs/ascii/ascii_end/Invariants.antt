-- `utf8::ascii::ascii_end` meets its contract: each block passed is 64 characters. Assumes nothing.
use Prim.Native.Nat.{◌+◌, ◌*◌}
use Rattle.utf8.specs.Passes.{Passes}
use Rattle.utf8.proofs.ascii.ascii_end.Given as goal

abbrev pub invariant-loop-i : goal.invariant-loop-i
invariant-loop-i l = Passes l.source l.from (l.from + 64 * l.i)
