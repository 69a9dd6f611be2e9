-- `utf8::ascii::is_ascii` meets its contract: whether the bytes passed are ASCII. Assumes nothing.
use Prim.Native.Nat.{ℕ, ◌<◌}
use lib.ListN.{get_or}
use Rattle.std.specs.Prelude.{◌↔◌, IsTrue}
use Rattle.utf8.proofs.ascii.is_ascii.Given as goal

abbrev pub invariant-loop-b : goal.invariant-loop-b
invariant-loop-b l = IsTrue l.ascii ↔ ((k : ℕ) → k < l.b-index → get_or l.block k 0 < 0x80)
