-- `parser::look::skip_up_to` meets its contract: what is skipped from the start is what is skipped from the cursor on. Assumes nothing.
use Prim.Native.Nat.{◌≤◌, ◌-◌}
use mathlib.Core.Path.{◌≡◌}
use lib.ListN.{length, drop}
use Rattle.grammar.specs.Look.{skip}
use Rattle.parser.specs.Sets.{trivia_to}
use Rattle.parser.proofs.state.Parser.skip_up_to.Given as goal

abbrev pub invariant-loop-i : goal.invariant-loop-i
invariant-loop-i l = (l.p ≤ l.i) × (skip (trivia_to l.last) (drop l.p l.self.kinds.now) ≡ skip (trivia_to l.last) (drop l.i l.self.kinds.now))

abbrev pub decreases-loop-i : goal.decreases-loop-i
decreases-loop-i l = length l.self.kinds.now - l.i
