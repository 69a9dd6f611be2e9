-- `lexer::runs::none_is` meets its contract: while x was not met, it was not passed. Assumes nothing.
use mathlib.Core.Path.{◌≡◌}
use mathlib.Core.Bool.{true}
use Rattle.lexer.specs.Code.{other_than, AllHold}
use Rattle.lexer.proofs.runs.none_is.Given as goal

abbrev pub invariant-loop-b : goal.invariant-loop-b
invariant-loop-b l = l.none ≡ true → AllHold (other_than l.x) l.block 0 l.b-index
