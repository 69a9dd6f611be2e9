-- `Lexer::advance_while` meets its contract: what the run takes from its start is what it takes from the cursor on.
use Prim.Native.Nat.{ℕ, ◌-◌}
use mathlib.Core.Path.{◌≡◌}
use mathlib.Core.Bool.{Bool}
use lib.ListN.{length}
use Rattle.lexer.specs.Code.{AnswersAs}
use Rattle.lexer.proofs.Laws.{Reaches}
use Rattle.lexer.proofs.state.Lexer.advance_while.Given as goal

abbrev pub invariant-loop-self : goal.invariant-loop-self
invariant-loop-self g l =
    (l.self.source.now ≡ l.initial.self.source.now)
    × ((p : ℕ → Bool) → AnswersAs p (goal.F-post g l.goes_on) → Reaches p l.self.source.now l.initial.self.offset l.self.offset)

abbrev pub decreases-loop-self : goal.decreases-loop-self
decreases-loop-self g l = length l.self.source.now - l.self.offset
