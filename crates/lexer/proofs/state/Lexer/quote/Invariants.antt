-- `Lexer::quote` meets its contract: the quote is what its rest comes to, from the cursor and the flags. Assumes nothing.
use Prim.Native.Nat.{◌-◌}
use mathlib.Core.Path.{◌≡◌}
use mathlib.Core.Bool.{true, false}
use lib.ListN.{length}
use Rattle.lexer.specs.Code.{quote_rest}
use Rattle.lexer.proofs.state.Lexer.quote.Given as goal

abbrev pub invariant-loop-self : goal.invariant-loop-self
invariant-loop-self l =
    (l.self.source.now ≡ l.initial.self.source.now) × (quote_rest l.initial.self false true ≡ quote_rest l.self l.taken l.identifier_like)

abbrev pub decreases-loop-self : goal.decreases-loop-self
decreases-loop-self l = length l.self.source.now - l.self.offset
