-- `parser::cursor::bump`: the event is written, after a report where the token is of no kind, and the cursor goes one on; at the end nothing changes. Assumes nothing.
use mathlib.Core.Path.{refl}
use native.Mathlib.Omega.{arith}
use Rattle.parser.proofs.Laws.{bump_bad, take_end}
use Rattle.parser.proofs.state.Parser.bump.Goals as goal

pub returns-then-k-eq-ERROR : goal.returns-then-k-eq-ERROR
returns-then-k-eq-ERROR c = record {
  ran = bump_bad c.if-p-self.true c.if-k-eq-ERROR.true (c.error_here-a.ensures.ran) c.put-b.ensures;
  moved = λ h. refl;
}

pub returns-then-p-self : goal.returns-then-p-self
returns-then-p-self c = c.bump_plain.ensures.bumped

pub returns : goal.returns
returns c = record { ran = take_end c.if-p-self.false; moved = λ h. omega arith }
