-- `lines::walk::SourceWalk::jump` meets its contract: the mark before a place does not lie behind it. Assumes nothing.
use native.Mathlib.Omega.{arith}
use Rattle.lines.proofs.walk.SourceWalk.jump.Goals as goal

pub returns-then-to-self-clause-ahead : goal.returns-then-to-self-clause-ahead
returns-then-to-self-clause-ahead c = omega (arith, c.min.ensures, (c.args.self.now.marks_stand c.min.result (omega (arith, c.min.ensures))).before)
