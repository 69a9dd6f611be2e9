-- `lines::walk::SourceWalk::pass_marks` meets its contract. Assumes nothing.
use Rattle.std.specs.Prelude.{◌≡◌, ◌≤◌, ◌*◌}
use Rattle.lines.proofs.walk.SourceWalk.pass_marks.Given as goal

abbrev pub invariant-loop-j : goal.invariant-loop-j
invariant-loop-j l = (l.self.source ≡ l.fn.self.source) × ((l.self.spot.at ≤ l.j * 2048) × (l.self.spot.at ≤ l.to))
