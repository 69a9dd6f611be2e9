-- `lines::spot::Spot::run_to` meets its contract: the spot is that of the loop's place. Assumes nothing.
use Rattle.lines.specs.Places.{Stands}
use Rattle.lines.proofs.spot.Spot.run_to.Given as goal

abbrev pub invariant-loop-n : goal.invariant-loop-n
invariant-loop-n l = Stands l.source (record { at = l.n; ends = l.spot.ends; line_start = l.spot.line_start })
