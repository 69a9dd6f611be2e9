-- `lines::spot::Spot::run_to` meets its contract. Assumes nothing.
use native.Mathlib.Omega.{arith}
use Rattle.lines.proofs.Spots.{few}
use Rattle.lines.proofs.spot.Spot.run_to.Goals as goal

pub overflow_add-spot : goal.overflow_add-spot
overflow_add-spot c = omega (arith, few _ _ c.loop-n.invariant, c.loop-n-test.true)
