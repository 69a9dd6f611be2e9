-- `places::places` meets its contract. Assumes nothing.
use Rattle.places.proofs.Going.{Going}
use Rattle.places.proofs.places.Given as goal

abbrev pub invariant-loop-i : goal.invariant-loop-i
invariant-loop-i l = Going l.ends l.anchor l.n l.initial.starts l.initial.stops l.starts l.stops l.i
