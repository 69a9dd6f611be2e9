-- `places::stop_of` meets its contract. Assumes nothing.
use Rattle.std.proofs.Common.{arith}
use Rattle.std.proofs.lemmas.Grind.{common_steps}
use Rattle.places.proofs.Laws.{stop_at, stop_behind}
use Rattle.places.proofs.stop_of.Goals as goal

pub returns : goal.returns
returns c = grind (arith, common_steps, stop_at c.args.ends.now c.args.anchor c.args.i, stop_behind c.args.ends.now c.args.anchor c.args.i)
