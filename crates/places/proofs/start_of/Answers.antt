-- `places::start_of` meets its contract. Assumes nothing.
use mathlib.Core.Path.{sym}
use Rattle.std.proofs.Common.{arith}
use Rattle.std.proofs.lemmas.Grind.{common_steps}
use Rattle.places.proofs.Laws.{start_behind, start_first, start_later}
use Rattle.places.proofs.start_of.Goals as goal

pub returns-then-ends-i : goal.returns-then-ends-i
returns-then-ends-i c = sym (start_behind _ _ _ c.if-ends-i.true)

pub returns : goal.returns
returns c = grind (arith, common_steps, start_first c.args.ends.now c.args.anchor c.args.i, start_later c.args.ends.now c.args.anchor c.args.i)
