-- `utf8::error_len::start_length` meets its contract: the ways out with 3, which search would look at longest where they are wrong.
-- Assumes nothing.
use native.Mathlib.Omega.{arith}
use Rattle.utf8.specs.Table.{table_3_7}
use Rattle.utf8.proofs.StartLength.{starts}
use Rattle.utf8.proofs.error_len.start_length.Goals as goal

pub returns-in-240 : goal.returns-in-240
unfolding table_3_7
returns-in-240 c = grind (arith, starts c.args.bytes.now)

pub returns-in-240-2 : goal.returns-in-240-2
unfolding table_3_7
returns-in-240-2 c = grind (arith, starts c.args.bytes.now)

pub returns-in-240-3 : goal.returns-in-240-3
unfolding table_3_7
returns-in-240-3 c = grind (arith, starts c.args.bytes.now)
