-- `utf8::character::is_four` meets its contract: the ways out at which search takes long, or stops at a limit. Assumes nothing.
use native.Mathlib.Omega.{arith}
use Rattle.utf8.specs.Table.{table_3_7}
use Rattle.utf8.proofs.ByRows.{by_rows}
use Rattle.utf8.proofs.character.is_four.Goals as goal

pub returns-in-240-144-to-191 : goal.returns-in-240-144-to-191
unfolding table_3_7
returns-in-240-144-to-191 c = grind (arith, by_rows)

pub returns-in-240-144-to-191-2 : goal.returns-in-240-144-to-191-2
unfolding table_3_7
returns-in-240-144-to-191-2 c = grind (arith, by_rows)

pub returns-in-240-144-to-191-3 : goal.returns-in-240-144-to-191-3
unfolding table_3_7
returns-in-240-144-to-191-3 c = grind (arith, by_rows)

pub returns-in_default-12 : goal.returns-in_default-12
unfolding table_3_7
returns-in_default-12 c = grind (arith, by_rows)
