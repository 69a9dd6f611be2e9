-- `parser::nest::bump_nesting`: the counts, or a report. Assumes nothing.
use Rattle.parser.proofs.Counts.{counted_go, counted_refused}
use Rattle.parser.proofs.state.Parser.bump_nesting.Goals as goal

pub returns-in-Ok : goal.returns-in-Ok
returns-in-Ok c =
    counted_go _ c.bump.ensures c.in-Ok.is

pub returns-in-Err : goal.returns-in-Err
returns-in-Err c =
    counted_refused _ c.bump.ensures c.in-Err.is c.error_here-d.ensures
