-- `forms::line::result_end`: nothing, or a report. Assumes nothing.
use mathlib.Core.Bool.{true}
use Rattle.forms.specs.Line.{result_end}
use Rattle.parser.proofs.Kit.{on, off, done}
use Rattle.forms.proofs.line.result_end.Goals as goal

pub returns-then-taken : goal.returns-then-taken
unfolding result_end
returns-then-taken c =
    on _ c.if-taken.true (done true)

pub returns : goal.returns
unfolding result_end
returns c =
    off _ c.if-taken.false (c.error_here.ensures.ran)
