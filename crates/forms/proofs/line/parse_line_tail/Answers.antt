-- `forms::line::parse_line_tail`: the steps of its callees. Assumes nothing.
use Rattle.parser.proofs.Kit.{◌then◌}
use Rattle.forms.proofs.Tail.{tail_is, takes_same}
use Rattle.forms.proofs.line.parse_line_tail.Goals as goal

pub returns : goal.returns
returns c = takes_same _ tail_is (c.bump_inline_whitespace-c.ensures then c.bump_at.ensures)
