-- `blocks::header::do_header`: the opening event, and the line. Assumes nothing.
use Rattle.blocks.proofs.Laws.{opened}
use Rattle.parser.proofs.Kit.{◌then_to◌}
use Rattle.blocks.proofs.header.do_header.Goals as goal

pub returns : goal.returns
returns c =
    opened c.start_node-a.ensures
    (λ next u r h. c.keyword_line.ensures.key then_to c.keyword_line.ensures.line then_to h)
    c.keyword_line.ensures.onward
    c.keyword_line.ensures.past
